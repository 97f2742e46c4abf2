-- The forms of names, as tests of their bytes.
use Rattle.std.specs.Prelude.{ℕ, List, [], ◌∷◌, Bool, false, not, ◌&&◌, ◌||◌, ◌==◌, nat_le, length, Option, codes}
use Rattle.std.specs.List.{list_all, slice_split}
use Rattle.std.specs.Option.{option_map_or}
use Rattle.std.specs.Str.{bytes_eq}
use Rattle.base_types.specs.Forms.{has_size, is_visible}
use Rattle.iam_names.specs.Cuts.{after, cut_at}

-- 0 to 9
abbrev pub is_digit : ℕ → Bool
is_digit byte = nat_le 48 byte && nat_le byte 57

-- a to z
abbrev pub is_lower : ℕ → Bool
is_lower byte = nat_le 97 byte && nat_le byte 122

-- A to Z and a to z
abbrev pub is_letter : ℕ → Bool
is_letter byte = (nat_le 65 byte && nat_le byte 90) || is_lower byte

-- a letter or a digit
abbrev pub is_word_byte : ℕ → Bool
is_word_byte byte = is_letter byte || is_digit byte

-- a to z, a digit or a hyphen
abbrev pub is_id_byte : ℕ → Bool
is_id_byte byte = (is_lower byte || is_digit byte) || (byte == 45)

-- a to z, a digit, a dot or a hyphen
abbrev pub is_host_byte : ℕ → Bool
is_host_byte byte = is_id_byte byte || (byte == 46)

-- neither a double quote nor a backslash
abbrev pub is_plain_byte : ℕ → Bool
is_plain_byte byte = is_visible byte && (not (byte == 34) && not (byte == 92))

-- whether the value is there and passes
abbrev pub passes : {A : Type 0} → (A → Bool) → Option A → Bool
passes test there = option_map_or test there false

-- whether the text's first byte is this one
abbrev pub begins_with : ℕ → List ℕ → Bool
begins_with byte [] = false
begins_with byte (x ∷ text) = x == byte

-- a project: decimal, 1 to 19 digits, and not 0
abbrev pub is_project : List ℕ → Bool
is_project text = has_size 1 19 text && (list_all is_digit text && not (begins_with 48 text))

-- a pool or a provider
abbrev pub is_id : List ℕ → Bool
is_id text = has_size 4 32 text && list_all is_id_byte text

-- a part of an account
abbrev pub is_label : List ℕ → Bool
is_label text = has_size 1 63 text && list_all is_id_byte text

-- an account's project and domain, behind the @
abbrev pub is_account_home : List ℕ → Bool
is_account_home text = passes (λ parts. is_label parts.0 && bytes_eq parts.1 (codes "iam.gserviceaccount.com")) (cut_at 46 text)

-- an account: NAME@PROJECT.iam.gserviceaccount.com
abbrev pub is_account : List ℕ → Bool
is_account text = passes (λ parts. is_label parts.0 && is_account_home parts.1) (cut_at 64 text)

-- one part of a permission
abbrev pub is_word : List ℕ → Bool
is_word text = nat_le 1 (length text) && list_all is_word_byte text

-- two parts with a dot between them
abbrev pub are_two_words : List ℕ → Bool
are_two_words text = passes (λ parts. is_word parts.0 && is_word parts.1) (cut_at 46 text)

-- three parts with dots between them
abbrev pub are_three_words : List ℕ → Bool
are_three_words text = passes (λ parts. is_word parts.0 && are_two_words parts.1) (cut_at 46 text)

-- a permission: three parts with dots between them, at most 128 bytes
abbrev pub is_permission : List ℕ → Bool
is_permission text = nat_le (length text) 128 && are_three_words text

-- a byte of a role behind roles/
abbrev pub is_role_byte : ℕ → Bool
is_role_byte byte = is_word_byte byte || ((byte == 46) || (byte == 95))

-- what stands behind roles/ in a role
abbrev pub is_role_id : List ℕ → Bool
is_role_id text = has_size 1 64 text && list_all is_role_byte text

-- a role: roles/ and 1 to 64 letters, digits, dots, underscores
abbrev pub is_role : List ℕ → Bool
is_role text = passes is_role_id (after (codes "roles/") text)

-- a scope word
abbrev pub is_scope_word : List ℕ → Bool
is_scope_word text = has_size 1 128 text && list_all is_plain_byte text

-- a to z, a digit or an underscore
abbrev pub is_attribute_byte : ℕ → Bool
is_attribute_byte byte = (is_lower byte || is_digit byte) || (byte == 95)

-- an attribute's name
abbrev pub is_attribute_name : List ℕ → Bool
is_attribute_name text = has_size 1 100 text && list_all is_attribute_byte text

-- a resource's host
abbrev pub is_host : List ℕ → Bool
is_host text = nat_le 1 (length text) && list_all is_host_byte text

-- one segment of a resource. It has no slash, since it stands between slashes.
abbrev pub is_segment : List ℕ → Bool
is_segment text = nat_le 1 (length text) && list_all is_plain_byte text

-- segments with slashes between them
abbrev pub are_segments : List ℕ → Bool
are_segments text = list_all is_segment (slice_split (λ byte. byte == 47) text)

-- a host, or a host, a slash and segments
abbrev pub is_path : List ℕ → Bool
is_path text =
    option_map_or (λ parts. is_host parts.0 && are_segments parts.1) (cut_at 47 text) (is_host text)

-- a path behind two slashes
abbrev pub is_slashed_path : List ℕ → Bool
is_slashed_path text = passes is_path (after (codes "//") text)

-- a resource: //HOST and then any number of /SEGMENT, at most 1,024 bytes
abbrev pub is_resource : List ℕ → Bool
is_resource text = nat_le (length text) 1024 && is_slashed_path text
