-- The forms of names as their parts, joined.
use Rattle.std.specs.Prelude.{◌≡◌, ◌≤◌, ℕ, List, ◌++◌, Bool, true, not, ◌&&◌, ◌==◌, length, flat_map, codes}
use Rattle.std.specs.List.{AllByRecursion, list_all}
use Rattle.iam_names.specs.Forms.{is_id_byte, is_word_byte, is_role_byte, is_host_byte, is_plain_byte}

-- one byte or more, each of which passes the test
pub record IsMadeOf (test : ℕ → Bool) (text : List ℕ) : Type 0 where
  pub some : 1 ≤ length text
  pub bytes : list_all test text ≡ true

-- NAME@PROJECT.iam.gserviceaccount.com
pub record IsAccountText (text : List ℕ) : Type 0 where
  pub name : List ℕ
  pub project : List ℕ
  pub text_is : text ≡ name ++ (codes "@" ++ (project ++ codes ".iam.gserviceaccount.com"))
  pub name_is : IsMadeOf is_id_byte name
  pub name_size : length name ≤ 63
  pub project_is : IsMadeOf is_id_byte project
  pub project_size : length project ≤ 63

-- SERVICE.RESOURCE.VERB
pub record IsPermissionText (text : List ℕ) : Type 0 where
  pub service : List ℕ
  pub resource : List ℕ
  pub verb : List ℕ
  pub text_is : text ≡ service ++ (codes "." ++ (resource ++ (codes "." ++ verb)))
  pub service_is : IsMadeOf is_word_byte service
  pub resource_is : IsMadeOf is_word_byte resource
  pub verb_is : IsMadeOf is_word_byte verb
  pub size : length text ≤ 128

-- roles/ID
pub record IsRoleText (text : List ℕ) : Type 0 where
  pub id : List ℕ
  pub text_is : text ≡ codes "roles/" ++ id
  pub id_is : IsMadeOf is_role_byte id
  pub id_size : length id ≤ 64

-- visible ASCII, and neither a slash, a double quote nor a backslash
abbrev pub is_segment_byte : ℕ → Bool
is_segment_byte byte = is_plain_byte byte && not (byte == 47)

-- //HOST, and any number of /SEGMENT
pub record IsResourceText (text : List ℕ) : Type 0 where
  pub host : List ℕ
  pub segments : List (List ℕ)
  pub text_is : text ≡ codes "//" ++ (host ++ flat_map (λ segment. codes "/" ++ segment) segments)
  pub host_is : IsMadeOf is_host_byte host
  pub segments_are : AllByRecursion (IsMadeOf is_segment_byte) segments
  pub size : length text ≤ 1024
