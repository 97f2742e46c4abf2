-- A search of some bytes for the replies of HTTP that stand at their front. Each search tries what can stand there in every way, and hands
-- what it found and the bytes behind it to a test.
use Rattle.std.specs.Prelude.{ℕ, zero, suc, List, [], ◌∷◌, codes, length, map, Bool, true, false, not, ◌||◌, ◌&&◌, ◌==◌, Option, None, Some}
use Rattle.std.specs.Char.{is_ascii_digit}
use Rattle.std.specs.Fmt.{decimal}
use Rattle.std.specs.List.{list_all}
use Rattle.std.specs.Str.{bytes_eq}
use Rattle.std.specs.Str.Parse.{digits_value}
use Rattle.httparse.specs.Ascii.{space, colon}
use Rattle.httparse.specs.Grammar.{Field, LineEnd, crlf, lf, is_token, is_value_byte, print_end, print_version}
use Rattle.httparse.specs.Spans.{name_and_value}
use Rattle.client_link.specs.declared.target.Target.{Target}
use Rattle.client_proto.specs.Replies.{reading_of, values}
use Rattle.client_proto.specs.declared.reply.ReadReply.{ReadReply}
use Rattle.client_proto.specs.declared.reply.ReadReply.TheVariants as reading

-- ---- parts of a head

-- some cut of the bytes in two passes
abbrev pub some_cut : (List ℕ → List ℕ → Bool) → List ℕ → Bool
some_cut passes [] = passes [] []
some_cut passes (byte ∷ bytes) = passes [] (byte ∷ bytes) || some_cut (λ front rest. passes (byte ∷ front) rest) bytes

-- the bytes begin with that one, and the others pass
abbrev pub behind : ℕ → (List ℕ → Bool) → List ℕ → Bool
behind first passes [] = false
behind first passes (byte ∷ bytes) = (byte == first) && passes bytes

-- an end of a line
unfoldable pub some_line_end : (LineEnd → List ℕ → Bool) → List ℕ → Bool
some_line_end passes bytes =
    some_cut (λ front rest. (bytes_eq front (print_end crlf) && passes crlf rest) || (bytes_eq front (print_end lf) && passes lf rest)) bytes

-- at most so many empty lines
abbrev pub some_blank_lines : ℕ → (List ℕ → Bool) → List ℕ → Bool
some_blank_lines zero passes bytes = passes bytes
some_blank_lines (suc most) passes bytes = passes bytes || some_line_end (λ end rest. some_blank_lines most passes rest) bytes

-- HTTP/1.0 or HTTP/1.1
unfoldable pub some_version : (List ℕ → Bool) → List ℕ → Bool
some_version passes bytes = some_cut (λ front rest. (bytes_eq front (print_version 0) || bytes_eq front (print_version 1)) && passes rest) bytes

-- the three digits of a status
unfoldable pub some_digits : (List ℕ → List ℕ → Bool) → List ℕ → Bool
some_digits passes bytes = some_cut (λ digits rest. ((length digits == 3) && list_all is_ascii_digit digits) && passes digits rest) bytes

-- a reason phrase, or none
unfoldable pub some_reason : (List ℕ → Bool) → List ℕ → Bool
some_reason passes bytes = passes bytes || behind space (some_cut (λ phrase rest. list_all is_value_byte phrase && passes rest)) bytes

-- a value, and the end of its line, behind a name
abbrev pub ends_field : (Field → List ℕ → Bool) → List ℕ → List ℕ → List ℕ → Bool
ends_field passes name raw bytes =
    list_all is_value_byte raw && some_line_end (λ end rest. passes (record { name = name; raw = raw; end = end }) rest) bytes

-- a name, and a colon and a value behind it
abbrev pub begins_field : (Field → List ℕ → Bool) → List ℕ → List ℕ → Bool
begins_field passes name bytes = is_token name && behind colon (some_cut (ends_field passes name)) bytes

-- a field line
unfoldable pub some_field : (Field → List ℕ → Bool) → List ℕ → Bool
some_field passes bytes = some_cut (begins_field passes) bytes

-- at most so many field lines
abbrev pub some_fields : ℕ → (List Field → List ℕ → Bool) → List ℕ → Bool
some_fields zero passes bytes = passes [] bytes
some_fields (suc most) passes bytes = passes [] bytes || some_field (λ field rest. some_fields most (λ fields others. passes (field ∷ fields) others) rest) bytes

-- at most 64 field lines, and the empty line behind them
unfoldable pub some_section : (List Field → List ℕ → Bool) → List ℕ → Bool
some_section passes bytes = some_fields 64 (λ fields. some_line_end (λ last rest. passes fields rest)) bytes

-- the line of a status
unfoldable pub some_status_line : (List ℕ → List ℕ → Bool) → List ℕ → Bool
some_status_line passes bytes =
    some_version (behind space (some_digits (λ digits. some_reason (some_line_end (λ end rest. passes digits rest))))) bytes

-- a head, by the digits of its status and its fields
unfoldable pub some_head : (List ℕ → List Field → List ℕ → Bool) → List ℕ → Bool
some_head passes bytes = some_blank_lines (length bytes) (some_status_line (λ digits. some_section (passes digits))) bytes

-- ---- a reply

-- the one text of the list is that one
abbrev pub is_only : List ℕ → List (List ℕ) → Bool
is_only text [] = false
is_only text (one ∷ []) = bytes_eq one text
is_only text (one ∷ (other ∷ texts)) = false

-- a reply with its status and its body
unfoldable pub some_reply : (ℕ → List ℕ → Bool) → List ℕ → Bool
some_reply passes bytes =
    some_head (λ digits fields. some_cut (λ body more.
    is_only (decimal (length body)) (values (codes "content-length") (map name_and_value fields)) && passes (digits_value 10 digits) body)) bytes

-- ---- what it says

-- a refusal, or a bad reply
abbrev pub is_no_token : ReadReply → Bool
is_no_token (reading.Token token exp) = false
is_no_token (reading.Refused status) = true
is_no_token reading.Bad = true

-- no reply stands there, or one that gives no token, whenever it was asked for
unfoldable pub is_failed_reply : Target → List ℕ → Bool
is_failed_reply target bytes =
    not (some_reply (λ status body. true) bytes) || some_reply (λ status body. is_no_token (reading_of target 0 status body)) bytes

-- nothing is there
abbrev pub has_no_subject : Option (List ℕ) → Bool
has_no_subject None = true
has_no_subject (Some subject) = false
