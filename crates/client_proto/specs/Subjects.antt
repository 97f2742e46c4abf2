-- The subject token in a file.
use Rattle.std.specs.Prelude.{◌≡◌, ℕ, List, [], ◌∷◌, reverse, length, Bool, ◌||◌, ◌&&◌, ◌==◌, nat_le, Option, None, Some, option_and_then, Result, ⊤, if◌then◌else◌}
use Rattle.base_types.specs.Forms.{is_visible_text, passing}
use Rattle.base_types.specs.Reading.{ReadsOr}
use Rattle.json_text.specs.Document.{document, text_at}
use Rattle.client_proto.specs.declared.fault.SubjectFault.{SubjectFault}
use Rattle.client_proto.specs.declared.fault.SubjectFault.TheVariants.{Bad, Memory}

-- a space, a tab, CR or LF
abbrev pub is_blank : ℕ → Bool
is_blank byte = (byte == 32) || ((byte == 9) || ((byte == 13) || (byte == 10)))

-- the bytes from the first that is no blank
abbrev pub skip_blanks : List ℕ → List ℕ
skip_blanks [] = []
skip_blanks (byte ∷ bytes) = if is_blank byte then skip_blanks bytes else byte ∷ bytes

-- the bytes without the blanks at their end
abbrev pub trimmed : List ℕ → List ℕ
trimmed bytes = reverse (skip_blanks (reverse bytes))

-- visible ASCII, at least one
abbrev pub is_subject : List ℕ → Bool
is_subject text = nat_le 1 (length text) && is_visible_text text

-- the text of a member of the JSON object that the bytes are
abbrev pub subject_under : List ℕ → List ℕ → Option (List ℕ)
subject_under field bytes = option_and_then (passing is_subject) (option_and_then (text_at field) (document bytes))

-- the subject token that a file has, where it is one: the file without the blanks at its end, or a member of it
unfoldable pub subject_in : Option (List ℕ) → List ℕ → Option (List ℕ)
subject_in None bytes = passing is_subject (trimmed bytes)
subject_in (Some field) bytes = subject_under field bytes

-- no subject token is there, or nothing is said where memory ran out
abbrev pub RefusesSubject : SubjectFault → Option (List ℕ) → Type 0
RefusesSubject Bad there = there ≡ None
RefusesSubject Memory there = ⊤

-- what was read is the subject token that is there
abbrev pub SubjectReads : Result (List ℕ) SubjectFault → Option (List ℕ) → Type 0
SubjectReads result there = ReadsOr RefusesSubject (λ text. text) result there
