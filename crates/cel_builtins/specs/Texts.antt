-- What the functions on texts compute. A text is its bytes in UTF-8, so parts and orders of code points are those of bytes.
use Rattle.std.specs.Prelude.{ℕ, zero, suc, pos, ◌-◌, ◌==◌, Bool, true, not, ◌&&◌, ◌||◌, nat_lt, nat_le, List, [], ◌∷◌, ◌++◌, map, length, take, drop, count_by, slice_index, Option, None, Some, is_some, Ok, Err, if◌then◌else◌}
use Rattle.std.specs.List.{flat_map}
use Rattle.std.specs.Char.{is_ascii_digit, to_ascii_lowercase}
use Rattle.std.specs.Str.{bytes_eq}
use Rattle.cel_values.specs.declared.error.EvalError.TheVariants.{NoOverload, BadText}
use Rattle.cel_values.specs.declared.value.Value.{Value, out-Value}
use Rattle.cel_values.specs.declared.value.Value.TheOpen.{Value-F}
use Rattle.cel_values.specs.declared.value.Value.TheViews as made
use Rattle.cel_builtins.specs.Numbers.{integer}
use Rattle.cel_builtins.specs.Outcomes.{Or, Outcome, Shape, ◌>>=◌, in_order, weighed}

-- ---- parts of a text

-- each code point of a text has one byte that begins it
abbrev pub begins_code_point : ℕ → Bool
begins_code_point b = nat_lt b 128 || nat_le 192 b

-- how many code points a text has
abbrev pub code_points : List ℕ → ℕ
code_points t = count_by begins_code_point t

-- the part stands at the front of the text
abbrev pub has_front : List ℕ → List ℕ → Bool
has_front text part = bytes_eq (take (length part) text) part

-- the part stands at the end of the text
abbrev pub has_end : List ℕ → List ℕ → Bool
has_end text part = nat_le (length part) (length text) && bytes_eq (drop (length text - length part) text) part

-- the byte stands before what was cut
abbrev pub behind_byte : ℕ → Option (List ℕ × List ℕ) → Option (List ℕ × List ℕ)
behind_byte b None = None
behind_byte b (Some cut) = Some (b ∷ cut.0, cut.1)

-- what stands before the part, where it stands first, and what stands behind it
abbrev pub cut_around : List ℕ → List ℕ → Option (List ℕ × List ℕ)
cut_around part [] = if has_front [] part then Some ([], []) else None
cut_around part (b ∷ text) = if has_front (b ∷ text) part then Some ([], drop (length part) (b ∷ text)) else behind_byte b (cut_around part text)

-- the part stands somewhere in the text
abbrev pub contains : List ℕ → List ℕ → Bool
contains text part = is_some (cut_around part text)

-- ---- extract

-- a letter or `_`
abbrev pub begins_name : ℕ → Bool
begins_name b = (nat_le 65 b && nat_le b 90) || (nat_le 97 b && nat_le b 122) || (b == 95)

-- all of them are letters, digits or `_`
abbrev pub continues_name : List ℕ → Bool
continues_name [] = true
continues_name (b ∷ t) = (begins_name b || is_ascii_digit b) && continues_name t

-- a letter or `_` in front, and letters, digits and `_` alone
abbrev pub is_name : List ℕ → Bool
is_name t = not (length t == 0) && begins_name (slice_index t 0) && continues_name t

-- no `{` and no `}`
abbrev pub has_no_brace : List ℕ → Bool
has_no_brace [] = true
has_no_brace (b ∷ t) = not (b == 123) && not (b == 125) && has_no_brace t

-- the front and back of a template, where the name and both are of their forms
abbrev pub template_parts : List ℕ → Option (List ℕ × List ℕ) → Option (List ℕ × List ℕ)
template_parts front None = None
template_parts front (Some cut) = if has_no_brace front && is_name cut.0 && has_no_brace cut.1 then Some (front, cut.1) else None

-- what is behind the first `{` is cut around the first `}`
abbrev pub template_behind : Option (List ℕ × List ℕ) → Option (List ℕ × List ℕ)
template_behind None = None
template_behind (Some cut) = template_parts cut.0 (cut_around (125 ∷ []) cut.1)

-- what stands before and behind the one `{name}` of a template
abbrev pub template_of : List ℕ → Option (List ℕ × List ℕ)
template_of template = template_behind (cut_around (123 ∷ []) template)

-- what stands before the cut, or nothing
abbrev pub before_cut : Option (List ℕ × List ℕ) → List ℕ
before_cut None = []
before_cut (Some cut) = cut.0

-- what stands before the first such back, or all where it is empty
abbrev pub before_back : List ℕ → List ℕ → List ℕ
before_back back text = if length back == 0 then text else before_cut (cut_around back text)

-- what stands behind the front, up to the back
abbrev pub up_to_back : List ℕ → Option (List ℕ × List ℕ) → List ℕ
up_to_back back None = []
up_to_back back (Some cut) = before_back back cut.1

-- what stands between the first front and the first back behind it
abbrev pub between : List ℕ → List ℕ → List ℕ → List ℕ
between front back text = up_to_back back (cut_around front text)

-- by the parts of the template, where it has them
abbrev pub extracted_by : Option (List ℕ × List ℕ) → List ℕ → Outcome
extracted_by None text = Err BadText
extracted_by (Some parts) text = Ok (Value.Text (between parts.0 parts.1 text))

-- `extract`
abbrev pub extracted : Shape → Shape → Outcome
extracted (Value-F.Text text) (Value-F.Text template) = extracted_by (template_of template) text
extracted _ _ = Err NoOverload

-- ---- split and join

-- the piece before the cut and those of what stands behind it, or the whole text
abbrev pub pieces_around : (List ℕ → List (List ℕ)) → List ℕ → Option (List ℕ × List ℕ) → List (List ℕ)
pieces_around of_rest text None = text ∷ []
pieces_around of_rest text (Some cut) = cut.0 ∷ of_rest cut.1

-- the pieces around the first separators, at most so many
abbrev pub pieces_upto : ℕ → List ℕ → List ℕ → List (List ℕ)
pieces_upto zero separator text = text ∷ []
pieces_upto (suc n) separator text = pieces_around (pieces_upto n separator) text (cut_around separator text)

-- the pieces of a text between its separators, of which there are no more than bytes
abbrev pub pieces : List ℕ → List ℕ → List (List ℕ)
pieces separator text = pieces_upto (length text) separator text

-- a text as a value
abbrev pub text_value : List ℕ → Value
text_value t = Value.Text t

-- `split`
abbrev pub split_of : Shape → Shape → Outcome
split_of (Value-F.Text text) (Value-F.Text separator) =
    if length separator == 0 then Err BadText else weighed (made.List (map text_value (pieces separator text)))
split_of _ _ = Err NoOverload

-- the texts with the separator between them
abbrev pub joined : List ℕ → List (List ℕ) → List ℕ
joined separator [] = []
joined separator (t ∷ ts) = t ++ flat_map (λ u. separator ++ u) ts

-- a value that is a text
abbrev pub text_in : Shape → Or (List ℕ)
text_in (Value-F.Text t) = Ok t
text_in _ = Err NoOverload

-- the items, where each is a text
abbrev pub texts_in : List Value → Or (List (List ℕ))
texts_in items = in_order (map (λ v. text_in (out-Value v)) items)

-- `join`
abbrev pub join_of : Shape → Shape → Outcome
join_of (Value-F.List items) (Value-F.Text separator) = texts_in items >>= λ ts. weighed (Value.Text (joined separator ts))
join_of _ _ = Err NoOverload

-- ---- the other functions

-- a test of a text and a part
abbrev pub tested_part : (List ℕ → List ℕ → Bool) → Shape → Shape → Outcome
tested_part test (Value-F.Text text) (Value-F.Text part) = Ok (Value.Bool (test text part))
tested_part test _ _ = Err NoOverload

-- `A` to `Z` as `a` to `z`
abbrev pub lowered : Shape → Outcome
lowered (Value-F.Text t) = Ok (Value.Text (map to_ascii_lowercase t))
lowered _ = Err NoOverload

-- code points of a text, items of a list, entries of a map
abbrev pub size_of : Shape → Outcome
size_of (Value-F.Text t) = integer (pos (code_points t))
size_of (Value-F.List xs) = integer (pos (length xs))
size_of (Value-F.Map es) = integer (pos (length es))
size_of _ = Err NoOverload
