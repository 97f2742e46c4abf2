-- A head with visible values, as it is printed and as its fields are read.
use Rattle.std.proofs.lemmas.List.Elements.{All-nil, All-cons, All-head, All-tail}
use Rattle.std.proofs.Common.{◌≡◌, ◌<◌, ◌≤◌, ℕ, ◌+◌, List, [], ◌∷◌, ◌++◌, true, IsTrue, length, map, refl, ap, ◌∙◌, arith, length-append}
use Rattle.std.specs.Prelude.{All, codes}
use Rattle.std.specs.List.{flat_map}
use Rattle.httparse.specs.Grammar.{AllPass, Field, IsField, IsToken, RequestHead, crlf, print_field, print_request, is_token_byte, is_value_byte, trim_ows}
use Rattle.httparse.specs.Spans.{name_and_value}
use Rattle.base_types.specs.Forms.{is_visible_text}
use Rattle.http_front.specs.Fields.{Fields}
use Rattle.http_front.specs.Heads.{IsHead}
use Rattle.client_conformance.proofs.Visibles.{all_pass, bearer_bytes, trimmed, trimmed_bearer, uri_bytes, value_bytes, visible_utf8}

-- the line of a field, with one space before its value
abbrev pub line_of : List ℕ × List ℕ → Field
line_of field = record { name = field.0; raw = 32 ∷ field.1; end = crlf }

-- the head of a POST in HTTP/1.1
abbrev pub head_of : List ℕ → Fields → RequestHead
head_of path fields = record { blank = []; method = codes "POST"; target = path; minor = 1; line_end = crlf; fields = map line_of fields; last = crlf }

-- the name is a token, and the value comes back from behind a space
pub record IsPlain (field : List ℕ × List ℕ) : Type 0 where
  pub name : IsToken field.0
  pub value : AllPass is_value_byte field.1
  pub back : trim_ows (32 ∷ field.1) ≡ field.1

pub plain : (name value : List ℕ) → IsToken name → is_visible_text value ≡ true → IsPlain (name, value)
plain name value token visible = record { name = token; value = value_bytes value visible; back = trimmed value visible }

pub plain_bearer : (name token : List ℕ) → IsToken name → 0 < length token → is_visible_text token ≡ true → IsPlain (name, codes "Bearer " ++ token)
plain_bearer name token is some visible = record { name = is; value = bearer_bytes token visible; back = trimmed_bearer token some visible }

pub fields_back : (fields : Fields) → All IsPlain fields → map name_and_value (map line_of fields) ≡ fields
fields_back [] all = refl
fields_back (field ∷ fields) all =
    let first = All-head IsPlain field fields all in
    ap (λ (v : List ℕ). (field.0, v) ∷ map name_and_value (map line_of fields)) first.back
    ∙ ap (λ (l : Fields). field ∷ l) (fields_back fields (All-tail IsPlain field fields all))

is_line : (field : List ℕ × List ℕ) → IsPlain field → IsField (line_of field)
is_line field is = record {
  name = is.name;
  raw = All-cons (λ b. IsTrue (is_value_byte b)) 32 field.1 refl is.value;
}

are_lines : (fields : Fields) → All IsPlain fields → All IsField (map line_of fields)
are_lines [] all = All-nil IsField
are_lines (field ∷ fields) all =
    All-cons IsField (line_of field) (map line_of fields) (is_line field (All-head IsPlain field fields all)) (are_lines fields (All-tail IsPlain field fields all))

-- how long the lines are
abbrev pub lines_size : Fields → ℕ
lines_size [] = 0
lines_size (field ∷ fields) = length field.0 + (length field.1 + (4 + lines_size fields))

lines_sized : (fields : Fields) → length (flat_map print_field (map line_of fields)) ≡ lines_size fields
lines_sized [] = refl
lines_sized (field ∷ fields) =
    let rest = lines_sized fields in
    simp length-append (omega (arith, rest))

pub head_sized : (path : List ℕ) (fields : Fields) → length (print_request (head_of path fields)) ≡ 18 + (length path + lines_size fields)
unfolding print_request
head_sized path fields =
    let lines = lines_sized fields in
    simp length-append (omega (arith, lines))

pub is_head : (path : List ℕ) (fields : Fields) → 0 < length path → is_visible_text path ≡ true → All IsPlain fields
    → length (map line_of fields) ≤ 64 → length path + lines_size fields ≤ 16366 → IsHead (head_of path fields)
unfolding is_token_byte
is_head path fields some visible all few short = record {
  form = record {
    method = (omega arith, all_pass is_token_byte (codes "POST") refl);
    target = (some, uri_bytes path visible);
    target_text = visible_utf8 path visible;
    minor = omega arith;
    fields = are_lines fields all;
  };
  fields = few;
  size = omega (arith, head_sized path fields, short);
}
