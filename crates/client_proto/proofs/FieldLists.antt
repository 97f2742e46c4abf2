-- The values of a name, field by field.
use Rattle.std.proofs.Common.{◌≡◌, ◌<◌, ℕ, ◌+◌, List, [], ◌∷◌, ◌++◌, length, take, get_or, refl, sym, ◌∙◌, ap}
use Rattle.std.proofs.lemmas.List.{take_more}
use Rattle.std.specs.Prelude.{Bool, true, false, cond, map}
use Rattle.std.specs.Str.{str_eq_ignore_ascii_case}
use Rattle.httparse.specs.Spans.{header_bytes, span_bytes}
use Rattle.httparse.specs.declared.spans.Span.{Span}
use Rattle.httparse.specs.declared.spans.HeaderSpan.{HeaderSpan}
use Rattle.client_proto.specs.Replies.{Fields, values}

cond-append : (test : Bool) (v : List ℕ) (xs ys : List (List ℕ)) → cond test (v ∷ (xs ++ ys)) (xs ++ ys) ≡ cond test (v ∷ xs) xs ++ ys
cond-append true v xs ys = refl
cond-append false v xs ys = refl

values-append : (name : List ℕ) (xs ys : Fields) → values name (xs ++ ys) ≡ values name xs ++ values name ys
values-append name [] ys = refl
values-append name (x ∷ xs) ys =
    ap (λ (l : List (List ℕ)). cond (str_eq_ignore_ascii_case x.0 name) (x.1 ∷ l) l) (values-append name xs ys)
    ∙ cond-append (str_eq_ignore_ascii_case x.0 name) x.1 (values name xs) (values name ys)

map-push : {X Y : Type 0} (f : X → Y) (xs : List X) (x : X) → map f (xs ++ x ∷ []) ≡ map f xs ++ f x ∷ []
map-push f [] x = refl
map-push f (y ∷ xs) x = ap (λ (l : List _). f y ∷ l) (map-push f xs x)

-- one field more
one_more : (name bytes : List ℕ) (fields : List HeaderSpan) (i : ℕ) (d : HeaderSpan) → i < length fields
    → values name (map (header_bytes bytes) (take (i + 1) fields)) ≡ values name (map (header_bytes bytes) (take i fields)) ++ values name (header_bytes bytes (get_or fields i d) ∷ [])
one_more name bytes fields i d less =
    ap (λ (l : List HeaderSpan). values name (map (header_bytes bytes) l)) (take_more fields i d less)
    ∙ ap (λ (l : Fields). values name l) (map-push (header_bytes bytes) (take i fields) (get_or fields i d))
    ∙ values-append name (map (header_bytes bytes) (take i fields)) (header_bytes bytes (get_or fields i d) ∷ [])

-- the field has the name
pub taken_in : (name bytes : List ℕ) (fields : List HeaderSpan) (i : ℕ) (d : HeaderSpan) (spans : List Span) → i < length fields
    → str_eq_ignore_ascii_case (span_bytes bytes (get_or fields i d).name) name ≡ true
    → map (span_bytes bytes) spans ≡ values name (map (header_bytes bytes) (take i fields))
    → map (span_bytes bytes) (spans ++ (get_or fields i d).value ∷ []) ≡ values name (map (header_bytes bytes) (take (i + 1) fields))
taken_in name bytes fields i d spans less same so_far =
    let value = span_bytes bytes (get_or fields i d).value in
    map-push (span_bytes bytes) spans (get_or fields i d).value
    ∙ ap (λ (l : List (List ℕ)). l ++ value ∷ []) so_far
    ∙ ap (λ (b : Bool). values name (map (header_bytes bytes) (take i fields)) ++ cond {A = List (List ℕ)} b (value ∷ []) []) (sym same)
    ∙ sym (one_more name bytes fields i d less)

-- the field has another name
pub passed_over : (name bytes : List ℕ) (fields : List HeaderSpan) (i : ℕ) (d : HeaderSpan) (spans : List Span) → i < length fields
    → str_eq_ignore_ascii_case (span_bytes bytes (get_or fields i d).name) name ≡ false
    → map (span_bytes bytes) spans ≡ values name (map (header_bytes bytes) (take i fields))
    → map (span_bytes bytes) spans ≡ values name (map (header_bytes bytes) (take (i + 1) fields))
passed_over name bytes fields i d spans less other so_far =
    let value = span_bytes bytes (get_or fields i d).value in
    so_far ∙ sym (append-none (values name (map (header_bytes bytes) (take i fields))))
    ∙ ap (λ (b : Bool). values name (map (header_bytes bytes) (take i fields)) ++ cond {A = List (List ℕ)} b (value ∷ []) []) (sym other)
    ∙ sym (one_more name bytes fields i d less)
  where
    append-none : (xs : List (List ℕ)) → xs ++ [] ≡ xs
    append-none [] = refl
    append-none (y ∷ xs) = ap (λ (l : List (List ℕ)). y ∷ l) (append-none xs)
