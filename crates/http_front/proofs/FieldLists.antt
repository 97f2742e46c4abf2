-- The values of a name, field by field.
use Rattle.std.proofs.lemmas.Bool.Decides.{nat_tests}
use Rattle.std.proofs.lemmas.Str.{digit_value_digit}
use Rattle.std.specs.Char.{is_ascii_digit, digit_value}
use Rattle.std.specs.Str.Parse.{digits_value, digits_value_after}
use Rattle.std.proofs.Common.{◌≡◌, ◌<◌, ◌≤◌, ◌-◌, ◌*◌, min, ℕ, zero, suc, ◌+◌, List, [], ◌∷◌, ◌++◌, length, take, get_or, refl, sym, ◌∙◌, ap, arith}
use Rattle.std.proofs.lemmas.List.{take_more}
use Rattle.std.specs.Prelude.{Bool, true, false, cond, map, ◌&&◌, ◌||◌, codes, nat_lt}
use Rattle.std.specs.List.{list_all, list_any}
use Rattle.std.specs.Str.{str_eq_ignore_ascii_case}
use Rattle.httparse.specs.Spans.{header_bytes, span_bytes}
use Rattle.httparse.specs.declared.spans.Span.{Span}
use Rattle.httparse.specs.declared.spans.HeaderSpan.{HeaderSpan}
use Rattle.http_front.specs.Fields.{Fields, values, is_plain, asks_close, is_digits}

cond-append : (test : Bool) (v : List ℕ) (xs ys : List (List ℕ)) → cond test (v ∷ (xs ++ ys)) (xs ++ ys) ≡ cond test (v ∷ xs) xs ++ ys
cond-append true v xs ys = refl
cond-append false v xs ys = refl

pub values-append : (name : List ℕ) (xs ys : Fields) → values name (xs ++ ys) ≡ values name xs ++ values name ys
values-append name [] ys = refl
values-append name (x ∷ xs) ys =
    ap (λ (l : List (List ℕ)). cond (str_eq_ignore_ascii_case x.0 name) (x.1 ∷ l) l) (values-append name xs ys)
    ∙ cond-append (str_eq_ignore_ascii_case x.0 name) x.1 (values name xs) (values name ys)

pub map-push : {X Y : Type 0} (f : X → Y) (xs : List X) (x : X) → map f (xs ++ x ∷ []) ≡ map f xs ++ f x ∷ []
map-push f [] x = refl
map-push f (y ∷ xs) x = ap (λ (l : List _). f y ∷ l) (map-push f xs x)

-- one field more
one_more : (name bytes : List ℕ) (fields : List HeaderSpan) (i : ℕ) (d : HeaderSpan) → i < length fields
    → values name (map (header_bytes bytes) (take (i + 1) fields)) ≡ values name (map (header_bytes bytes) (take i fields)) ++ values name (header_bytes bytes (get_or fields i d) ∷ [])
one_more name bytes fields i d less =
    ap (λ (l : List HeaderSpan). values name (map (header_bytes bytes) l)) (take_more fields i d less)
    ∙ ap (λ (l : Fields). values name l) (map-push (header_bytes bytes) (take i fields) (get_or fields i d))
    ∙ values-append name (map (header_bytes bytes) (take i fields)) (header_bytes bytes (get_or fields i d) ∷ [])

pub taken_in : (name bytes : List ℕ) (fields : List HeaderSpan) (i : ℕ) (d : HeaderSpan) (spans : List Span) → i < length fields
    → str_eq_ignore_ascii_case (span_bytes bytes (get_or fields i d).name) name ≡ true
    → map (span_bytes bytes) spans ≡ values name (map (header_bytes bytes) (take i fields))
    → map (span_bytes bytes) (spans ++ (get_or fields i d).value ∷ []) ≡ values name (map (header_bytes bytes) (take (i + 1) fields))
taken_in name bytes fields i d spans less same so_far =
    let value = span_bytes bytes (get_or fields i d).value in
    map-push (span_bytes bytes) spans (get_or fields i d).value
    ∙ ap (λ (l : List (List ℕ)). l ++ value ∷ []) so_far
    ∙ ap (λ (b : Bool). values name (map (header_bytes bytes) (take i fields)) ++ cond {A = List (List ℕ)} b (value ∷ []) []) (sym same)
    ∙ sym (one_more name bytes fields i d less)

pub passed_over : (name bytes : List ℕ) (fields : List HeaderSpan) (i : ℕ) (d : HeaderSpan) (spans : List Span) → i < length fields
    → str_eq_ignore_ascii_case (span_bytes bytes (get_or fields i d).name) name ≡ false
    → map (span_bytes bytes) spans ≡ values name (map (header_bytes bytes) (take i fields))
    → map (span_bytes bytes) spans ≡ values name (map (header_bytes bytes) (take (i + 1) fields))
passed_over name bytes fields i d spans less other so_far =
    let value = span_bytes bytes (get_or fields i d).value in
    so_far ∙ sym (append-none (values name (map (header_bytes bytes) (take i fields))))
    ∙ ap (λ (b : Bool). values name (map (header_bytes bytes) (take i fields)) ++ cond {A = List (List ℕ)} b (value ∷ []) []) (sym other)
    ∙ sym (one_more name bytes fields i d less)
  where
    append-none : (xs : List (List ℕ)) → xs ++ [] ≡ xs
    append-none [] = refl
    append-none (y ∷ xs) = ap (λ (l : List (List ℕ)). y ∷ l) (append-none xs)

-- ---- a value that decides

fails_here : {X : Type 0} (test : List ℕ → Bool) (f : X → List ℕ) (xs : List X) (i : ℕ) (d : X) → i < length xs → test (f (get_or xs i d)) ≡ false → list_all test (map f xs) ≡ false
fails_here test f [] i d less is = absurd (omega (arith, less))
fails_here test f (x ∷ xs) zero d less is = ap (λ (b : Bool). b && list_all test (map f xs)) is
fails_here test f (x ∷ xs) (suc i) d less is = ap (λ (b : Bool). test (f x) && b) (fails_here test f xs i d (omega arith) is) ∙ neither (test (f x))
  where
    neither : (b : Bool) → (b && false) ≡ false
    neither true = refl
    neither false = refl

pub some_not_plain : (bytes : List ℕ) (spans : List Span) (i : ℕ) (d : Span) → i < length spans
    → str_eq_ignore_ascii_case (span_bytes bytes (get_or spans i d)) (codes "identity") ≡ false → is_plain (map (span_bytes bytes) spans) ≡ false
some_not_plain bytes spans i d less is = fails_here (λ coding. str_eq_ignore_ascii_case coding (codes "identity")) (span_bytes bytes) spans i d less is

holds_here : {X : Type 0} (test : List ℕ → Bool) (f : X → List ℕ) (xs : List X) (i : ℕ) (d : X) → i < length xs → test (f (get_or xs i d)) ≡ true → list_any test (map f xs) ≡ true
holds_here test f [] i d less is = absurd (omega (arith, less))
holds_here test f (x ∷ xs) zero d less is = ap (λ (b : Bool). b || list_any test (map f xs)) is
holds_here test f (x ∷ xs) (suc i) d less is = ap (λ (b : Bool). test (f x) || b) (holds_here test f xs i d (omega arith) is) ∙ either_way (test (f x))
  where
    either_way : (b : Bool) → (b || true) ≡ true
    either_way true = refl
    either_way false = refl

pub some_close : (bytes : List ℕ) (spans : List Span) (i : ℕ) (d : Span) → i < length spans
    → str_eq_ignore_ascii_case (span_bytes bytes (get_or spans i d)) (codes "close") ≡ true → asks_close (map (span_bytes bytes) spans) ≡ true
some_close bytes spans i d less is = holds_here (λ value. str_eq_ignore_ascii_case value (codes "close")) (span_bytes bytes) spans i d less is

-- ---- digits

neither : (b : Bool) → (b && false) ≡ false
neither true = refl
neither false = refl

pub no_digit : (text : List ℕ) (i : ℕ) → i < length text → is_ascii_digit (get_or text i 0) ≡ false → list_all is_ascii_digit text ≡ false
no_digit [] i less is = absurd (omega (arith, less))
no_digit (c ∷ text) zero less is = ap (λ (b : Bool). b && list_all is_ascii_digit text) is
no_digit (c ∷ text) (suc i) less is = ap (λ (b : Bool). is_ascii_digit c && b) (no_digit text i (omega arith) is) ∙ neither (is_ascii_digit c)

first_of_both : (a b : Bool) → (a && b) ≡ true → a ≡ true
first_of_both true b both = refl
first_of_both false b both = both

second_of_both : (a b : Bool) → (a && b) ≡ true → b ≡ true
second_of_both true b both = both
second_of_both false b both = cc both

digit_at : (text : List ℕ) (i : ℕ) → i < length text → list_all is_ascii_digit text ≡ true → is_ascii_digit (get_or text i 0) ≡ true
digit_at [] i less all = absurd (omega (arith, less))
digit_at (c ∷ text) zero less all = first_of_both (is_ascii_digit c) (list_all is_ascii_digit text) all
digit_at (c ∷ text) (suc i) less all = digit_at text i (omega arith) (second_of_both (is_ascii_digit c) (list_all is_ascii_digit text) all)

in_range : (c : ℕ) → is_ascii_digit c ≡ true → (48 ≤ c) × (c ≤ 57)
in_range c digit = (grind (arith, nat_tests), grind (arith, nat_tests))

digits-push : (n : ℕ) (text : List ℕ) (c : ℕ) → digits_value_after 10 n (text ++ c ∷ []) ≡ digits_value_after 10 n text * 10 + digit_value c
digits-push n [] c = refl
digits-push n (d ∷ text) c = digits-push (n * 10 + digit_value d) text c

pub one_digit_more : (text : List ℕ) (i number : ℕ) → is_digits text ≡ true → i < length text → number ≡ min (digits_value 10 (take i text)) 65537
    → min (number * 10 + (get_or text i 0 - 48)) 65537 ≡ min (digits_value 10 (take (i + 1) text)) 65537
one_digit_more text i number all less so_far =
    let digit = in_range (get_or text i 0) (digit_at text i less (second_of_both (nat_lt 0 (length text)) (list_all is_ascii_digit text) all)) in
    let value = digit_value_digit (get_or text i 0) digit in
    let whole : digits_value 10 (take (i + 1) text) ≡ digits_value 10 (take i text) * 10 + digit_value (get_or text i 0) =
    ap (λ (l : List ℕ). digits_value 10 l) (take_more text i 0 less) ∙ digits-push 0 (take i text) (get_or text i 0) in
    omega (arith, so_far, value, whole)
