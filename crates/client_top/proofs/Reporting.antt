-- The lines of a report, one after another.
use Rattle.std.proofs.Common.{◌≡◌, ◌≤◌, ◌<◌, ◌+◌, ℕ, zero, suc, min, List, [], ◌∷◌, ◌++◌, length, get_or, drop, map, refl, sym, ◌∙◌, ap, arith, append_assoc}
use Rattle.std.proofs.lemmas.List.{drop-map, drop_more, append-nil}
use Rattle.client_top.specs.Report.{lines_from, lines_of}
use Rattle.client_top.specs.declared.outcome.Outcome.{Outcome}

no_lines : (worker : ℕ) (moments : List ℕ) → lines_of worker moments [] ≡ []
no_lines worker [] = refl
no_lines worker (m ∷ moments) = refl

pub lines_over : (worker place : ℕ) (moments : List ℕ) (outcomes : List Outcome) → min (length moments) (length outcomes) ≤ place
    → lines_of worker (drop place moments) (drop place outcomes) ≡ []
lines_over worker zero [] outcomes over = refl
lines_over worker zero (m ∷ moments) [] over = refl
lines_over worker zero (m ∷ moments) (o ∷ outcomes) over = absurd (omega (arith, over))
lines_over worker (suc place) [] outcomes over = refl
lines_over worker (suc place) (m ∷ moments) [] over = no_lines worker (drop place moments)
lines_over worker (suc place) (m ∷ moments) (o ∷ outcomes) over = lines_over worker place moments outcomes (omega (arith, over))

no_lists : (worker : ℕ) (moments : List (List ℕ)) → lines_from worker moments [] ≡ []
no_lists worker [] = refl
no_lists worker (m ∷ moments) = refl

pub lists_over : (worker place : ℕ) (moments : List (List ℕ)) (lists : List (List Outcome)) → min (length moments) (length lists) ≤ place
    → lines_from worker (drop place moments) (drop place lists) ≡ []
lists_over worker zero [] lists over = refl
lists_over worker zero (m ∷ moments) [] over = refl
lists_over worker zero (m ∷ moments) (o ∷ lists) over = absurd (omega (arith, over))
lists_over worker (suc place) [] lists over = refl
lists_over worker (suc place) (m ∷ moments) [] over = no_lists worker (drop place moments)
lists_over worker (suc place) (m ∷ moments) (o ∷ lists) over = lists_over worker place moments lists (omega (arith, over))

-- what stands at a place, and what is behind it
pub at_place : {X Y : Type 0} (f : X → Y) (xs : List X) (i : ℕ) (x : X) → i < length xs → x ≡ get_or xs i x → drop i (map f xs) ≡ f x ∷ drop (i + 1) (map f xs)
at_place f xs i x low is =
    drop-map f i xs ∙ ap (map f) (drop_more xs i x low ∙ ap (λ z. z ∷ drop (i + 1) xs) (sym is)) ∙ ap (λ l. f x ∷ l) (sym (drop-map f (i + 1) xs))

pub lists_more : (worker : ℕ) (moments rest : List (List ℕ)) (lists others : List (List Outcome)) (m : List ℕ) (o : List Outcome) → moments ≡ m ∷ rest
    → lists ≡ o ∷ others
    → lines_from worker moments lists ≡ lines_of worker m o ++ lines_from (worker + 1) rest others
lists_more worker moments rest lists others m o is is' =
    ap (λ l. lines_from worker l lists) is ∙ ap (λ l. lines_from worker (m ∷ rest) l) is'

-- one text more
pub goes_on : (text text' line rest all whole : List ℕ) → text' ≡ text ++ line → all ≡ line ++ rest → text ++ all ≡ whole → text' ++ rest ≡ whole
goes_on text text' line rest all whole more is so =
    ap (λ (l : List ℕ). l ++ rest) more ∙ append_assoc text line rest ∙ ap (λ (l : List ℕ). text ++ l) (sym is) ∙ so

-- and none more
pub all_told : (text rest whole : List ℕ) → rest ≡ [] → text ++ rest ≡ whole → text ≡ whole
all_told text rest whole none so = sym (append-nil text) ∙ ap (λ (l : List ℕ). text ++ l) (sym none) ∙ so
