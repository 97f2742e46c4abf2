-- What the payload's writer keeps while it writes.
use Rattle.std.proofs.Common.{◌≡◌, ℕ, suc, List, [], ◌∷◌, ◌++◌, map, length, ◌-◌, slice_get, unwrap_or, refl, sym, ap, ◌∙◌, arith, append-nil}
use Rattle.std.specs.Ordering.{nat_cmp}
use Rattle.std.specs.declared.cmp.Ordering.TheVariants.{Less}
use Rattle.std.specs.Cmp.Lexicographic.{slice_cmp}
use Rattle.std.specs.List.{AllByRecursion}
use Rattle.std.specs.List.Sorted.{IsStrictlySortedBy}
use Rattle.json_text.specs.Clean.{HasCleanMembers, AreAfter}
use Rattle.access_token.specs.Payload.{words_text, last_words, attributes_data}

-- words, each with a space before it
abbrev pub spaced : List (List ℕ) → List ℕ
spaced [] = []
spaced (word ∷ words) = 32 ∷ (word ++ spaced words)

pub words_text-spaced : (word : List ℕ) (words : List (List ℕ)) → words_text (word ∷ words) ≡ word ++ spaced words
words_text-spaced word [] = sym (append-nil word)
words_text-spaced word (next ∷ words) = ap (λ (text : List ℕ). word ++ (32 ∷ text)) (words_text-spaced next words)

pub last_words_at : (xs : List (List (List ℕ))) → last_words xs ≡ unwrap_or (slice_get xs (length xs - 1)) []
last_words_at [] = refl
last_words_at (words ∷ []) = refl
last_words_at (words ∷ next ∷ more) =
    let behind : length (words ∷ next ∷ more) - 1 ≡ suc (length (next ∷ more) - 1) = omega arith in
    last_words_at (next ∷ more) ∙ ap (λ (k : ℕ). unwrap_or (slice_get (words ∷ next ∷ more) k) []) (sym behind)

after_names : (name : List ℕ) (attributes : List (List ℕ × List ℕ)) → AllByRecursion (λ other. slice_cmp nat_cmp name other ≡ Less) (map (λ pair. pair.0) attributes) → AreAfter name (attributes_data attributes)
after_names name [] all = tt
after_names name (attribute ∷ attributes) all = (all.0, after_names name attributes all.1)

-- attributes whose names rise are members in order
pub clean_attributes : (attributes : List (List ℕ × List ℕ)) → IsStrictlySortedBy (slice_cmp nat_cmp) (map (λ pair. pair.0) attributes) → HasCleanMembers (attributes_data attributes)
unfolding IsStrictlySortedBy
clean_attributes [] rising = tt
clean_attributes (attribute ∷ attributes) rising = (tt, clean_attributes attributes rising.1, after_names attribute.0 attributes rising.0)
