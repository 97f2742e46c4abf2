-- Bytes are cut into lines in one way.
use Rattle.std.proofs.Common.{◌≡◌, ◌≤◌, ◌<◌, ◌+◌, inl, inr, ℕ, suc, zero, List, [], ◌∷◌, ◌++◌, length, take, drop, refl, sym, ◌∙◌, ap, subst, arith, append_assoc, length-append}
use Rattle.std.proofs.lemmas.List.{length-take, take-append-le}
use Rattle.cel_lines.specs.Front.{IsFeedAt}
use Rattle.std.specs.List.{AllByRecursion}
use Rattle.cel_lines.specs.Lines.{longest, HasNoFeed, IsLine, IsTooLong, IsRest, lines_text, LinesBegin, AreLines, last_line}

-- ---- bytes without a line feed

-- the front of some
pub free_front : (n m : ℕ) (bytes : List ℕ) → n ≤ m → HasNoFeed (take m bytes) → HasNoFeed (take n bytes)
free_front zero m bytes less free = tt
free_front (suc n) zero bytes less free = absurd (omega (arith, less))
free_front (suc n) (suc m) [] less free = tt
free_front (suc n) (suc m) (b ∷ bytes) less free = (free.0, free_front n m bytes (omega (arith, less)) free.1)

pub free_take : (n : ℕ) (bytes : List ℕ) → HasNoFeed bytes → HasNoFeed (take n bytes)
free_take zero bytes free = tt
free_take (suc n) [] free = tt
free_take (suc n) (b ∷ bytes) free = (free.0, free_take n bytes free.1)

-- a line feed stands behind too many bytes
pub too_long : (bytes : List ℕ) (size : ℕ) → longest < size → IsFeedAt bytes size → IsTooLong bytes
too_long bytes size long feed = (
  omega (arith, long, ap length feed.1, length-append (take size bytes) (10 ∷ drop (size + 1) bytes), length-take size bytes),
  free_front (longest + 1) size bytes (omega (arith, long)) feed.0,
)

pub without_end : (bytes : List ℕ) → longest < length bytes → HasNoFeed bytes → IsTooLong bytes
without_end bytes long free = (long, free_take (longest + 1) bytes free)

-- ---- one cut

-- what stands before the first line feed is one
cut : (a b x y : List ℕ) → HasNoFeed a → HasNoFeed b → a ++ (10 ∷ x) ≡ b ++ (10 ∷ y) → (a ≡ b) × (x ≡ y)
cut [] [] x y free free' same = (refl, cc same)
cut [] (b ∷ bs) x y free free' same = let head : b ≡ 10 = cc same in absurd (free'.0 head)
cut (a ∷ as') [] x y free free' same = let head : a ≡ 10 = cc same in absurd (free.0 head)
cut (a ∷ as') (b ∷ bs) x y free free' same =
    let head : a ≡ b = cc same in
    let tail : as' ++ (10 ∷ x) ≡ bs ++ (10 ∷ y) = cc same in
    let rest = cut as' bs x y free.1 free'.1 tail in
    let front : a ∷ as' ≡ b ∷ bs = cc (head, rest.0) in
    (front, rest.1)

feed_in : (line more : List ℕ) → HasNoFeed (line ++ (10 ∷ more)) → ⊥
feed_in [] more free = free.0 refl
feed_in (b ∷ line) more free = feed_in line more free.1

feed_within : (n : ℕ) (line more : List ℕ) → length line < n → HasNoFeed (take n (line ++ (10 ∷ more))) → ⊥
feed_within zero line more short free = omega (arith, short)
feed_within (suc n) [] more short free = free.0 refl
feed_within (suc n) (b ∷ line) more short free = feed_within n line more (omega (arith, short)) free.1

-- a rest does not begin with a line
no_line : (rest line more : List ℕ) → IsRest rest → IsLine line → rest ≡ line ++ (10 ∷ more) → ⊥
no_line rest line more (inl free) is same = feed_in line more (subst HasNoFeed same free)
no_line rest line more (inr long) is same =
    feed_within (longest + 1) line more (omega (arith, is.1)) (subst (λ (l : List ℕ). HasNoFeed (take (longest + 1) l)) same long.1)

spread : (line : List ℕ) (lines : List (List ℕ)) (rest : List ℕ) → lines_text (line ∷ lines) ++ rest ≡ line ++ (10 ∷ (lines_text lines ++ rest))
spread line lines rest = simp append_assoc

cuts : (lines others : List (List ℕ)) (rest other : List ℕ) → AllByRecursion IsLine lines → AllByRecursion IsLine others → IsRest rest → IsRest other
    → lines_text lines ++ rest ≡ lines_text others ++ other → (lines ≡ others) × (rest ≡ other)
cuts [] [] rest other each each' is is' same = (refl, same)
cuts [] (m ∷ others) rest other each each' is is' same = absurd (no_line rest m (lines_text others ++ other) is each'.0 (same ∙ spread m others other))
cuts (l ∷ lines) [] rest other each each' is is' same = absurd (no_line other l (lines_text lines ++ rest) is' each.0 (sym same ∙ spread l lines rest))
cuts (l ∷ lines) (m ∷ others) rest other each each' is is' same =
    let first = cut l m (lines_text lines ++ rest) (lines_text others ++ other) each.0.0 each'.0.0 (sym (spread l lines rest) ∙ same ∙ spread m others other) in
    let more = cuts lines others rest other each.1 each'.1 is is' first.1 in
    let all : l ∷ lines ≡ m ∷ others = cc (first.0, more.0) in
    (all, more.1)

pub one_cut : (bytes : List ℕ) (lines others : List (List ℕ)) (rest other : List ℕ) → LinesBegin bytes lines rest → IsRest rest → LinesBegin bytes others other → IsRest other
    → (lines ≡ others) × (rest ≡ other)
one_cut bytes lines others rest other begins is begins' is' = cuts lines others rest other begins.each begins'.each is is' (sym begins.whole ∙ begins'.whole)

pub one_list : (bytes : List ℕ) (lines others : List (List ℕ)) → AreLines bytes lines → AreLines bytes others → lines ≡ others
one_list bytes lines others are are' =
    let same = one_cut bytes are.whole are'.whole are.last are'.last are.begins (inl are.ends.0) are'.begins (inl are'.ends.0) in
    are.all ∙ ap (λ (l : List (List ℕ)). l ++ last_line are.last) same.0 ∙ ap (λ (l : List ℕ). are'.whole ++ last_line l) same.1 ∙ sym are'.all

-- ---- a line that is too long

pub longer : (bytes more : List ℕ) → IsTooLong bytes → IsTooLong (bytes ++ more)
longer bytes more long = (
  omega (arith, long.0, length-append bytes more),
  subst HasNoFeed (sym (take-append-le (longest + 1) bytes more (omega (arith, long.0)))) long.1,
)

pub begins_longer : (bytes more : List ℕ) (lines : List (List ℕ)) (rest : List ℕ) → LinesBegin bytes lines rest → LinesBegin (bytes ++ more) lines (rest ++ more)
begins_longer bytes more lines rest begins = record {
  whole = ap (λ (l : List ℕ). l ++ more) begins.whole ∙ append_assoc (lines_text lines) rest more;
  each = begins.each;
}

pub no_lines : (bytes : List ℕ) (lines others : List (List ℕ)) (rest : List ℕ) → LinesBegin bytes lines rest → IsTooLong rest → AreLines bytes others → ⊥
no_lines bytes lines others rest begins long are =
    let same = one_cut bytes lines are.whole rest are.last begins (inr long) are.begins (inl are.ends.0) in
    omega (arith, long.0, ap length same.1, are.ends.1)
