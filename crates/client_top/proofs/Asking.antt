-- Bytes are lines of an input in one way.
use Rattle.std.proofs.Common.{◌≡◌, ◌≢◌, ◌<◌, ◌≤◌, ◌+◌, ◌*◌, ◌^◌, ◌%◌, ◌⊎◌, inl, inr, ⊎_elim, ℕ, suc, zero, List, [], ◌∷◌, ◌++◌, length, get_or, refl, sym, ◌∙◌, ap, subst, arith, rules, append_assoc, length-append}
use Rattle.std.proofs.lemmas.List.{append-nil}
use Rattle.std.proofs.lemmas.Fmt.{IsAscii-decimal, decimal_by_steps, length-decimal-le}
use Rattle.std.proofs.lemmas.Str.{IsAscii-append}
use Rattle.std.proofs.lemmas.Str.Pattern.{IsSplitOnceResult, split_after}
use Rattle.std.specs.Prelude.{Option, None, Some, MatchOption}
use Rattle.std.specs.Borrow.{Bor}
use Rattle.std.specs.Fmt.{decimal}
use Rattle.std.specs.List.{AllByRecursion}
use Rattle.std.specs.Str.{IsAscii}
use Rattle.client_proto.specs.Numbers.{decimal_up_to}
use Rattle.client_proto.proofs.NumberLemmas.{up_to-decimal, up_to-sound}
use Rattle.client_top.specs.Asks.{AreAsks, IsAsk, IsAskOf, NoAsks, ask_text, asks_text, most_asks}
use Rattle.client_top.specs.Cuts.{HasNoFeed, IsFrontLine}
use Rattle.client_top.specs.declared.asks.Ask.{Ask}

-- ---- the bytes of a line

-- none is a space or a line feed
abbrev Digits : List ℕ → Type 0
Digits bytes = AllByRecursion (λ byte. 48 ≤ byte) bytes

digits-push : (bytes : List ℕ) (byte : ℕ) → Digits bytes → 48 ≤ byte → Digits (bytes ++ (byte ∷ []))
digits-push [] byte all one = (one, tt)
digits-push (b ∷ bytes) byte all one = (all.0, digits-push bytes byte all.1 one)

decimal_digits : (n : ℕ) → n < 2 ^ 64 → Digits (decimal n)
decimal_digits = decimal_by_steps (λ n bytes. Digits bytes) (λ n low. (omega arith, tt)) (λ n bytes high all. digits-push bytes (48 + n % 10) all (omega arith))

no_space : (bytes : List ℕ) → Digits bytes → (i : ℕ) → i < length bytes → get_or bytes i 0 ≢ 32
no_space [] all i low = absurd (omega (arith, low))
no_space (b ∷ bytes) all zero low = λ is. omega (arith, all.0, is)
no_space (b ∷ bytes) all (suc i) low = no_space bytes all.1 i (omega (arith, low))

digits_clear : (bytes : List ℕ) → Digits bytes → HasNoFeed bytes
digits_clear [] all = tt
digits_clear (b ∷ bytes) all = ((λ is. omega (arith, all.0, is)), digits_clear bytes all.1)

clear-append : (xs ys : List ℕ) → HasNoFeed xs → HasNoFeed ys → HasNoFeed (xs ++ ys)
clear-append [] ys free more = more
clear-append (x ∷ xs) ys free more = (free.0, clear-append xs ys free.1 more)

-- ---- one line

module _ (workers : ℕ) (small : workers < 2 ^ 64) where
  ask_clear : (ask : Ask) → IsAsk workers ask → HasNoFeed (ask_text ask)
  ask_clear ask is =
      let second : HasNoFeed (32 ∷ decimal ask.moment) =
      ((λ same. omega (arith, same)), digits_clear (decimal ask.moment) (decimal_digits ask.moment (omega (arith, is.moment)))) in
      clear-append (decimal ask.worker) (32 ∷ decimal ask.moment)
      (digits_clear (decimal ask.worker) (decimal_digits ask.worker (omega (arith, is.worker, small)))) second

  -- a line is cut between its numbers
  pub ask_cut : (text : List ℕ) (r : Option (Bor (List ℕ) × Bor (List ℕ))) → IsSplitOnceResult 32 text r → (ask : Ask) → IsAsk workers ask → text ≡ ask_text ask
      → MatchOption r ⊥ (λ x. (x.0.now ≡ decimal ask.worker) × (x.1.now ≡ decimal ask.moment))
  ask_cut text r split ask is same =
      split_after 32 text (decimal ask.worker) (decimal ask.moment) r split (omega arith) same
      (no_space (decimal ask.worker) (decimal_digits ask.worker (omega (arith, is.worker, small))))

  pub ask_ascii : (ask : Ask) → IsAsk workers ask → IsAscii (ask_text ask)
  ask_ascii ask is = IsAscii-append (decimal ask.worker) (32 ∷ decimal ask.moment) (IsAscii-decimal ask.worker (omega (arith, is.worker, small)))
      (IsAscii-append (32 ∷ []) (decimal ask.moment) (search rules) (IsAscii-decimal ask.moment (omega (arith, is.moment))))

-- ---- its numbers

-- a number that is there is read
pub is_read : (most n : ℕ) (text : List ℕ) (r : Option ℕ) → r ≡ decimal_up_to most text → text ≡ decimal n → n ≤ most → n < 2 ^ 64 → r ≡ Some n
is_read most n text r said same within low = said ∙ ap (decimal_up_to most) same ∙ up_to-decimal most n within low

-- and what was read is there
pub as_read : (most n : ℕ) (text : List ℕ) (r : Option ℕ) → r ≡ decimal_up_to most text → r ≡ Some n → (n ≤ most) × (text ≡ decimal n)
as_read most n text r said is = up_to-sound most text n (sym said ∙ is)

pub joined : (text first second : List ℕ) (n m : ℕ) → text ≡ first ++ (32 ∷ second) → first ≡ decimal n → second ≡ decimal m
    → text ≡ decimal n ++ (32 ∷ decimal m)
joined text first second n m same is is' = same ∙ ap (λ (l : List ℕ). l ++ (32 ∷ second)) is ∙ ap (λ (l : List ℕ). decimal n ++ (32 ∷ l)) is'

-- ---- the cut at a line feed

cut : (a b x y : List ℕ) → HasNoFeed a → HasNoFeed b → a ++ (10 ∷ x) ≡ b ++ (10 ∷ y) → (a ≡ b) × (x ≡ y)
cut [] [] x y free free' same = (refl, cc same)
cut [] (b ∷ bs) x y free free' same = let head : b ≡ 10 = cc same in absurd (free'.0 head)
cut (a ∷ as') [] x y free free' same = let head : a ≡ 10 = cc same in absurd (free.0 head)
cut (a ∷ as') (b ∷ bs) x y free free' same =
    let head : a ≡ b = cc same in
    let tail : as' ++ (10 ∷ x) ≡ bs ++ (10 ∷ y) = cc same in
    let rest = cut as' bs x y free.1 free'.1 tail in
    let front : a ∷ as' ≡ b ∷ bs = cc (head, rest.0) in
    (front, rest.1)

feed_in : (line more : List ℕ) → HasNoFeed (line ++ (10 ∷ more)) → ⊥
feed_in [] more free = free.0 refl
feed_in (b ∷ line) more free = feed_in line more free.1

nothing_before : (xs ys : List ℕ) → [] ≡ xs ++ (10 ∷ ys) → ⊥
nothing_before [] ys same = cc same
nothing_before (x ∷ xs) ys same = cc same

-- ---- some lines and a rest

asks_text-push : (asks : List Ask) (ask : Ask) → asks_text (asks ++ (ask ∷ [])) ≡ asks_text asks ++ (ask_text ask ++ (10 ∷ []))
asks_text-push [] ask = refl
asks_text-push (a ∷ asks) ask =
    ap (λ (l : List ℕ). ask_text a ++ (10 ∷ l)) (asks_text-push asks ask) ∙ sym (append_assoc (ask_text a) (10 ∷ asks_text asks) (ask_text ask ++ (10 ∷ [])))

spread : (ask : Ask) (asks : List Ask) (rest : List ℕ) → asks_text (ask ∷ asks) ++ rest ≡ ask_text ask ++ (10 ∷ (asks_text asks ++ rest))
spread ask asks rest = append_assoc (ask_text ask) (10 ∷ asks_text asks) rest

each-push : (workers : ℕ) (asks : List Ask) (ask : Ask) → AllByRecursion (IsAsk workers) asks → IsAsk workers ask
    → AllByRecursion (IsAsk workers) (asks ++ (ask ∷ []))
each-push workers [] ask each is = (is, tt)
each-push workers (a ∷ asks) ask each is = (each.0, each-push workers asks ask each.1 is)

module _ (workers : ℕ) (small : workers < 2 ^ 64) where
  -- what stands behind the first of both
  behind : (a b : Ask) (asks others : List Ask) (rest : List ℕ) → IsAsk workers a → IsAsk workers b → asks_text (a ∷ asks) ++ rest ≡ asks_text (b ∷ others)
      → asks_text asks ++ rest ≡ asks_text others
  behind a b asks others rest is is' same =
      (cut (ask_text a) (ask_text b) (asks_text asks ++ rest) (asks_text others) (ask_clear workers small a is) (ask_clear workers small b is')
      (sym (spread a asks rest) ∙ same)).1

  -- a line that is there is one of the lines
  no_line : (asks others : List Ask) (line more : List ℕ) → AllByRecursion (IsAsk workers) asks → AllByRecursion (IsAsk workers) others → HasNoFeed line
      → IsAskOf workers line None → asks_text asks ++ (line ++ (10 ∷ more)) ≡ asks_text others → ⊥
  no_line [] [] line more each each' free none same = nothing_before line more (sym same)
  no_line [] (b ∷ others) line more each each' free none same =
      none b each'.0 (cut line (ask_text b) more (asks_text others) free (ask_clear workers small b each'.0) same).0
  no_line (a ∷ asks) [] line more each each' free none same =
      nothing_before (ask_text a) (asks_text asks ++ (line ++ (10 ∷ more))) (sym same ∙ spread a asks (line ++ (10 ∷ more)))
  no_line (a ∷ asks) (b ∷ others) line more each each' free none same =
      no_line asks others line more each.1 each'.1 free none (behind a b asks others (line ++ (10 ∷ more)) each.0 each'.0 same)

  -- nothing without a line feed is behind lines
  no_part : (asks others : List Ask) (line : List ℕ) → AllByRecursion (IsAsk workers) asks → AllByRecursion (IsAsk workers) others → HasNoFeed line
      → line ≢ [] → asks_text asks ++ line ≡ asks_text others → ⊥
  no_part [] [] line each each' free some same = some same
  no_part [] (b ∷ others) line each each' free some same = feed_in (ask_text b) (asks_text others) (subst HasNoFeed same free)
  no_part (a ∷ asks) [] line each each' free some same = nothing_before (ask_text a) (asks_text asks ++ line) (sym same ∙ spread a asks line)
  no_part (a ∷ asks) (b ∷ others) line each each' free some same =
      no_part asks others line each.1 each'.1 free some (behind a b asks others line each.0 each'.0 same)

  -- where a rest is there, lines are
  more_lines : (asks others : List Ask) (rest : List ℕ) → AllByRecursion (IsAsk workers) asks → AllByRecursion (IsAsk workers) others
      → rest ≢ [] → asks_text asks ++ rest ≡ asks_text others → length asks < length others
  more_lines [] [] rest each each' some same = absurd (some same)
  more_lines [] (b ∷ others) rest each each' some same = omega arith
  more_lines (a ∷ asks) [] rest each each' some same = absurd (nothing_before (ask_text a) (asks_text asks ++ rest) (sym same ∙ spread a asks rest))
  more_lines (a ∷ asks) (b ∷ others) rest each each' some same =
      let less = more_lines asks others rest each.1 each'.1 some (behind a b asks others rest each.0 each'.0 same) in
      omega (arith, less)

-- ---- as far as the lines were read

-- The bytes are these lines and a rest; or they are the lines, and the last lacks its line feed.
pub record SoFar (workers : ℕ) (bytes rest : List ℕ) (asks : List Ask) : Type 0 where
  pub whole : (bytes ≡ asks_text asks ++ rest) ⊎ ((bytes ++ (10 ∷ []) ≡ asks_text asks) × (rest ≡ []))
  pub each : AllByRecursion (IsAsk workers) asks
  pub few : length asks ≤ most_asks

-- bytes, with a line feed behind them where one lacks
fed : (bytes front rest : List ℕ) → bytes ≡ front ++ rest → bytes ++ (10 ∷ []) ≡ front ++ (rest ++ (10 ∷ []))
fed bytes front rest same = ap (λ (l : List ℕ). l ++ (10 ∷ [])) same ∙ append_assoc front rest (10 ∷ [])

some_fed : (rest : List ℕ) → rest ++ (10 ∷ []) ≢ []
some_fed [] = λ same. cc same
some_fed (b ∷ rest) = λ same. cc same

module _ (workers : ℕ) (bytes rest : List ℕ) (asks : List Ask) where
  pub ended : SoFar workers bytes rest asks → rest ≡ [] → AreAsks workers bytes asks
  ended so none = record {
    whole = ⊎_elim (λ same. inl (same ∙ ap (λ (l : List ℕ). asks_text asks ++ l) none ∙ append-nil (asks_text asks))) (λ same. inr same.0) so.whole;
    each = so.each;
    few = so.few;
  }

  pub read_on : (line more : List ℕ) (ask : Ask) → SoFar workers bytes rest asks → rest ≢ [] → length asks ≢ most_asks → IsFrontLine rest line more
      → IsAsk workers ask → line ≡ ask_text ask → SoFar workers bytes more (asks ++ (ask ∷ []))
  read_on line more ask so some room front is same = record {
    whole = ⊎_elim (λ here. ⊎_elim (λ fed_line. inl (with_feed here fed_line)) (λ last. inr (without here last.0, last.1)) front.whole)
        (λ over. absurd (some over.1)) so.whole;
    each = each-push workers asks ask so.each is;
    few = omega (arith, so.few, room, length-append asks (ask ∷ []));
  }
    where
      with_feed : bytes ≡ asks_text asks ++ rest → rest ≡ line ++ (10 ∷ more) → bytes ≡ asks_text (asks ++ (ask ∷ [])) ++ more
      with_feed here there =
          here ∙ ap (λ (l : List ℕ). asks_text asks ++ l) (there ∙ ap (λ (l : List ℕ). l ++ (10 ∷ more)) same)
          ∙ ap (λ (l : List ℕ). asks_text asks ++ l) (sym (append_assoc (ask_text ask) (10 ∷ []) more))
          ∙ sym (append_assoc (asks_text asks) (ask_text ask ++ (10 ∷ [])) more)
          ∙ ap (λ (l : List ℕ). l ++ more) (sym (asks_text-push asks ask))

      without : bytes ≡ asks_text asks ++ rest → rest ≡ line → bytes ++ (10 ∷ []) ≡ asks_text (asks ++ (ask ∷ []))
      without here there =
          fed bytes (asks_text asks) rest here ∙ ap (λ (l : List ℕ). asks_text asks ++ (l ++ (10 ∷ []))) (there ∙ same) ∙ sym (asks_text-push asks ask)

  module _ (small : workers < 2 ^ 64) (so : SoFar workers bytes rest asks) (some : rest ≢ []) where
    -- a line that isn't of the form can't be mended
    pub bad_line : (line more : List ℕ) → IsFrontLine rest line more → IsAskOf workers line None → NoAsks workers bytes
    bad_line line more front none others are =
        ⊎_elim (λ here. ⊎_elim (λ is. whole here is) (λ is. lacking here is) are.whole) (λ over. some over.1) so.whole
      where
        whole : bytes ≡ asks_text asks ++ rest → bytes ≡ asks_text others → ⊥
        whole here is = ⊎_elim
            (λ there. no_line workers small asks others line more so.each are.each front.clear none (ap (λ (l : List ℕ). asks_text asks ++ l) (sym there)
            ∙ sym here ∙ is))
            (λ last. no_part workers small asks others line so.each are.each front.clear (λ nothing. some (last.0 ∙ nothing))
            (ap (λ (l : List ℕ). asks_text asks ++ l) (sym last.0) ∙ sym here ∙ is)) front.whole

        lacking : bytes ≡ asks_text asks ++ rest → bytes ++ (10 ∷ []) ≡ asks_text others → ⊥
        lacking here is = ⊎_elim
            (λ there. no_line workers small asks others line (more ++ (10 ∷ [])) so.each are.each front.clear none
            (ap (λ (l : List ℕ). asks_text asks ++ l) (sym (append_assoc line (10 ∷ more) (10 ∷ [])) ∙ ap (λ (l : List ℕ). l ++ (10 ∷ [])) (sym there))
            ∙ sym (fed bytes (asks_text asks) rest here) ∙ is))
            (λ last. no_line workers small asks others line [] so.each are.each front.clear none
            (ap (λ (l : List ℕ). asks_text asks ++ (l ++ (10 ∷ []))) (sym last.0) ∙ sym (fed bytes (asks_text asks) rest here) ∙ is)) front.whole

    -- a line too many
    pub too_many : length asks ≡ most_asks → NoAsks workers bytes
    too_many full others are = ⊎_elim
        (λ here. ⊎_elim
        (λ is. omega (arith, full, are.few, more_lines workers small asks others rest so.each are.each some (sym here ∙ is)))
        (λ is. omega (
          arith,
          full,
          are.few,
          more_lines workers small asks others (rest ++ (10 ∷ [])) so.each are.each (some_fed rest)
              (sym (fed bytes (asks_text asks) rest here) ∙ is),
        ))
        are.whole)
        (λ over. some over.1) so.whole

-- ---- how long such lines are

ask_length : (workers : ℕ) (ask : Ask) → workers ≤ 64 → IsAsk workers ask → length (ask_text ask) ≤ 15
ask_length workers ask few is =
    omega (
      arith,
      length-append (decimal ask.worker) (32 ∷ decimal ask.moment),
      length-decimal-le 2 ask.worker (omega arith) (omega (arith, few, is.worker)) (omega (arith, few, is.worker)),
      length-decimal-le 12 ask.moment (omega arith) (omega (arith, is.moment)) (omega (arith, is.moment)),
    )

lines_length : (workers : ℕ) (asks : List Ask) → workers ≤ 64 → AllByRecursion (IsAsk workers) asks → length (asks_text asks) ≤ 16 * length asks
lines_length workers [] few each = omega arith
lines_length workers (ask ∷ asks) few each =
    omega (arith, length-append (ask_text ask) (10 ∷ asks_text asks), ask_length workers ask few each.0, lines_length workers asks few each.1)

pub asks_within : (workers : ℕ) (bytes : List ℕ) (asks : List Ask) → workers ≤ 64 → AreAsks workers bytes asks → length bytes ≤ 1_600_000
asks_within workers bytes asks few are = ⊎_elim
    (λ is. omega (arith, ap length is, are.few, lines_length workers asks few are.each))
    (λ is. omega (arith, ap length is, length-append bytes (10 ∷ []), are.few, lines_length workers asks few are.each)) are.whole
