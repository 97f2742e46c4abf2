-- The moments of each worker are as many lists as there are workers, and in their range.
use Rattle.std.proofs.Common.{◌≡◌, ◌≤◌, ℕ, zero, suc, List, [], ◌∷◌, ◌++◌, length, map, Bool, true, false, cond, nat_eq, Vec, Global, refl, sym, ap, subst, arith, length-append}
use Rattle.std.proofs.lemmas.List.{length-map}
use Rattle.std.specs.Prelude.{filter, Option}
use Rattle.std.specs.List.{AllByRecursion}
use Rattle.client_top.specs.Asks.{IsAsk, last_moment, moments_by, moments_of}
use Rattle.client_top.specs.Runs.{ReadsMoments}
use Rattle.client_top.specs.declared.asks.Ask.{Ask}

abbrev InRange : List ℕ → Type 0
InRange moments = AllByRecursion (λ at. at ≤ last_moment) moments

-- the lines of one worker
abbrev asks_of : ℕ → List Ask → List Ask
asks_of worker asks = filter (λ ask. nat_eq ask.worker worker) asks

of_range : (workers worker : ℕ) (asks : List Ask) → AllByRecursion (IsAsk workers) asks → InRange (moments_of worker asks)
of_range workers worker [] each = tt
of_range workers worker (a ∷ asks) each = by_test (of_range workers worker asks each.1) (nat_eq a.worker worker)
  where
    by_test : InRange (moments_of worker asks) → (b : Bool) → InRange (map (λ ask. ask.moment) (cond {A = List Ask} b (a ∷ asks_of worker asks) (asks_of worker asks)))
    by_test others true = (each.0.moment, others)
    by_test others false = others

all-push : {X : Type 0} (P : X → Type 0) (xs : List X) (x : X) → AllByRecursion P xs → P x → AllByRecursion P (xs ++ (x ∷ []))
all-push P [] x all one = (one, tt)
all-push P (y ∷ xs) x all one = (all.0, all-push P xs x all.1 one)

by_range : (workers count : ℕ) (asks : List Ask) → AllByRecursion (IsAsk workers) asks → AllByRecursion InRange (moments_by count asks)
by_range workers zero asks each = tt
by_range workers (suc count) asks each = all-push InRange (moments_by count asks) (moments_of count asks) (by_range workers count asks each)
    (of_range workers count asks each)

by_length : (count : ℕ) (asks : List Ask) → length (moments_by count asks) ≡ count
by_length zero asks = refl
by_length (suc count) asks = omega (arith, length-append (moments_by count asks) (moments_of count asks ∷ []), by_length count asks)

unmapped : {X Y : Type 0} (P : Y → Type 0) (f : X → Y) (xs : List X) → AllByRecursion P (map f xs) → AllByRecursion (λ x. P (f x)) xs
unmapped P f [] all = tt
unmapped P f (x ∷ xs) all = (all.0, unmapped P f xs all.1)

module _ (workers : ℕ) (left left' : Option (List ℕ)) (lists : List (Vec ℕ Global)) (read : ReadsMoments workers left left' (map (λ list. list.items) lists))
  where
    pub read_few : workers ≤ 64 → length lists ≤ 64
    read_few few = omega (arith, length-map lists (λ (list : Vec ℕ Global). list.items), ap length read.by_worker, by_length workers read.asks)

    pub read_range : AllByRecursion (λ list. AllByRecursion (λ at. at ≤ last_moment) list.items) lists
    read_range = unmapped InRange (λ (list : Vec ℕ Global). list.items) lists
        (subst (AllByRecursion InRange) (sym read.by_worker) (by_range workers workers read.asks read.read.are.each))
