-- What a call's answer says of an outcome, and that outcomes stay true as more renewals are seen.
use Rattle.std.proofs.Common.{◌≡◌, ⊎_elim, ℕ, zero, suc, ◌-◌, ◌≤◌, List, [], ◌∷◌, ◌++◌, length, Option, None, Some, refl, sym, ◌∙◌, ap, subst, arith, append_assoc}
use Rattle.std.proofs.lemmas.List.{append-nil}
use Rattle.std.specs.List.{AllZip}
use Rattle.std.specs.Prelude.{slice_get, option_map, Result, Ok, Err, IfOk, IfErr, IfSome}
use Rattle.renewer.specs.Histories.{newest}
use Rattle.renewer.specs.declared.fault.LeaseFault.{LeaseFault}
use Rattle.renewer.specs.declared.fault.LeaseFault.TheVariants as fault
use Rattle.renewer.specs.declared.renewal.Lease.{Lease as Granted}
use Rattle.renewer.specs.declared.renewal.Renewal.{Renewal}
use Rattle.shared_renewer.specs.Passes.{IsLeasedInTurn, LeaseLeaves, SawTurn, IsAskedNow}
use Rattle.shared_renewer.specs.Views.{Renewals, Begins}
use Rattle.shared_renewer.specs.declared.view.View.{View}
use Rattle.client_top.specs.Outcomes.{AreOutcomes, AreOutcomesOf, IsOutcome, IsShortAt, outcome_of}
use Rattle.client_top.specs.declared.outcome.Outcome.{Outcome}
use Rattle.client_top.specs.declared.outcome.Outcome.TheVariants.{Lease, Link, Refused, BadReply, ShortLived, Exhausted}

-- ---- beginnings

pub begins_same : (a b : Renewals) → b ≡ a → Begins a b
begins_same a b same = ([], same ∙ sym (append-nil a))

pub begins_on : (a b c : Renewals) → Begins a b → Begins b c → Begins a c
begins_on a b c x y = (x.0 ++ y.0, y.1 ∙ ap (λ (l : Renewals). l ++ y.0) x.1 ∙ append_assoc a x.0 y.0)

in_front : (a rest : Renewals) (i : ℕ) (r : Renewal) → slice_get a i ≡ Some r → slice_get (a ++ rest) i ≡ Some r
in_front [] rest i r e = absurd (cc e)
in_front (x ∷ a) rest zero r e = e
in_front (x ∷ a) rest (suc i) r e = in_front a rest i r e

there_still : (a b : Renewals) (i : ℕ) (r : Renewal) → Begins a b → slice_get a i ≡ Some r → slice_get b i ≡ Some r
there_still a b i r x e = subst (λ (l : Renewals). slice_get l i ≡ Some r) (sym x.1) (in_front a x.0 i r e)

-- ---- as more renewals are seen

pub outcome_stays : (margin at : ℕ) (a b : Renewals) (o : Outcome) → Begins a b → IsOutcome margin a at o → IsOutcome margin b at o
outcome_stays margin at a b (Lease index exp) x h =
    record { renewal = h.renewal; there = there_still a b index h.renewal x h.there; end = h.end; ends = h.ends; good = h.good }
outcome_stays margin at a b Link x h = h
outcome_stays margin at a b Refused x h = h
outcome_stays margin at a b BadReply x h = h
outcome_stays margin at a b ShortLived x h =
    record { index = h.index; renewal = h.renewal; there = there_still a b h.index h.renewal x h.there; asked = h.asked; over = h.over }
outcome_stays margin at a b Exhausted x h =
    record { renewal = h.renewal; there = there_still a b 9_999 h.renewal x h.there; uncovered = h.uncovered }

pub outcomes_stay : (margin : ℕ) (a b : Renewals) (moments : List ℕ) (outcomes : List Outcome) → Begins a b → AreOutcomesOf margin a moments outcomes
    → AreOutcomesOf margin b moments outcomes
outcomes_stay margin a b [] [] x h = h
outcomes_stay margin a b [] (o ∷ os) x h = h
outcomes_stay margin a b (m ∷ ms) [] x h = h
outcomes_stay margin a b (m ∷ ms) (o ∷ os) x h = (outcome_stays margin m a b o x h.0, outcomes_stay margin a b ms os x h.1)

pub lists_stay : (margin : ℕ) (a b : Renewals) (moments : List (List ℕ)) (lists : List (List Outcome)) → Begins a b
    → AreOutcomes margin a moments lists → AreOutcomes margin b moments lists
lists_stay margin a b [] [] x h = h
lists_stay margin a b [] (l ∷ ls) x h = h
lists_stay margin a b (m ∷ ms) [] x h = h
lists_stay margin a b (m ∷ ms) (l ∷ ls) x h = (outcomes_stay margin a b m l x h.0, lists_stay margin a b ms ls x h.1)

pub zip_last : {A B : Type 0} (R : A → B → Type 0) (xs : List A) (ys : List B) (x : A) (y : B) → AllZip R xs ys → R x y
    → AllZip R (xs ++ x ∷ []) (ys ++ y ∷ [])
zip_last R [] [] x y h last = (last, tt)
zip_last R [] (b ∷ ys) x y h last = absurd h
zip_last R (a ∷ xs) [] x y h last = absurd h
zip_last R (a ∷ xs) (b ∷ ys) x y h last = (h.0, zip_last R xs ys x y h.1 last)

-- ---- one call

pub seen_on : (at : ℕ) (old new : View) (answer : Result Granted LeaseFault) → IfOk answer (IsLeasedInTurn at old new)
    → IfErr answer (LeaseLeaves at old new) → Begins old.seen new.seen
seen_on at old new (Ok lease) ok err = ⊎_elim (λ (t : SawTurn 0 old new). t.seen) (λ (t : SawTurn 1 old new × IsAskedNow at new.seen). t.0.seen) ok.1
seen_on at old new (Err fault.LinkFault) ok err = begins_same old.seen new.seen err
seen_on at old new (Err (fault.Refused reply)) ok err = begins_same old.seen new.seen err.0
seen_on at old new (Err (fault.BadReply reply)) ok err = begins_same old.seen new.seen err.0
seen_on at old new (Err (fault.ShortLived exp)) ok err = err.0.seen
seen_on at old new (Err (fault.Exhausted exp)) ok err = err.0.seen
seen_on at old new (Err fault.Memory) ok err = begins_same old.seen new.seen err

short : (at exp : ℕ) (seen : Renewals) (last : Option Renewal) → newest seen ≡ last → IfSome last (λ renewal. renewal.asked ≡ at)
    → option_map (λ (renewal : Renewal). renewal.exp) last ≡ Some exp → exp ≤ at → IsShortAt at seen
short at exp seen None is asked end over = absurd (cc end)
short at exp seen (Some renewal) is asked end over =
    let same : renewal.exp ≡ exp = cc end in
    record { index = length seen - 1; renewal = renewal; there = is; asked = asked; over = omega (arith, same, over) }

pub outcome_told : (at : ℕ) (old new : View) (answer : Result Granted LeaseFault) → IfOk answer (IsLeasedInTurn at old new)
    → IfErr answer (LeaseLeaves at old new) → IfOk (outcome_of answer) (λ outcome. IsOutcome new.facts.margin new.seen at outcome)
outcome_told at old new (Ok lease) ok err =
    record { renewal = ok.0.renewal; there = ok.0.there; end = sym ok.0.exp; ends = ok.0.ends; good = ok.0.good }
outcome_told at old new (Err fault.LinkFault) ok err = tt
outcome_told at old new (Err (fault.Refused reply)) ok err = tt
outcome_told at old new (Err (fault.BadReply reply)) ok err = tt
outcome_told at old new (Err (fault.ShortLived exp)) ok err = short at exp new.seen (newest new.seen) refl err.1 err.2.0 err.2.1
outcome_told at old new (Err (fault.Exhausted exp)) ok err =
    let full = err.1 in
    record {
      renewal = full.1.0;
      there = subst (λ (n : ℕ). slice_get new.seen (n - 1) ≡ Some full.1.0) full.0 full.1.1;
      uncovered = omega (arith, full.1.2, full.1.3);
    }
outcome_told at old new (Err fault.Memory) ok err = tt
