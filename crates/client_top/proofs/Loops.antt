-- What the loops over moments and over workers keep.
use Rattle.std.proofs.Common.{◌≡◌, ℕ, suc, ◌+◌, ◌<◌, List, [], ◌∷◌, ◌++◌, length, map, get_or, Bool, true, refl, sym, ◌∙◌, ap, subst, arith, append_assoc, length-append}
use Rattle.std.proofs.lemmas.List.{append-nil, map-append}
use Rattle.std.proofs.lemmas.List.Elements.{All-nil, All-push, All-tail}
use Rattle.std.specs.Prelude.{All, flat_map, IfOk, Result}
use Rattle.shared_renewer.specs.Passes.{Known}
use Rattle.shared_renewer.specs.Views.{Begins, Renewals, joined, looked}
use Rattle.shared_renewer.specs.declared.view.ClientFacts.{ClientFacts}
use Rattle.shared_renewer.specs.declared.view.View.{View}
use Rattle.client_top.specs.Jobs.{HasFound, HasLent}
use Rattle.client_top.specs.Outcomes.{AreOutcomes, AreOutcomesOf, IsLostBy, IsLostIn, IsOutcome}
use Rattle.client_top.specs.declared.outcome.Outcome.{Outcome}
use Rattle.client_top.proofs.Joining.{all_last, lent_back, lost_joined, lost_none, lost_on, rises_on, rises_same}
use Rattle.client_top.proofs.Outcomes.{begins_on, begins_same, lists_stay, outcomes_stay, zip_last}

-- ---- shares lent

pub lent_none : (v : View) → HasLent v v 0
lent_none v = record { share = omega arith; facts = refl; seen = begins_same v.seen v.seen refl; rises = rises_same v }

pub lent_on : (m n : ℕ) (a b c : View) → HasLent a b m → HasLent b c n → HasLent a c (m + n)
lent_on m n a b c x y = record {
  share = omega (arith, x.share, y.share);
  facts = y.facts ∙ x.facts;
  seen = begins_on a.seen b.seen c.seen x.seen y.seen;
  rises = rises_on a b c x.rises y.rises;
}

pub lent_for : (m n : ℕ) (a b : View) → m ≡ n → HasLent a b m → HasLent a b n
lent_for m n a b same h = subst (λ (k : ℕ). HasLent a b k) same h

-- ---- the moments of one worker

pub record AreLeased (old new : Known) (moments : List ℕ) (outcomes : List Outcome) : Type 0 where
  pub table_is : new.table ≡ old.table
  pub lent : HasLent old.view new.view 0
  pub outcomes_are : AreOutcomesOf new.view.facts.margin new.view.seen moments outcomes
  pub lost : IsLostIn outcomes old.view new.view

pub none_leased : (p : Known) → AreLeased p p [] []
none_leased p = record { table_is = refl; lent = lent_none p.view; outcomes_are = tt; lost = lost_none p.view p.view refl }

pub one_leased : (old mid new : Known) (moments : List ℕ) (outcomes : List Outcome) (at : ℕ) (outcome : Outcome) → AreLeased old mid moments outcomes
    → new.table ≡ mid.table → HasLent mid.view new.view 0
    → IsOutcome new.view.facts.margin new.view.seen at outcome → IsLostIn (outcome ∷ []) mid.view new.view
    → AreLeased old new (moments ++ at ∷ []) (outcomes ++ outcome ∷ [])
one_leased old mid new moments outcomes at outcome so_far table lent is lost =
    let before = outcomes_stay mid.view.facts.margin mid.view.seen new.view.seen moments outcomes lent.seen so_far.outcomes_are in
    let here = subst (λ (f : ClientFacts). AreOutcomesOf f.margin new.view.seen moments outcomes) (sym lent.facts) before in
    record {
      table_is = table ∙ so_far.table_is;
      lent = lent_on 0 0 old.view mid.view new.view so_far.lent lent;
      outcomes_are = zip_last (IsOutcome new.view.facts.margin new.view.seen) moments outcomes at outcome here is;
      lost = lost_on outcomes (outcome ∷ []) old.view mid.view new.view so_far.lost lost lent.rises.left.faults lent.facts;
    }

-- ---- all workers

module _ {J : Type 0} (moments_of : J → List ℕ) where
  -- the workers so far, each with a pass of its own
  pub record AreSplit (Fits : J → Type 0) (old new : Known) (moments : List (List ℕ)) (jobs : List J) : Type 0 where
    pub table_is : new.table ≡ old.table
    pub lent : HasLent old.view new.view (length jobs)
    pub lost : new.view.lost ≡ old.view.lost
    pub each : All Fits jobs
    pub moments_are : map moments_of jobs ≡ moments

  pub none_split : (Fits : J → Type 0) (p : Known) → AreSplit Fits p p [] []
  none_split Fits p = record { table_is = refl; lent = lent_none p.view; lost = refl; each = All-nil Fits; moments_are = refl }

  pub one_split : (Fits : J → Type 0) (old mid new : Known) (moments : List (List ℕ)) (jobs : List J) (job : J) → AreSplit Fits old mid moments jobs
      → new.table ≡ mid.table
      → HasLent mid.view new.view 1 → new.view.lost ≡ mid.view.lost → Fits job → AreSplit Fits old new (moments ++ moments_of job ∷ []) (jobs ++ job ∷ [])
  one_split Fits old mid new moments jobs job so_far table lent lost fits = record {
    table_is = table ∙ so_far.table_is;
    lent = lent_for (length jobs + 1) (length (jobs ++ job ∷ [])) old.view new.view (sym (length-append jobs (job ∷ [])))
        (lent_on (length jobs) 1 old.view mid.view new.view so_far.lent lent);
    lost = lost ∙ so_far.lost;
    each = All-push Fits jobs job so_far.each fits;
    moments_are = map-append moments_of jobs (job ∷ []) ∙ ap (λ (l : List (List ℕ)). l ++ moments_of job ∷ []) so_far.moments_are;
  }

  -- The passes of some workers are joined back, and their outcomes stand in order, where none lacked memory.
  pub record AreJoined (Fits : J → Type 0) (old new : Known) (whole : Bool) (all rest : List J) (lists : List (List Outcome)) : Type 0 where
    pub done : List J
    pub cut : all ≡ done ++ rest
    pub table_is : new.table ≡ old.table
    pub facts : new.view.facts ≡ old.view.facts
    pub outcomes_are : whole ≡ true → AreOutcomes old.view.facts.margin new.view.seen (map moments_of done) lists
    pub lost : whole ≡ true → IsLostBy lists old.view new.view
    pub lent : (first : View) (lent : ℕ) → HasLent first old.view (lent + length all) → HasLent first new.view (lent + length rest)
    pub each : All Fits rest

  pub none_joined : (Fits : J → Type 0) (p : Known) (all : List J) → All Fits all → AreJoined Fits p p true all all []
  none_joined Fits p all each = record {
    done = [];
    cut = refl;
    table_is = refl;
    facts = refl;
    outcomes_are = λ _. tt;
    lost = λ _. lost_none p.view p.view refl;
    lent = λ first lent h. h;
    each = each;
  }

  -- where a worker's outcomes were put behind the others
  abbrev pub IsPut : Known → J → Bool → Bool → List (List Outcome) → List (List Outcome) → Type 0
  IsPut part job before whole lists more =
      whole ≡ true → (before ≡ true) × ((outcomes : List Outcome) × (more ≡ lists ++ outcomes ∷ []) × HasFound part (moments_of job) outcomes)

  put_outcomes : (old mid new part : Known) (done : List J) (job : J) (lists more : List (List Outcome))
      → AreOutcomes old.view.facts.margin mid.view.seen (map moments_of done) lists
      → Begins mid.view.seen new.view.seen → Begins part.view.seen new.view.seen → part.view.facts ≡ old.view.facts
      → (outcomes : List Outcome) × (more ≡ lists ++ outcomes ∷ []) × HasFound part (moments_of job) outcomes
      → AreOutcomes old.view.facts.margin new.view.seen (map moments_of (done ++ job ∷ [])) more
  put_outcomes old mid new part done job lists more so_far mine theirs facts put =
      let margin = old.view.facts.margin in
      let before = lists_stay margin mid.view.seen new.view.seen (map moments_of done) lists mine so_far in
      let found = subst (λ (f : ClientFacts). AreOutcomesOf f.margin part.view.seen (moments_of job) put.0) facts put.2.outcomes_are in
      let last = outcomes_stay margin part.view.seen new.view.seen (moments_of job) put.0 theirs found in
      let both = zip_last (AreOutcomesOf margin new.view.seen) (map moments_of done) lists (moments_of job) put.0 before last in
      rw (map-append moments_of done (job ∷ []), put.1) both

  put_lost : (last : ℕ) (old mid new part : Known) (job : J) (lists more : List (List Outcome)) → new.view ≡ looked last (joined mid.view part.view)
      → part.view.facts ≡ mid.view.facts → IsLostBy lists old.view mid.view → (outcomes : List Outcome) × (more ≡ lists ++ outcomes ∷ []) × HasFound part (moments_of job) outcomes
      → IsLostBy more old.view new.view
  put_lost last old mid new part job lists more is facts so_far put =
      let both = lost_joined last old.view mid.view part.view new.view (flat_map (λ (l : List Outcome). l) lists) put.0 is facts so_far put.2.lost in
      let same = ap (λ (ls : List (List Outcome)). flat_map (λ (l : List Outcome). l) ls) put.1 ∙ all_last lists put.0 in
      subst (λ (l : List Outcome). IsLostIn l old.view new.view) (sym same) both

  pub one_joined : (Fits : J → Type 0) (last : ℕ) (old mid new part : Known) (before whole : Bool) (all rest : List J) (job : J)
      (lists more : List (List Outcome))
      → AreJoined Fits old mid before all (job ∷ rest) lists → new.table ≡ mid.table
      → new.view ≡ looked last (joined mid.view part.view) → Begins mid.view.seen new.view.seen
      → Begins part.view.seen new.view.seen → part.view.share ≡ 1 → part.view.facts ≡ old.view.facts
      → IsPut part job before whole lists more → AreJoined Fits old new whole all rest more
  one_joined Fits last old mid new part before whole all rest job lists more so_far table is mine theirs one facts put = record {
    done = so_far.done ++ job ∷ [];
    cut = so_far.cut ∙ sym (append_assoc so_far.done (job ∷ []) rest);
    table_is = table ∙ so_far.table_is;
    facts = ap (λ (v : View). v.facts) is ∙ so_far.facts;
    outcomes_are = λ w. let p = put w in put_outcomes old mid new part so_far.done job lists more (so_far.outcomes_are p.0) mine theirs facts p.1;
    lost = λ w. let p = put w in put_lost last old mid new part job lists more is (facts ∙ sym so_far.facts) (so_far.lost p.0) p.1;
    lent = λ first lent h.
        let more_lent : HasLent first mid.view (lent + suc (length rest)) = so_far.lent first lent h in
        let same : lent + suc (length rest) ≡ (lent + length rest) + 1 = omega arith in
        lent_back last (lent + length rest) first mid.view part.view new.view is mine one (subst (λ (n : ℕ). HasLent first mid.view n) same more_lent);
    each = All-tail Fits job rest so_far.each;
  }

  pub all_joined : (Fits : J → Type 0) (old new : Known) (whole : Bool) (all rest : List J) (lists : List (List Outcome)) → rest ≡ [] → whole ≡ true
      → AreJoined Fits old new whole all rest lists
      → AreOutcomes old.view.facts.margin new.view.seen (map moments_of all) lists
  all_joined Fits old new whole all rest lists none is h =
      let same : all ≡ h.done = h.cut ∙ ap (λ (l : List J). h.done ++ l) none ∙ append-nil h.done in
      subst (λ (l : List J). AreOutcomes old.view.facts.margin new.view.seen (map moments_of l) lists) (sym same) (h.outcomes_are is)

-- ---- lists that are the same at each place

pub same_maps : {A B : Type 0} (f : A → B) (xs ys : List A) → length ys ≡ length xs → ((i : ℕ) (d : A) → i < length xs
    → f (get_or ys i d) ≡ f (get_or xs i d)) → map f ys ≡ map f xs
same_maps f [] [] len each = refl
same_maps f [] (y ∷ ys) len each = absurd (omega (arith, len))
same_maps f (x ∷ xs) [] len each = absurd (omega (arith, len))
same_maps f (x ∷ xs) (y ∷ ys) len each =
    let first : f y ≡ f x = each 0 x (omega arith) in
    let rest = same_maps f xs ys (omega (arith, len)) (λ i d lt. each (suc i) d (omega (arith, lt))) in
    λ i. first i ∷ rest i

-- the same outcomes, for an equal margin and equal moments
pub told_of : {V E : Type 0} (result : Result V E) (lists_of : V → List (List Outcome)) (f g : ClientFacts) (seen : Renewals) (ms ns : List (List ℕ))
    → f ≡ g → ms ≡ ns
    → IfOk result (λ v. AreOutcomes f.margin seen ms (lists_of v)) → IfOk result (λ v. AreOutcomes g.margin seen ns (lists_of v))
told_of result lists_of f g seen ms ns e d h =
    subst (λ (p : ClientFacts × List (List ℕ)). IfOk result (λ v. AreOutcomes p.0.margin seen p.1 (lists_of v))) (λ i. (e i, d i)) h

pub none_left : {A : Type 0} (xs : List A) → length xs ≡ 0 → xs ≡ []
none_left [] len = refl
none_left (x ∷ xs) len = absurd (omega (arith, len))
