-- What passes that are joined again know together.
use Rattle.std.proofs.Common.{◌≡◌, ◌⊎◌, inl, inr, ⊎_elim, ℕ, ◌+◌, ◌-◌, ◌^◌, ◌≤◌, List, [], ◌∷◌, ◌++◌, Bool, refl, sym, ◌∙◌, ap, subst, arith}
use Rattle.std.proofs.lemmas.List.{append-nil}
use Rattle.std.proofs.lemmas.List.Concat.{flat_map-append}
use Rattle.std.specs.Prelude.{flat_map, IfOk, Result, Ok, Err, IsSome, max}
use Rattle.renewer.specs.declared.fault.LeaseFault.{LeaseFault}
use Rattle.renewer.specs.declared.fault.LeaseFault.TheVariants as fault
use Rattle.renewer.specs.declared.renewal.Lease.{Lease as Granted}
use Rattle.shared_renewer.specs.Counts.{AreWithin}
use Rattle.shared_renewer.specs.Passes.{IsToldFault, IsToldReply, Loses, NeverFalls}
use Rattle.shared_renewer.specs.Views.{Begins, joined, looked, no_counts, kept_share}
use Rattle.shared_renewer.specs.declared.view.ClientFacts.{ClientFacts}
use Rattle.shared_renewer.specs.declared.view.LinkCounts.{LinkCounts}
use Rattle.shared_renewer.specs.declared.view.View.{View}
use Rattle.client_top.specs.Jobs.{HasLent}
use Rattle.client_top.specs.Outcomes.{IsLostIn, how_many, is_link, is_reply, outcome_of}
use Rattle.client_top.specs.declared.outcome.Outcome.{Outcome}
use Rattle.client_top.proofs.Outcomes.{begins_same, begins_on}

-- ---- counts

pub within_same : (a : LinkCounts) → AreWithin a a
within_same a = record { faults = omega arith; failed = omega arith }

within_on : (a b c : LinkCounts) → AreWithin a b → AreWithin b c → AreWithin a c
within_on a b c x y = record { faults = omega (arith, x.faults, y.faults); failed = omega (arith, x.failed, y.failed) }

pub rises_same : (v : View) → NeverFalls v v
rises_same v = record { found = within_same v.found; left = within_same v.left; lost = within_same v.lost }

pub rises_on : (a b c : View) → NeverFalls a b → NeverFalls b c → NeverFalls a c
rises_on a b c x y = record {
  found = within_on a.found b.found c.found x.found y.found;
  left = within_on a.left b.left c.left x.left y.left;
  lost = within_on a.lost b.lost c.lost x.lost y.lost;
}

how_many-append : (is : Outcome → Bool) (xs ys : List Outcome) → how_many is (xs ++ ys) ≡ how_many is xs + how_many is ys
how_many-append is [] ys = omega arith
how_many-append is (x ∷ xs) ys = let h = how_many-append is xs ys in omega (arith, h)

-- ---- failures, one call after the other

pub lost_none : (old new : View) → new.lost ≡ old.lost → IsLostIn [] old new
lost_none old new same = record {
  faults = inl (let e = ap (λ (c : LinkCounts). c.faults) same in omega (arith, e));
  failed = λ told. let e = ap (λ (c : LinkCounts). c.failed) same in omega (arith, e);
}

pub lost_on : (xs ys : List Outcome) (a b c : View) → IsLostIn xs a b → IsLostIn ys b c → b.left.faults ≤ c.left.faults → c.facts ≡ b.facts
    → IsLostIn (xs ++ ys) a c
lost_on xs ys a b c p q up same = record {
  faults = ⊎_elim
      (λ (x : b.lost.faults ≡ a.lost.faults + how_many is_link xs).
      ⊎_elim
      (λ (y : c.lost.faults ≡ b.lost.faults + how_many is_link ys). inl (omega (arith, x, y, how_many-append is_link xs ys)))
      (λ (y : 2 ^ 64 - 1 ≤ c.left.faults). inr y)
      q.faults)
      (λ (x : 2 ^ 64 - 1 ≤ b.left.faults). inr (omega (arith, x, up)))
      p.faults;
  failed = λ told.
      let before : IsSome b.facts.made = subst (λ (f : ClientFacts). IsSome f.made) same told in
      omega (arith, p.failed before, q.failed told, how_many-append is_reply xs ys);
}

lost_still : (old new : View) → new.lost ≡ old.lost → (o : Outcome) → how_many is_link (o ∷ []) ≡ 0 → how_many is_reply (o ∷ []) ≡ 0
    → IsLostIn (o ∷ []) old new
lost_still old new same o link reply = record {
  faults = inl (let e = ap (λ (c : LinkCounts). c.faults) same in omega (arith, e, link));
  failed = λ told. let e = ap (λ (c : LinkCounts). c.failed) same in omega (arith, e, reply);
}

lost_reply : (old new : View) → IsToldReply old new → (o : Outcome) → how_many is_link (o ∷ []) ≡ 0 → how_many is_reply (o ∷ []) ≡ 1
    → IsLostIn (o ∷ []) old new
lost_reply old new t o link reply = record {
  faults = inl (omega (arith, t.faults, link));
  failed = λ told. omega (arith, t.failed told, reply);
}

lost_fault : (old new : View) → IsToldFault old new → (o : Outcome) → how_many is_link (o ∷ []) ≡ 1 → how_many is_reply (o ∷ []) ≡ 0
    → IsLostIn (o ∷ []) old new
lost_fault old new t o link reply = record {
  faults = ⊎_elim
      (λ (x : new.lost.faults ≡ old.lost.faults + 1). inl (omega (arith, x, link)))
      (λ (x : (new.lost.faults ≡ old.lost.faults) × (2 ^ 64 - 1 ≤ new.left.faults)). inr x.1)
      t.faults;
  failed = λ told. omega (arith, t.failed, reply);
}

pub lost_told : (old new : View) (answer : Result Granted LeaseFault) → Loses old new answer
    → IfOk (outcome_of answer) (λ outcome. IsLostIn (outcome ∷ []) old new)
lost_told old new (Ok lease) h = lost_still old new h _ refl refl
lost_told old new (Err fault.LinkFault) h = lost_fault old new h _ refl refl
lost_told old new (Err (fault.Refused reply)) h = lost_reply old new h _ refl refl
lost_told old new (Err (fault.BadReply reply)) h = lost_reply old new h _ refl refl
lost_told old new (Err (fault.ShortLived exp)) h = lost_still old new h _ refl refl
lost_told old new (Err (fault.Exhausted exp)) h = lost_still old new h _ refl refl
lost_told old new (Err fault.Memory) h = tt

-- counted from nothing, where the pass had been told of nothing
pub lost_anew : (xs : List Outcome) (old new : View) → old.lost ≡ no_counts → IsLostIn xs old new → IsLostIn xs (record new { lost = no_counts }) new
lost_anew xs old new none h = record {
  faults = subst (λ (c : LinkCounts). (new.lost.faults ≡ c.faults + how_many is_link xs) ⊎ (2 ^ 64 - 1 ≤ new.left.faults)) none h.faults;
  failed = λ told. subst (λ (c : LinkCounts). new.lost.failed ≡ c.failed + how_many is_reply xs) none (h.failed told);
}

-- ---- a pass that is joined back

max_left : (a b : ℕ) → a ≤ max a b
max_left a b = omega arith

pub lent_back : (last lent : ℕ) (old v w new : View) → new ≡ looked last (joined v w) → Begins v.seen new.seen → w.share ≡ 1
    → HasLent old v (lent + 1) → HasLent old new lent
lent_back last lent old v w new is seen one h =
    let share : new.share ≡ v.share + w.share = ap (λ (n : View). n.share) is in
    let facts : new.facts ≡ v.facts = ap (λ (n : View). n.facts) is in
    let found : new.found ≡ v.found = ap (λ (n : View). n.found) is in
    let left : new.left.faults ≡ max v.left.faults w.left.faults = ap (λ (n : View). n.left.faults) is in
    let left2 : new.left.failed ≡ max v.left.failed w.left.failed = ap (λ (n : View). n.left.failed) is in
    let lost : new.lost.faults ≡ v.lost.faults + w.lost.faults = ap (λ (n : View). n.lost.faults) is in
    let lost2 : new.lost.failed ≡ v.lost.failed + w.lost.failed = ap (λ (n : View). n.lost.failed) is in
    record {
      share = omega (arith, share, one, h.share);
      facts = facts ∙ h.facts;
      seen = begins_on old.seen v.seen new.seen h.seen seen;
      rises = record {
        found = subst (λ (c : LinkCounts). AreWithin old.found c) (sym found) h.rises.found;
        left = record { faults = omega (arith, left, h.rises.left.faults); failed = omega (arith, left2, h.rises.left.failed) };
        lost = record { faults = omega (arith, lost, h.rises.lost.faults); failed = omega (arith, lost2, h.rises.lost.failed) };
      };
    }

pub lent_more : (lent : ℕ) (old v new : View) → new ≡ kept_share v → 2 ≤ v.share → HasLent old v lent → HasLent old new (lent + 1)
lent_more lent old v new is two h =
    let share : new.share ≡ v.share - 1 = ap (λ (n : View). n.share) is in
    record {
      share = omega (arith, share, two, h.share);
      facts = ap (λ (n : View). n.facts) is ∙ h.facts;
      seen = begins_on old.seen v.seen new.seen h.seen (begins_same v.seen new.seen (ap (λ (n : View). n.seen) is));
      rises = record {
        found = subst (λ (c : LinkCounts). AreWithin old.found c) (sym (ap (λ (n : View). n.found) is)) h.rises.found;
        left = subst (λ (c : LinkCounts). AreWithin old.left c) (sym (ap (λ (n : View). n.left) is)) h.rises.left;
        lost = subst (λ (c : LinkCounts). AreWithin old.lost c) (sym (ap (λ (n : View). n.lost) is)) h.rises.lost;
      };
    }

pub lost_joined : (last : ℕ) (old v w new : View) (xs ys : List Outcome) → new ≡ looked last (joined v w) → w.facts ≡ v.facts → IsLostIn xs old v
    → IsLostIn ys (record w { lost = no_counts }) w → IsLostIn (xs ++ ys) old new
lost_joined last old v w new xs ys is same p q =
    let lost : new.lost.faults ≡ v.lost.faults + w.lost.faults = ap (λ (n : View). n.lost.faults) is in
    let lost2 : new.lost.failed ≡ v.lost.failed + w.lost.failed = ap (λ (n : View). n.lost.failed) is in
    let left : new.left.faults ≡ max v.left.faults w.left.faults = ap (λ (n : View). n.left.faults) is in
    record {
      faults = ⊎_elim
          (λ (x : v.lost.faults ≡ old.lost.faults + how_many is_link xs).
          ⊎_elim
          (λ (y : w.lost.faults ≡ 0 + how_many is_link ys). inl (omega (arith, lost, x, y, how_many-append is_link xs ys)))
          (λ (y : 2 ^ 64 - 1 ≤ w.left.faults). inr (omega (arith, left, y)))
          q.faults)
          (λ (x : 2 ^ 64 - 1 ≤ v.left.faults). inr (omega (arith, left, x)))
          p.faults;
      failed = λ told.
          let mine : IsSome v.facts.made = subst (λ (f : ClientFacts). IsSome f.made) (ap (λ (n : View). n.facts) is) told in
          let theirs : IsSome w.facts.made = subst (λ (f : ClientFacts). IsSome f.made) (sym same) mine in
          omega (arith, lost2, p.failed mine, q.failed theirs, how_many-append is_reply xs ys);
    }

pub all_last : (lists : List (List Outcome)) (list : List Outcome)
    → flat_map (λ (l : List Outcome). l) (lists ++ list ∷ []) ≡ flat_map (λ (l : List Outcome). l) lists ++ list
all_last lists list =
    flat_map-append (λ (l : List Outcome). l) lists (list ∷ [])
    ∙ ap (λ (l : List Outcome). flat_map (λ (m : List Outcome). m) lists ++ l) (append-nil list)
