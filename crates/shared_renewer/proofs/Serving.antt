-- What a turn brings to the pass that has it.
use Rattle.std.proofs.Common.{◌≡◌, ◌⊎◌, inl, inr, ℕ, ◌+◌, ◌-◌, ◌*◌, ◌/◌, ◌%◌, ◌^◌, ◌<◌, ◌≤◌, List, [], ◌∷◌, ◌++◌, length, Bool, true, false, refl, sym, ◌∙◌, ap, subst, arith, length-append}
use Rattle.std.proofs.lemmas.Bool.Decides.{nat_tests}
use Rattle.std.specs.Prelude.{Option, None, Some, IfSome, IsSome, option_map, nat_lt, slice_get, Result, Ok, Err, IfOk, IfErr, ⊤}
use Rattle.std.specs.declared.alloc.AllocError.{AllocError}
use Rattle.atomic_table.specs.Table.{rest}
use Rattle.wif_base.specs.Causes.{Rose}
use Rattle.client_link.specs.declared.target.LinkCall.{LinkCall}
use Rattle.client_link.specs.declared.target.Target.{Target}
use Rattle.client_proto.specs.declared.config.ClientConfig.{ClientConfig}
use Rattle.renewer.specs.Flights.{Flown}
use Rattle.renewer.specs.Histories.{NoWaste, RecordsAtMost, newest}
use Rattle.renewer.specs.Leases.{FaultLeaves, IsAsked, IsBad, IsExhausted, IsLeased, IsRefusal, TellsMore}
use Rattle.renewer.specs.declared.fault.LeaseFault.{LeaseFault}
use Rattle.renewer.specs.declared.fault.LeaseFault.TheVariants.{LinkFault, Refused, BadReply, ShortLived, Exhausted, Memory}
use Rattle.renewer.specs.declared.renewal.Lease.{Lease}
use Rattle.renewer.specs.declared.renewal.Renewal.{Renewal}
use Rattle.renewer.proofs.Telling.{tells-nothing, tells-then}
use Rattle.shared_renewer.specs.Asks.{Answers, Brings, IsAskedFor, IsCounted, IsServed, Serves, Settles, ending_of, hides_history}
use Rattle.shared_renewer.specs.Counts.{AreWithin, GoOnFrom, HasFacts, counts_of, facts_of, told_failures}
use Rattle.shared_renewer.specs.Failures.{failed_calls}
use Rattle.shared_renewer.specs.Looks.{AreOfNewest, IsSeenWhole, Looks, TurnLeaves, ending_by}
use Rattle.shared_renewer.specs.Passes.{IsAskedNow, IsNewest, IsToldReply, Keeps, NeverFalls, SawTurn, newest_end}
use Rattle.shared_renewer.specs.Seats.{IsSettled}
use Rattle.shared_renewer.specs.Turns.{GoesOnByOne, IsIdle, IsMissed, IsReady, OnlyLooked, SeatState, Took}
use Rattle.shared_renewer.specs.Views.{Begins, Renewals, after_turn, joined, longer, looked, one_more, took}
use Rattle.shared_renewer.specs.declared.asking.Outcome.{Outcome}
use Rattle.shared_renewer.specs.declared.asking.Outcome.TheVariants.{Seen, Unseen}
use Rattle.shared_renewer.specs.declared.fault.TryFault.{TryFault}
use Rattle.shared_renewer.specs.declared.fault.TryFault.TheVariants as try
use Rattle.shared_renewer.specs.declared.looking.Copies.{Copies}
use Rattle.shared_renewer.specs.declared.turns.Ending.{Ending}
use Rattle.shared_renewer.specs.declared.turns.Ending.TheVariants as ending
use Rattle.shared_renewer.specs.declared.view.ClientFacts.{ClientFacts}
use Rattle.shared_renewer.specs.declared.view.LinkCounts.{LinkCounts}
use Rattle.shared_renewer.specs.declared.view.View.{View}
use Rattle.shared_renewer.proofs.Failing.{ends_failed, failed-append}
use Rattle.shared_renewer.proofs.Stepping.{begins_on, within_on, within_same}

-- ---- the newest of some renewals

last_get : (history : Renewals) (r : Renewal) → slice_get (history ++ r ∷ []) (length history) ≡ Some r
last_get [] r = refl
last_get (x ∷ history) r = last_get history r

pub newest-push : (history : Renewals) (r : Renewal) → newest (history ++ r ∷ []) ≡ Some r
newest-push history r =
    let place : length (history ++ r ∷ []) - 1 ≡ length history = omega (arith, length-append history (r ∷ [])) in
    ap (slice_get (history ++ r ∷ [])) place ∙ last_get history r

push_same : (history : Renewals) (r s : Renewal) → history ++ r ∷ [] ≡ history ++ s ∷ [] → r ≡ s
push_same history r s same =
    let both : Some r ≡ Some s = sym (newest-push history r) ∙ ap newest same ∙ newest-push history s in
    cc both

push_differs : (history : Renewals) (r : Renewal) → history ≡ history ++ r ∷ [] → ⊥
push_differs history r same = omega (arith, ap length same, length-append history (r ∷ []))

-- ---- told calls

told_more : (config : ClientConfig) (P : List LinkCall → Type 0) (old new : Option (List LinkCall)) → TellsMore old new P → told_failures config old ≤ told_failures config new
told_more config P None new tells = omega arith
told_more config P (Some calls) None tells = absurd tells
told_more config P (Some calls) (Some now) (made, is, p) = omega (arith, failed-append config calls made, ap (failed_calls config) is)

told_failed : (config : ClientConfig) (P : List LinkCall → Type 0) (old new : Option (List LinkCall)) → TellsMore old new P → ((made : List LinkCall) → P made → 1 ≤ failed_calls config made)
    → IsSome old → told_failures config old < told_failures config new
told_failed config P None new tells fails some = cc some
told_failed config P (Some calls) None tells fails some = absurd tells
told_failed config P (Some calls) (Some now) (made, is, p) fails some = omega (arith, fails made p, failed-append config calls made, ap (failed_calls config) is)

still_told : (made calls : Option (List LinkCall)) → GoOnFrom made calls → IsSome made → IsSome calls
still_told None calls goes some = cc some
still_told (Some xs) None goes some = absurd goes
still_told (Some xs) (Some ys) goes some = some

-- ---- a client is asked

module _ {L : Type 0} (faults : L → ℕ) (calls : L → Option (List LinkCall)) (lender : L → ℕ) where
  abbrev counts : Flown L → LinkCounts
  counts = counts_of faults calls

  abbrev Has : Flown L → ClientFacts → Type 0
  Has = HasFacts calls lender

  -- a client has its own facts
  pub has_own : (f : Flown L) → Has f (facts_of calls lender f)
  has_own f = record { margin = refl; config = refl; before = refl; made = tells-nothing (λ _. ⊤) (calls f.link) tt; lender = refl }

  -- what a client keeps when it is asked
  pub record IsKeptBy (old new : Flown L) : Type 0 where
    pub config : new.config ≡ old.config
    pub margin : new.margin ≡ old.margin
    pub first : new.first ≡ old.first
    pub count : faults old.link ≤ faults new.link
    pub same : lender new.link ≡ lender old.link

  pub has_on : (P : List LinkCall → Type 0) (old new : Flown L) (facts : ClientFacts) → Has old facts → IsKeptBy old new → TellsMore (calls old.link) (calls new.link) P → Has new facts
  has_on P old new facts has kept tells = record {
    margin = kept.margin ∙ has.margin;
    config = kept.config ∙ has.config;
    before = ap calls kept.first ∙ has.before;
    made = tells-then (λ _. ⊤) P (λ _. ⊤) facts.made (calls old.link) (calls new.link) has.made tells (λ m n x y. tt);
    lender = kept.same ∙ has.lender;
  }

  pub counts_rise : (P : List LinkCall → Type 0) (old new : Flown L) → IsKeptBy old new → TellsMore (calls old.link) (calls new.link) P → AreWithin (counts old) (counts new)
  counts_rise P old new kept tells = record {
    faults = kept.count;
    failed = subst (λ (c : ClientConfig). told_failures old.config (calls old.link) ≤ told_failures c (calls new.link)) (sym kept.config) (told_more old.config P (calls old.link) (calls new.link) tells);
  }

  goes_on : (margin at : ℕ) (old new : Renewals) → RecordsAtMost margin at old new → GoesOnByOne old new
  goes_on margin at old new (inl same) = inl same
  goes_on margin at old new (inr (r, is, asked, late)) = inr (r, is)

  pub ready_on : (P : List LinkCall → Type 0) (at : ℕ) (m : SeatState L) (old new : Flown L) → IsReady counts Has m old.history old → IsKeptBy old new → TellsMore (calls old.link) (calls new.link) P
      → RecordsAtMost old.margin at old.history new.history → NoWaste new.margin new.history → length new.history ≤ 10000
      → IsReady counts Has (m.0, (0, new) ∷ rest m.1) old.history new
  ready_on P at m old new ready kept tells records waste most =
      let has : Has new m.0.facts = has_on P old new m.0.facts ready.has kept tells in record {
        turn = ready.turn;
        unspent = ready.unspent;
        carried = ap (λ l. (0, new) ∷ rest l) ready.carried;
        has = has;
        longer = goes_on old.margin at old.history new.history records;
        found = within_on m.0.found (counts old) (counts new) ready.found (counts_rise P old new kept tells);
        waste = subst (λ (n : ℕ). NoWaste n new.history) has.margin waste;
        most = most;
      }

  counted : (at : ℕ) (old new : Flown L) (answer : Result Lease LeaseFault) → IsKeptBy old new
      → TellsMore (calls old.link) (calls new.link) (IsAsked old.config old.margin at old.history new.history answer)
      → ((made : List LinkCall) → IsAsked old.config old.margin at old.history new.history answer made → 1 ≤ failed_calls old.config made) → IsCounted faults calls lender old new
  counted at old new answer kept tells fails told =
      subst (λ (c : ClientConfig). told_failures old.config (calls old.link) < told_failures c (calls new.link)) (sym kept.config)
      (told_failed old.config (IsAsked old.config old.margin at old.history new.history answer) (calls old.link) (calls new.link) tells fails told)

  short_lived : (at margin exp : ℕ) (old new : Renewals) → RecordsAtMost margin at old new → FaultLeaves at old new (ShortLived exp)
      → (renewal : Renewal) × (new ≡ old ++ renewal ∷ []) × (renewal.asked ≡ at) × (renewal.exp ≡ exp) × (exp ≤ at)
  short_lived at margin exp old new (inl same) (r, is, exp_is, over) = absurd (push_differs old r (sym same ∙ is))
  short_lived at margin exp old new (inr (s, is', asked, late)) (r, is, exp_is, over) =
      let one : s ≡ r = push_same old s r (sym is' ∙ is) in
      (r, is, sym (ap (λ (x : Renewal). x.asked) one) ∙ asked, exp_is, over)

  pub answers_of : (at : ℕ) (old new : Flown L) (answer : Result Lease LeaseFault) → IsKeptBy old new
      → IfOk answer (IsLeased new.margin at new.history)
      → RecordsAtMost old.margin at old.history new.history
      → IfErr answer (FaultLeaves at old.history new.history)
      → (answer ≡ Err LinkFault → Rose (faults old.link) (faults new.link))
      → ((reply : List ℕ) → answer ≡ Err (Refused reply) → (target : Target) × IsRefusal target at reply)
      → ((reply : List ℕ) → answer ≡ Err (BadReply reply) → (target : Target) × IsBad old.config target at reply)
      → ((exp : ℕ) → answer ≡ Err (Exhausted exp) → IsExhausted old.margin at old.history exp)
      → TellsMore (calls old.link) (calls new.link) (IsAsked old.config old.margin at old.history new.history answer)
      → Answers faults calls lender at old new answer
  answers_of at old new (Ok lease) kept leased records leaves rose refused bad exhausted tells = (leased, records)
  answers_of at old new (Err LinkFault) kept leased records leaves rose refused bad exhausted tells = (leaves, rose refl)
  answers_of at old new (Err (Refused reply)) kept leased records leaves rose refused bad exhausted tells = (
    leaves,
    refused reply refl,
    counted at old new (Err (Refused reply)) kept tells
        (λ made is. ends_failed old.config made reply (λ target. IsRefusal target at reply) (is.refused reply refl) (λ target so. (at, inl so))),
  )
  answers_of at old new (Err (BadReply reply)) kept leased records leaves rose refused bad exhausted tells = (
    leaves,
    (let b = bad reply refl in (b.0, subst (λ (c : ClientConfig). IsBad c b.0 at reply) (sym kept.config) b.1)),
    counted at old new (Err (BadReply reply)) kept tells
        (λ made is. ends_failed old.config made reply (λ target. IsBad old.config target at reply) (is.bad reply refl) (λ target so. (at, inr so))),
  )
  answers_of at old new (Err (ShortLived exp)) kept leased records leaves rose refused bad exhausted tells = short_lived at old.margin exp old.history new.history records leaves
  answers_of at old new (Err (Exhausted exp)) kept leased records leaves rose refused bad exhausted tells =
      (leaves, subst (λ (m : ℕ). IsExhausted m at new.history exp) (sym kept.margin) (subst (λ (h : Renewals). IsExhausted old.margin at h exp) (sym leaves) (exhausted exp refl)))
  answers_of at old new (Err Memory) kept leased records leaves rose refused bad exhausted tells = leaves

  pub asked_has : (at : ℕ) (m n : SeatState L) (old new : Flown L) (answer : Result Lease LeaseFault) → IsAskedFor faults calls lender at m n old new answer → Has new m.0.facts
  asked_has at m n old new answer asked = subst (λ (v : View). Has new v.facts) asked.view asked.ready.has

  pub brings_of : (at : ℕ) (old new : Flown L) (answer : Result Lease LeaseFault) (copy : Result (Option Lease) AllocError) (outcome : Outcome) → Answers faults calls lender at old new answer
      → IfOk copy (IsNewest new.history) → Settles answer copy outcome → Brings faults calls lender at old new outcome
  brings_of at old new answer copy (Seen given kept) answers newest (same, is, shows) = (
    subst (λ (r : Result Lease LeaseFault). Answers faults calls lender at old new r) (sym same) answers,
    subst (λ (r : Result Lease LeaseFault). IfErr r (λ fault. hides_history fault ≡ false)) (sym same) shows,
    subst (λ (r : Result (Option Lease) AllocError). IfOk r (IsNewest new.history)) is newest,
  )
  brings_of at old new answer copy (Unseen fault) answers newest (inl (same, hides)) = inl (subst (λ (r : Result Lease LeaseFault). Answers faults calls lender at old new r) same answers, hides)
  brings_of at old new answer copy (Unseen fault) answers newest (inr memory) = inr memory

  -- ---- a whole turn

  -- the view of a pass behind a turn in which it found one client and gave the other back
  abbrev turned : View → ℕ → ℕ → ℕ → ℕ → Ending → Flown L → Flown L → View
  turned v last before steps word e f g = after_turn counts e g (took f.history (counts f) word (record v { last = last; before = before; steps = steps }))

  -- What was known as the turn began.
  pub record IsBegun (v : View) (steps word : ℕ) (f g : Flown L) : Type 0 where
    pub steps_on : v.steps ≤ steps
    pub seen : Begins v.seen f.history
    pub word_is : word ≡ 2 * length f.history
    pub found : AreWithin v.found v.left
    pub left : AreWithin v.left (counts f)
    pub old : Has f v.facts
    pub has : Has g v.facts
    pub rises : AreWithin (counts f) (counts g)

  pub keeps : (v : View) (last before steps word : ℕ) (e : Ending) (f g : Flown L) → Keeps v (turned v last before steps word e f g)
  keeps v last before steps word ending.Seen f g = record { share = refl; facts = refl; olds = refl }
  keeps v last before steps word ending.Unseen f g = record { share = refl; facts = refl; olds = refl }
  keeps v last before steps word ending.LinkFailed f g = record { share = refl; facts = refl; olds = refl }
  keeps v last before steps word ending.ReplyFailed f g = record { share = refl; facts = refl; olds = refl }

  pub never_falls : (v : View) (last before steps word : ℕ) (e : Ending) (f g : Flown L) → IsBegun v steps word f g → NeverFalls v (turned v last before steps word e f g)
  never_falls v last before steps word ending.Seen f g b =
      record { found = within_on v.found v.left (counts f) b.found b.left; left = within_on v.left (counts f) (counts g) b.left b.rises; lost = within_same v.lost }
  never_falls v last before steps word ending.Unseen f g b =
      record { found = within_on v.found v.left (counts f) b.found b.left; left = within_on v.left (counts f) (counts g) b.left b.rises; lost = within_same v.lost }
  never_falls v last before steps word ending.LinkFailed f g b = record {
    found = within_on v.found v.left (counts f) b.found b.left;
    left = within_on v.left (counts f) (counts g) b.left b.rises;
    lost = record { faults = omega arith; failed = omega arith };
  }
  never_falls v last before steps word ending.ReplyFailed f g b = record {
    found = within_on v.found v.left (counts f) b.found b.left;
    left = within_on v.left (counts f) (counts g) b.left b.rises;
    lost = record { faults = omega arith; failed = omega arith };
  }

  saw_same : (v : View) (last before steps word : ℕ) (f g : Flown L) → IsBegun v steps word f g → g.history ≡ f.history → SawTurn 0 v (turned v last before steps word ending.Seen f g)
  saw_same v last before steps word f g b same = record {
    seen = subst (Begins v.seen) (sym same) b.seen;
    turns = refl;
    steps = omega (arith, b.steps_on);
    word = omega (arith, b.word_is, ap length same);
  }

  saw_more : (v : View) (last before steps word : ℕ) (f g : Flown L) (r : Renewal) → IsBegun v steps word f g → g.history ≡ f.history ++ r ∷ []
      → SawTurn 1 v (turned v last before steps word ending.Seen f g)
  saw_more v last before steps word f g r b is = record {
    seen = begins_on v.seen f.history g.history b.seen (r ∷ [], is);
    turns = refl;
    steps = omega (arith, b.steps_on);
    word = omega (arith, b.word_is, ap length is, length-append f.history (r ∷ []));
  }

  asked_now : (at : ℕ) (old new : Renewals) (r : Renewal) → new ≡ old ++ r ∷ [] → r.asked ≡ at → IsAskedNow at new
  asked_now at old new r is asked = subst (λ (o : Option Renewal). IfSome o (λ x. x.asked ≡ at)) (sym (ap newest is ∙ newest-push old r)) asked

  newest_exp : (old new : Renewals) (r : Renewal) → new ≡ old ++ r ∷ [] → newest_end new ≡ Some r.exp
  newest_exp old new r is = ap (option_map (λ (x : Renewal). x.exp)) (ap newest is ∙ newest-push old r)

  -- a fault of the link is counted
  told_fault : (lost found left : ℕ) → Rose found left → found ≤ left → (one_more lost found left ≡ lost + 1) ⊎ ((one_more lost found left ≡ lost) × (2 ^ 64 - 1 ≤ left))
  told_fault lost found left rose up = by_test (nat_lt found left) refl
    where
      by_test : (t : Bool) → nat_lt found left ≡ t → (one_more lost found left ≡ lost + 1) ⊎ ((one_more lost found left ≡ lost) × (2 ^ 64 - 1 ≤ left))
      by_test true less = let below : found < left = grind (arith, nat_tests) in inl (omega arith)
      by_test false more = let above : left ≤ found = grind (arith, nat_tests) in inr (omega arith, omega arith)

  leased_in_turn : (at : ℕ) (v : View) (last before steps word : ℕ) (f g : Flown L) (lease : Lease) → IsBegun v steps word f g → RecordsAtMost f.margin at f.history g.history
      → SawTurn 0 v (turned v last before steps word ending.Seen f g) ⊎ (SawTurn 1 v (turned v last before steps word ending.Seen f g) × IsAskedNow at g.history)
  leased_in_turn at v last before steps word f g lease b (inl same) = inl (saw_same v last before steps word f g b same)
  leased_in_turn at v last before steps word f g lease b (inr (r, is, asked, late)) = inr (saw_more v last before steps word f g r b is, asked_now at f.history g.history r is asked)

  pub served_seen : (at : ℕ) (v : View) (last before steps word : ℕ) (f g : Flown L) (answer : Result Lease LeaseFault) (kept : Option Lease) → IsBegun v steps word f g
      → Answers faults calls lender at f g answer → IfErr answer (λ fault. hides_history fault ≡ false) → IsNewest g.history kept
      → IsServed at v (turned v last before steps word ending.Seen f g) (Seen answer kept)
  served_seen at v last before steps word f g (Ok lease) kept b (leased, records) shows newest =
      ((subst (λ (m : ℕ). IsLeased m at g.history lease) b.has.margin leased, leased_in_turn at v last before steps word f g lease b records), refl, newest)
  served_seen at v last before steps word f g (Err LinkFault) kept b answers shows newest = cc shows
  served_seen at v last before steps word f g (Err (Refused reply)) kept b answers shows newest = cc shows
  served_seen at v last before steps word f g (Err (BadReply reply)) kept b answers shows newest = cc shows
  served_seen at v last before steps word f g (Err (ShortLived exp)) kept b (r, is, asked, exp_is, over) shows newest = (
    (
      saw_more v last before steps word f g r b is,
      asked_now at f.history g.history r is asked,
      (newest_exp f.history g.history r is ∙ ap Some exp_is, over),
    ),
    refl,
    newest,
  )
  served_seen at v last before steps word f g (Err (Exhausted exp)) kept b (same, exhausted) shows newest =
      ((saw_same v last before steps word f g b same, subst (λ (m : ℕ). IsExhausted m at g.history exp) b.has.margin exhausted), refl, newest)
  served_seen at v last before steps word f g (Err Memory) kept b answers shows newest = cc shows

  told_reply : (v : View) (last before steps word : ℕ) (f g : Flown L) → IsBegun v steps word f g → IsCounted faults calls lender f g
      → IsToldReply v (turned v last before steps word ending.ReplyFailed f g)
  told_reply v last before steps word f g b is = record {
    faults = refl;
    failed = λ some. let less = is (still_told v.facts.made (calls f.link) b.old.made some) in omega (arith, less);
    most = omega arith;
  }

  served_unseen : (at : ℕ) (v : View) (last before steps word : ℕ) (f g : Flown L) (fault : LeaseFault) → IsBegun v steps word f g
      → Answers faults calls lender at f g (Err fault) → hides_history fault ≡ true
      → IsServed at v (turned v last before steps word (ending_of (Unseen fault)) f g) (Unseen fault)
  served_unseen at v last before steps word f g LinkFault b (same, rose) hides =
      (refl, record { faults = told_fault v.lost.faults (faults f.link) (faults g.link) rose b.rises.faults; failed = refl }, refl)
  served_unseen at v last before steps word f g (Refused reply) b (same, refusal, is) hides = ((refl, refusal), told_reply v last before steps word f g b is, refl)
  served_unseen at v last before steps word f g (BadReply reply) b (same, bad, is) hides =
      ((refl, (bad.0, subst (λ (c : ClientConfig). IsBad c bad.0 at reply) b.has.config bad.1)), told_reply v last before steps word f g b is, refl)
  served_unseen at v last before steps word f g (ShortLived exp) b answers hides = cc hides
  served_unseen at v last before steps word f g (Exhausted exp) b answers hides = cc hides
  served_unseen at v last before steps word f g Memory b same hides = (refl, refl, refl)

  served_of : (at : ℕ) (v : View) (last before steps word : ℕ) (f g : Flown L) (outcome : Outcome) → IsBegun v steps word f g → Brings faults calls lender at f g outcome
      → IsServed at v (turned v last before steps word (ending_of outcome) f g) outcome
  served_of at v last before steps word f g (Seen answer kept) b (answers, shows, newest) = served_seen at v last before steps word f g answer kept b answers shows newest
  served_of at v last before steps word f g (Unseen fault) b (inl (answers, hides)) = served_unseen at v last before steps word f g fault b answers hides
  served_of at v last before steps word f g (Unseen fault) b (inr memory) =
      subst (λ (x : LeaseFault). IsServed at v (turned v last before steps word (ending_of (Unseen x)) f g) (Unseen x)) (sym memory) (refl, refl, refl)

  begun : (word : ℕ) (m0 m1 m2 : SeatState L) (g : Flown L) (look : OnlyLooked m0 m1) (took_it : Took counts Has word m1 m2) → Has g m2.0.facts → AreWithin (counts took_it.client) (counts g)
      → IsBegun m0.0 look.2 word took_it.client g
  begun word m0 m1 m2 g look t has rises =
      let v : m1.0 ≡ record m0.0 { last = look.0; before = look.1; steps = look.2 } = ap (λ (x : SeatState L). x.0) look.3 in
      let facts : m2.0.facts ≡ m0.0.facts = ap (λ (x : SeatState L). x.0.facts) t.now ∙ ap (λ (x : View). x.facts) v in
      record {
        steps_on = look.4;
        seen = subst (λ (l : Renewals). Begins l t.client.history) (ap (λ (x : View). x.seen) v) t.seen;
        word_is = t.word_is;
        found = subst (λ (x : View). AreWithin x.found x.left) v t.found;
        left = subst (λ (x : View). AreWithin x.left (counts t.client)) v t.left;
        old = subst (λ (x : ClientFacts). Has t.client x) (ap (λ (x : View). x.facts) v) t.has;
        has = subst (λ (x : ClientFacts). Has g x) facts has;
        rises = rises;
      }

  behind : (word : ℕ) (m0 m1 m2 n : SeatState L) (e : Ending) (g : Flown L) (look : OnlyLooked m0 m1) (t : Took counts Has word m1 m2) → n ≡ (after_turn counts e g m2.0, [])
      → n ≡ (turned m0.0 look.0 look.1 look.2 word e t.client g, [])
  behind word m0 m1 m2 n e g look t is =
      is ∙ ap (λ (x : SeatState L). (after_turn counts e g x.0, [])) t.now
      ∙ ap (λ (x : SeatState L). (after_turn counts e g (took t.client.history (counts t.client) word x.0), [])) look.3

  -- What a turn left to a pass.
  pub record IsThrough (m n : SeatState L) : Type 0 where
    pub idle : IsIdle n
    pub keeps : Keeps m.0 n.0
    pub rises : NeverFalls m.0 n.0

  idle_behind : (v : View) (last before steps word : ℕ) (e : Ending) (f g : Flown L) → v.spent ≡ false → IsIdle {L = L} (turned v last before steps word e f g, [])
  idle_behind v last before steps word ending.Seen f g live = (refl, live, refl)
  idle_behind v last before steps word ending.Unseen f g live = (refl, live, refl)
  idle_behind v last before steps word ending.LinkFailed f g live = (refl, live, refl)
  idle_behind v last before steps word ending.ReplyFailed f g live = (refl, live, refl)

  pub through : (word : ℕ) (m0 m1 m2 n : SeatState L) (e : Ending) (g : Flown L) → m0.0.spent ≡ false → OnlyLooked m0 m1 → (t : Took counts Has word m1 m2) → Has g m2.0.facts → AreWithin (counts t.client) (counts g)
      → n ≡ (after_turn counts e g m2.0, []) → IsThrough m0 n
  through word m0 m1 m2 n e g live look t has rises is =
      let v = turned m0.0 look.0 look.1 look.2 word e t.client g in
      let now : n ≡ (v, []) = behind word m0 m1 m2 n e g look t is in
      subst (λ (x : SeatState L). IsThrough m0 x) (sym now) (record {
        idle = idle_behind m0.0 look.0 look.1 look.2 word e t.client g live;
        keeps = keeps m0.0 look.0 look.1 look.2 word e t.client g;
        rises = never_falls m0.0 look.0 look.1 look.2 word e t.client g (begun word m0 m1 m2 g look t has rises);
      })

  pub served : (at word : ℕ) (m0 m1 m2 n : SeatState L) (g : Flown L) (outcome : Outcome) → OnlyLooked m0 m1 → (t : Took counts Has word m1 m2) → Serves faults calls lender at m2 n t.client g outcome
      → IsServed at m0.0 n.0 outcome
  served at word m0 m1 m2 n g outcome look t s =
      let now : n ≡ (turned m0.0 look.0 look.1 look.2 word (ending_of outcome) t.client g, []) = behind word m0 m1 m2 n (ending_of outcome) g look t s.now in
      subst (λ (x : SeatState L). IsServed at m0.0 x.0 outcome) (sym now)
      (served_of at m0.0 look.0 look.1 look.2 word t.client g outcome (begun word m0 m1 m2 g look t s.has s.rises) s.brings)

  -- ---- a turn without a lease

  seen_of : (v : View) (last before steps word : ℕ) (f : Flown L) (copies : Copies) → IsBegun v steps word f f → AreOfNewest f.history copies
      → IsSeenWhole v (turned v last before steps word ending.Seen f f) copies
  seen_of v last before steps word f copies b newest = (saw_same v last before steps word f f b refl, newest)

  pub looked_ok : (word : ℕ) (m0 m1 m2 n : SeatState L) (result : Result Copies TryFault) → OnlyLooked m0 m1 → (t : Took counts Has word m1 m2) → Has t.client m2.0.facts → Looks counts t.client m2 n result
      → IfOk result (IsSeenWhole m0.0 n.0)
  looked_ok word m0 m1 m2 n (Ok copies) look t has l =
      let now : n ≡ (turned m0.0 look.0 look.1 look.2 word ending.Seen t.client t.client, []) = behind word m0 m1 m2 n ending.Seen t.client look t l.now in
      subst (λ (x : SeatState L). IsSeenWhole m0.0 x.0 copies) (sym now)
      (seen_of m0.0 look.0 look.1 look.2 word t.client copies (begun word m0 m1 m2 t.client look t has (within_same (counts t.client))) l.copies)
  looked_ok word m0 m1 m2 n (Err fault) look t has l = tt

  unseen : (v w : View) (fault : TryFault) → w.seen ≡ v.seen → fault ≡ try.Memory → TurnLeaves v w fault
  unseen v w fault same memory = subst (λ (x : TryFault). TurnLeaves v w x) (sym memory) same

  pub looked_err : (word : ℕ) (m0 m1 m2 n : SeatState L) (result : Result Copies TryFault) → OnlyLooked m0 m1 → (t : Took counts Has word m1 m2) → Looks counts t.client m2 n result
      → IfErr result (TurnLeaves m0.0 n.0)
  looked_err word m0 m1 m2 n (Ok copies) look t l = tt
  looked_err word m0 m1 m2 n (Err fault) look t l =
      let now : n ≡ (turned m0.0 look.0 look.1 look.2 word ending.Unseen t.client t.client, []) = behind word m0 m1 m2 n ending.Unseen t.client look t l.now in
      unseen m0.0 n.0 fault (ap (λ (x : SeatState L). x.0.seen) now) l.fault

  lost_behind : (v : View) (last before steps word : ℕ) (f : Flown L) (result : Result Copies TryFault) → (turned v last before steps word (ending_by result) f f).lost ≡ v.lost
  lost_behind v last before steps word f (Ok copies) = refl
  lost_behind v last before steps word f (Err fault) = refl

  pub looked_lost : (word : ℕ) (m0 m1 m2 n : SeatState L) (result : Result Copies TryFault) → OnlyLooked m0 m1 → (t : Took counts Has word m1 m2) → Looks counts t.client m2 n result → n.0.lost ≡ m0.0.lost
  looked_lost word m0 m1 m2 n result look t l =
      ap (λ (x : SeatState L). x.0.lost) (behind word m0 m1 m2 n (ending_by result) t.client look t l.now) ∙ lost_behind m0.0 look.0 look.1 look.2 word t.client result

  steps_behind : (v : View) (last before steps word : ℕ) (e : Ending) (f g : Flown L) → (turned v last before steps word e f g).steps ≡ steps + 1
  steps_behind v last before steps word ending.Seen f g = refl
  steps_behind v last before steps word ending.Unseen f g = refl
  steps_behind v last before steps word ending.LinkFailed f g = refl
  steps_behind v last before steps word ending.ReplyFailed f g = refl

  pub looked_steps : (word : ℕ) (m0 m1 m2 n : SeatState L) (result : Result Copies TryFault) (look : OnlyLooked m0 m1) → (t : Took counts Has word m1 m2) → Looks counts t.client m2 n result → n.0.steps ≡ look.2 + 1
  looked_steps word m0 m1 m2 n result look t l =
      ap (λ (x : SeatState L). x.0.steps) (behind word m0 m1 m2 n (ending_by result) t.client look t l.now) ∙ steps_behind m0.0 look.0 look.1 look.2 word (ending_by result) t.client t.client

  -- ---- the turn was gained

  -- who looked, and gained the turn, has it
  pub still_idle : (m0 m1 : SeatState L) → IsIdle m0 → OnlyLooked m0 m1 → IsIdle m1
  still_idle m0 m1 idle look = subst (λ (x : SeatState L). IsIdle x) (sym look.3) idle

  -- the client that was found is the one that was shared
  pub took_has : (word : ℕ) (m n : SeatState L) (t : Took counts Has word m n) → Has t.client n.0.facts
  took_has word m n t = subst (λ (x : SeatState L). Has t.client x.0.facts) (sym t.now) t.has

-- one look
abbrev pub begun_at : {L : Type 0} (word : ℕ) (m : SeatState L) → OnlyLooked m (looked word m.0, m.1)
begun_at word m = (word, m.0.last, m.0.steps + 1, refl, omega arith)

-- ---- no turn

-- What a missed turn left to a pass.
pub record IsPassedOver {L : Type 0} (word : ℕ) (m n : SeatState L) : Type 0 where
  pub idle : IsIdle n
  pub keeps : Keeps m.0 n.0
  pub rises : NeverFalls m.0 n.0
  pub lost : n.0.lost ≡ m.0.lost
  pub looks : n.0.steps ≤ m.0.steps + 2
  pub leaves : TurnLeaves m.0 n.0 (try.Busy word)

pub passed_over : {L : Type 0} (word : ℕ) (m n : SeatState L) → IsIdle m → IsMissed word m n → IsPassedOver word m n
passed_over word m n idle (inl (odd, is)) = subst (λ x. IsPassedOver word m x) (sym is) (record {
  idle = idle;
  keeps = record { share = refl; facts = refl; olds = refl };
  rises = record { found = within_same m.0.found; left = within_same m.0.left; lost = within_same m.0.lost };
  lost = refl;
  looks = omega arith;
  leaves = (refl, record { turns = refl; steps = omega arith; last = refl; cause = inl odd });
})
passed_over word m n idle (inr (first, cause, is)) = subst (λ x. IsPassedOver word m x) (sym is) (record {
  idle = idle;
  keeps = record { share = refl; facts = refl; olds = refl };
  rises = record { found = within_same m.0.found; left = within_same m.0.left; lost = within_same m.0.lost };
  lost = refl;
  looks = omega arith;
  leaves = (refl, record { turns = refl; steps = omega arith; last = refl; cause = by_cause cause });
})
  where
    by_cause : (word % 2 ≡ 1) ⊎ (first / 2 < word / 2) → (word % 2 ≡ 1) ⊎ ((m.0.steps + 2 ≤ m.0.steps + 1 + 1) × (first / 2 < word / 2))
    by_cause (inl odd) = inl odd
    by_cause (inr more) = inr (omega arith, more)

-- ---- two passes became one

pub settled_joined : {L : Type 0} (word : ℕ) (m j n : SeatState L) (w : View) (mine theirs kept : Option Lease) (margin shares more : ℕ) → j ≡ (joined m.0 w, m.1) → n ≡ (looked word j.0, j.1)
    → IsSettled m mine margin shares → w.share ≡ more → IsNewest (longer m.0.seen w.seen) kept → IsSettled n kept margin (shares + more)
settled_joined word m j n w mine theirs kept margin shares more joins looks settled share newest =
    let now : n ≡ (looked word (joined m.0 w), m.1) = looks ∙ ap (λ x. (looked word x.0, x.1)) joins in
    subst (λ x. IsSettled x kept margin (shares + more)) (sym now) (record {
      idle = settled.idle;
      newest = newest;
      margin_is = settled.margin_is;
      shares_is = omega (arith, settled.shares_is, share);
    })
