-- Each step on the word keeps the rule.
use Rattle.std.proofs.Common.{◌≡◌, ◌≢◌, ◌⊎◌, ℕ, zero, suc, ◌+◌, ◌-◌, ◌*◌, ◌/◌, ◌%◌, ◌<◌, ◌≤◌, ◌^◌, List, [], ◌∷◌, ◌++◌, length, set, get_or, Some, None, false, refl, sym, ap, ◌∙◌, subst, inl, inr, ⊎_elim, arith, append_assoc, length-append, eqb}
use Rattle.std.proofs.lemmas.List.{append-nil}
use mathlib.Core.Option.{some, some-injective}
use mathlib.Core.Option as maybe
use lib.ListN.{get_elem?}
use lib.Seq.{set-get_or}
use prog.Atomic.{either}
use Rattle.atomic_table.specs.Table.{State, step, Act, keeps, takes, gives as gives_back, stepped, homes_after, carried_after, Valid, Allows}
use Rattle.atomic_table.proofs.Lists.{at_set, set_here, set_else, exchanged}
use Rattle.renewer.specs.Flights.{Flown}
use Rattle.renewer.specs.Histories.{NoWaste}
use Rattle.shared_renewer.specs.Counts.{AreWithin}
use Rattle.shared_renewer.specs.Rules.{Stage, rests, taken, oddness, total, known_counts, IsHome, IsInTurn, Fits, AllFit, RenewalRule}
use Rattle.shared_renewer.specs.Turns.{SeatState, Looked, looks, Took, tries, IsReady, gives}
use Rattle.shared_renewer.specs.Views.{Renewals, Begins, EachBegins, gave, looked, one_more, took}
use Rattle.shared_renewer.specs.declared.turns.Ending.{Ending}
use Rattle.shared_renewer.specs.declared.turns.Ending.TheVariants.{Seen, Unseen, LinkFailed, ReplyFailed}
use Rattle.shared_renewer.specs.declared.view.ClientFacts.{ClientFacts}
use Rattle.shared_renewer.specs.declared.view.LinkCounts.{LinkCounts}
use Rattle.shared_renewer.specs.declared.view.View.{View}
use Rattle.shared_renewer.proofs.Sums.{total-set, total_same, total_at, weigh_live}

-- ---- beginnings

pub begins_on : (a b c : Renewals) → Begins a b → Begins b c → Begins a c
begins_on a b c x y = (x.0 ++ y.0, y.1 ∙ ap (λ (l : Renewals). l ++ y.0) x.1 ∙ append_assoc a x.0 y.0)

pub begins_length : (a b : Renewals) → Begins a b → length a ≤ length b
begins_length a b x = omega (arith, ap length x.1, length-append a x.0)

pub begins_same : (a b : Renewals) → a ≡ b → Begins a b
begins_same a b same = ([], sym same ∙ sym (append-nil a))

pub each_on : (olds : List Renewals) (b c : Renewals) → EachBegins olds b → Begins b c → EachBegins olds c
each_on [] b c x y = tt
each_on (a ∷ olds) b c x y = (begins_on a b c x.0 y, each_on olds b c x.1 y)

pub within_on : (a b c : LinkCounts) → AreWithin a b → AreWithin b c → AreWithin a c
within_on a b c x y = record { faults = omega (arith, x.faults, y.faults); failed = omega (arith, x.failed, y.failed) }

pub within_same : (a : LinkCounts) → AreWithin a a
within_same a = record { faults = omega arith; failed = omega arith }

-- ---- views

-- one view changes, and the others fit as they are
pub views_stay : (K : ℕ → View → Type 0) (views : List View) (me : ℕ) (w : View) → K me w → ((j : ℕ) (d : View) → j ≢ me → get_elem? views j ≡ some d → K j d)
    → (j : ℕ) (d : View) → get_elem? (set views me w) j ≡ some d → K j d
views_stay K views me w mine others j d at =
    ⊎_elim
    (λ (t : (j ≡ me) × (w ≡ d)). subst (λ (x : ℕ × View). K x.0 x.1) (λ i. (sym t.0 i, t.1 i)) mine)
    (λ (t : (j ≢ me) × (get_elem? views j ≡ some d)). others j d t.0 t.1)
    (at_set views me j w d at)

pub is_inside : (views : List View) (k : ℕ) (w : View) → get_elem? views k ≡ some w → k < length views
is_inside [] k w at = absurd (maybe.some-ne-none w (sym at))
is_inside (x ∷ views) zero w at = omega arith
is_inside (x ∷ views) (suc k) w at = let rest = is_inside views k w at in omega arith

-- a place that has a view has one after a write too
pub live_after : (views : List View) (me place : ℕ) (w v : View) → get_elem? views me ≡ some w → (u : View) × (get_elem? views place ≡ some u) × (u.spent ≡ false) → v.spent ≡ false
    → (u : View) × (get_elem? (set views me v) place ≡ some u) × (u.spent ≡ false)
live_after views me place w v at there live = elim (native.Mathlib.Decide.ℕ_discrete place me) [
  | yes same ↦ (v, subst (λ (k : ℕ). get_elem? (set views me v) k ≡ some v) (sym same) (set_here views me v (is_inside views me w at)), live)
  | no other ↦ (there.0, set_else views me place v other ∙ there.1, there.2)
]

module _ {L : Type 0} (counts : Flown L → LinkCounts) (Has : Flown L → ClientFacts → Type 0) (facts : ClientFacts) (shares : ℕ) where
  abbrev Rule : State (Flown L) View → Type 0
  Rule = RenewalRule counts Has facts shares

  -- ---- a look

  saw : (s : State (Flown L) View) (k : Rule s) (id : ℕ) (me : SeatState L) → get_elem? s.views id ≡ some me.0 → me.0.spent ≡ false
      → Rule (stepped s 0 (get_or s.words 0 0) id me.1 (looked (get_or s.words 0 0) me.0) keeps) × Looked (get_or s.words 0 0) me (looked (get_or s.words 0 0) me.0, me.1)
  saw s k id me at unspent =
      let n = get_or s.words 0 0 in
      let w = looked n me.0 in
      let f = k.views id me.0 at unspent in
      let is : n ≡ 2 * length k.history + oddness k.stage = ap (λ (l : List ℕ). get_or l 0 0) k.word in
      let fine = sides (length k.history) k.stage n is in (
        record {
          history = k.history;
          stage = k.stage;
          word = set-get_or s.words 0 0 ∙ k.word;
          home = homes k.stage s.homes k.home;
          views = views_stay (λ j d. d.spent ≡ false → Fits counts Has facts k.history k.stage j d) s.views id w
              (λ _. record { seen = f.seen; olds = f.olds; last = fine.0; turn = f.turn; left = f.left; share = f.share; facts_is = f.facts_is })
              (λ j d apart e. k.views j d e);
          waste = k.waste;
          most = k.most;
          small = k.small;
          shared = total_same (λ v. v.share) s.views id me.0 w at refl ∙ k.shared;
          faults = subst (λ (x : ℕ). x ≤ (known_counts counts Has facts k.history k.stage).faults) (sym (total_same (λ v. v.lost.faults) s.views id me.0 w at refl)) k.faults;
          failed = subst (λ (x : ℕ). x ≤ (known_counts counts Has facts k.history k.stage).failed) (sym (total_same (λ v. v.lost.failed) s.views id me.0 w at refl)) k.failed;
        },
        record {
          now = refl;
          most = (let m = k.most in let b = fine.1 in omega arith);
          later = (let l = f.last in let b = fine.2 in omega arith);
          olds = f.olds;
          share = (let a = total_at (λ v. v.share) s.views id me.0 at in let b = weigh_live (λ v. v.share) me.0 unspent in let c = k.shared in let d = k.small in omega arith);
        },
      )
    where
      sides : (c : ℕ) (t : Stage (Flown L)) (n : ℕ) → n ≡ 2 * c + oddness t → (n / 2 ≤ c) × (n ≤ 2 * c + 1) × (c ≤ n / 2)
      sides c (rests f) n e = (omega arith, omega arith, omega arith)
      sides c (taken j x) n e = (omega arith, omega arith, omega arith)

      homes : (t : Stage (Flown L)) (hs : List (maybe.Option (Flown L))) → IsHome counts Has facts k.history t hs s.views → IsHome counts Has facts k.history t hs (set s.views id (looked (get_or s.words 0 0) me.0))
      homes (rests f) hs h = h
      homes (taken j x) hs h = (h.0, live_after s.views id j me.0 (looked (get_or s.words 0 0) me.0) at h.1 unspent)

  pub looks_on : (slots id : ℕ) (me : SeatState L) → me.0.spent ≡ false → Allows Rule slots id me 0 (λ n. n) (looks (step slots 0 0 0 maybe.none) me)
  looks_on slots id me unspent s k len at fits = let r = saw s k id me at unspent in (looked (get_or s.words 0 0) me.0, keeps, tt, r.0, r.1)

  -- ---- the turn is gained

  not_taken : (t : Stage (Flown L)) (k : ℕ) (history : Renewals) (v : View) → IsInTurn counts Has facts history t k v.turn v.found v.left → v.turn ≡ None → AreWithin v.found v.left
  not_taken (rests f) k history v t idle = t.1
  not_taken (taken j x) k history v t idle =
      ⊎_elim (λ (u : (k ≡ j) × (v.turn ≡ Some history) × (v.found ≡ x)). absurd (cc (u.1, idle))) (λ (u : (k ≢ j) × (v.turn ≡ None) × AreWithin v.found v.left). u.2) t

  gained : (s : State (Flown L) View) (h : Renewals) (stage : Stage (Flown L)) (n : ℕ) → s.words ≡ n ∷ [] → n ≡ 2 * length h + oddness stage → IsHome counts Has facts h stage s.homes s.views
      → AllFit counts Has facts h stage s.views → NoWaste facts.margin h → length h ≤ 10000 → shares < 2 ^ 32
      → total (λ v. v.share) s.views ≡ shares → total (λ v. v.lost.faults) s.views ≤ (known_counts counts Has facts h stage).faults
      → total (λ v. v.lost.failed) s.views ≤ (known_counts counts Has facts h stage).failed
      → (id : ℕ) (me : SeatState L) → get_elem? s.views id ≡ some me.0 → me.0.spent ≡ false → n % 2 ≡ 0
      → (w : View) × (a : Act (Flown L)) × Valid s.homes me.1 a × Rule (stepped s 0 (n + 1) id me.1 w a) × Took counts Has n me (w, carried_after me.1 a)
  gained s h (taken j x) n words is home views waste most small whole fs bs id me at unspent even = absurd (omega arith)
  gained s h (rests f) n words is home views waste most small whole fs bs id me at unspent even =
      let mine = views id me.0 at unspent in
      let w = took h (counts f) n me.0 in (
        w,
        takes 0 f,
        ap (λ l. get_elem? l 0) home.0,
        record {
          history = h;
          stage = taken id (counts f);
          word = ap (λ l. set l 0 (n + 1)) words ∙ ap (λ (m : ℕ). (m + 1) ∷ []) is ∙ ap (λ (m : ℕ). m ∷ []) (omega arith);
          home = (ap (λ l. set l 0 maybe.none) home.0, live_after s.views id id me.0 w at (me.0, at, unspent) unspent);
          views = views_stay (λ j d. d.spent ≡ false → Fits counts Has facts h (taken id (counts f)) j d) s.views id w
              (λ _. record { seen = mine.seen; olds = mine.olds; last = omega (arith, is); turn = inl (refl, refl, refl); left = mine.left; share = mine.share; facts_is = mine.facts_is })
              (λ j d apart e live. let o = views j d e live in record { seen = o.seen; olds = o.olds; last = o.last; turn = inr (apart, o.turn.0, o.turn.1); left = o.left; share = o.share; facts_is = o.facts_is });
          waste = waste;
          most = most;
          small = small;
          shared = total_same (λ v. v.share) s.views id me.0 w at refl ∙ whole;
          faults = subst (λ (x : ℕ). x ≤ (counts f).faults) (sym (total_same (λ v. v.lost.faults) s.views id me.0 w at refl)) fs;
          failed = subst (λ (x : ℕ). x ≤ (counts f).failed) (sym (total_same (λ v. v.lost.failed) s.views id me.0 w at refl)) bs;
        },
        record {
          client = f;
          now = ap (λ (r : Renewals). (took r (counts f) n me.0, (0, f) ∷ me.1)) (sym home.1);
          has = subst (λ (x : ClientFacts). Has f x) (sym mine.facts_is) home.2;
          word_is = omega (arith, is, ap length home.1);
          seen = subst (λ (r : Renewals). Begins me.0.seen r) (sym home.1) mine.seen;
          found = mine.turn.1;
          left = mine.left;
          waste = subst (λ (r : Renewals). NoWaste me.0.facts.margin r) (sym home.1) (subst (λ (x : ClientFacts). NoWaste x.margin h) (sym mine.facts_is) waste);
          most = omega (arith, most, ap length home.1);
        },
      )

  pub tries_on : (slots id : ℕ) (me : SeatState L) (old : ℕ) → me.0.spent ≡ false → old % 2 ≡ 0
      → Allows Rule slots id me 0 (λ n. either (eqb n old) (old + 1) n) (tries counts Has (step slots 0 old (old + 1) maybe.none) me)
  tries_on slots id me old unspent even s k len at fits =
      let n = get_or s.words 0 0 in
      let F : ℕ → Type 0 = λ x. (w : View) × (a : Act (Flown L)) × Valid s.homes me.1 a × Rule (stepped s 0 x id me.1 w a) × tries counts Has (step slots 0 old (old + 1) maybe.none) me n (w, carried_after me.1 a) in
      let one : s.words ≡ n ∷ [] = k.word ∙ ap (λ (m : ℕ). m ∷ []) (sym (ap (λ (l : List ℕ). get_or l 0 0) k.word)) in
      exchanged n old (old + 1) F
      (λ hit.
      let g = gained s k.history k.stage n one (ap (λ (l : List ℕ). get_or l 0 0) k.word) k.home k.views k.waste k.most k.small k.shared k.faults k.failed id me at unspent (ap (λ (m : ℕ). m % 2) hit ∙ even) in
      (g.0, g.1, g.2, subst (λ (x : ℕ). Rule (stepped s 0 (x + 1) id me.1 g.0 g.1)) hit g.3, ((λ _. g.4), (λ miss. absurd (miss hit)))))
      (λ miss. let r = saw s k id me at unspent in (looked n me.0, keeps, tt, r.0, ((λ hit. absurd (miss hit)), (λ _. r.1))))

  -- ---- the turn is given back

  -- what was told of failures is at most what the counts rose by
  pub record IsTold (lost found left now : ℕ) : Type 0 where
    pub most : now ≤ lost + (left - found)

  ended : (s : State (Flown L) View) (h : Renewals) (stage : Stage (Flown L)) (n : ℕ) → s.words ≡ n ∷ [] → IsHome counts Has facts h stage s.homes s.views → AllFit counts Has facts h stage s.views → shares < 2 ^ 32
      → total (λ v. v.share) s.views ≡ shares → total (λ v. v.lost.faults) s.views ≤ (known_counts counts Has facts h stage).faults
      → total (λ v. v.lost.failed) s.views ≤ (known_counts counts Has facts h stage).failed
      → (id : ℕ) (me : SeatState L) (h0 : Renewals) (f : Flown L) (seen : Renewals) (lost : LinkCounts) → get_elem? s.views id ≡ some me.0 → IsReady counts Has me h0 f
      → (seen ≡ f.history) ⊎ (seen ≡ me.0.seen) → IsTold me.0.lost.faults me.0.found.faults (counts f).faults lost.faults → IsTold me.0.lost.failed me.0.found.failed (counts f).failed lost.failed
      → Rule (stepped s 0 (2 * length f.history) id me.1 (gave seen (counts f) lost me.0) gives_back)
  ended s h (rests g) n words home views small whole fs bs id me h0 f seen lost at ready sees t0 t1 = let t = (views id me.0 at ready.unspent).turn.0 in absurd (cc (sym ready.turn ∙ t))
  ended s h (taken j x) n words home views small whole fs bs id me h0 f seen lost at ready sees t0 t1 =
      let mine = views id me.0 at ready.unspent in
      let w = gave seen (counts f) lost me.0 in
      let had : (id ≡ j) × (h0 ≡ h) × (me.0.found ≡ x) =
      ⊎_elim (λ (t : (id ≡ j) × (me.0.turn ≡ Some h) × (me.0.found ≡ x)). (t.0, cc (t.1, ready.turn), t.2)) (λ (t : (id ≢ j) × (me.0.turn ≡ None) × AreWithin me.0.found me.0.left). absurd (cc (t.1, ready.turn))) mine.turn in
      let on : Begins h f.history = ⊎_elim (λ e. ([], e ∙ had.1 ∙ sym (append-nil h))) (λ e. (e.0 ∷ [], e.1 ∙ ap (λ l. l ++ e.0 ∷ []) had.1)) ready.longer in
      let far : length h ≤ length f.history = begins_length h f.history on in
      let up : AreWithin x (counts f) = subst (λ (y : LinkCounts). AreWithin y (counts f)) had.2 ready.found in
      let seen_on : Begins me.0.seen seen × Begins seen f.history =
      ⊎_elim (λ (e : seen ≡ f.history). (subst (Begins me.0.seen) (sym e) (begins_on _ _ _ mine.seen on), begins_same _ _ e)) (λ (e : seen ≡ me.0.seen). (begins_same _ _ (sym e), subst (λ l. Begins l f.history) (sym e) (begins_on _ _ _ mine.seen on))) sees in
      record {
        history = f.history;
        stage = rests f;
        word = ap (λ l. set l 0 (2 * length f.history)) words ∙ ap (λ (m : ℕ). m ∷ []) (omega arith);
        home = (ap (λ (c : List (ℕ × Flown L)). homes_after s.homes c gives_back) ready.carried ∙ ap (λ l. set l 0 (some f)) home.0, refl, subst (λ (y : ClientFacts). Has f y) mine.facts_is ready.has);
        views = views_stay (λ j' d. d.spent ≡ false → Fits counts Has facts f.history (rests f) j' d) s.views id w
            (λ _. record {
              seen = seen_on.1;
              olds = each_on _ _ _ mine.olds seen_on.0;
              last = omega (arith, mine.last, far);
              turn = (refl, ready.found);
              left = within_same (counts f);
              share = mine.share;
              facts_is = mine.facts_is;
            })
            (λ j' d apart e live. let o = views j' d e live in
            let still : (d.turn ≡ None) × AreWithin d.found d.left =
            ⊎_elim (λ (t : (j' ≡ j) × (d.turn ≡ Some h) × (d.found ≡ x)). absurd (apart (t.0 ∙ sym had.0))) (λ (t : (j' ≢ j) × (d.turn ≡ None) × AreWithin d.found d.left). (t.1, t.2)) o.turn in
            record {
              seen = begins_on _ _ _ o.seen on;
              olds = o.olds;
              last = omega (arith, o.last, far);
              turn = still;
              left = within_on _ _ _ o.left up;
              share = o.share;
              facts_is = o.facts_is;
            });
        waste = subst (λ (y : ClientFacts). NoWaste y.margin f.history) mine.facts_is ready.waste;
        most = ready.most;
        small = small;
        shared = total_same (λ v. v.share) s.views id me.0 w at refl ∙ whole;
        faults = rises (λ v. v.lost.faults) w fs up.faults t0.most refl (ap (λ (y : LinkCounts). y.faults) had.2);
        failed = rises (λ v. v.lost.failed) w bs up.failed t1.most refl (ap (λ (y : LinkCounts). y.failed) had.2);
      }
    where
      rises : (g : View → ℕ) (w : View) {was now found : ℕ} → total g s.views ≤ was → was ≤ now → g w ≤ g me.0 + (now - found) → w.spent ≡ me.0.spent → found ≡ was → total g (set s.views id w) ≤ now
      rises g w le up told same is =
          let a = total-set g s.views id me.0 w at in
          let b = weigh_live g me.0 ready.unspent in
          let c = weigh_live g w (same ∙ ready.unspent) in
          omega arith

  -- how a turn ends: what is seen, and which failures are told
  gives_on : (slots id : ℕ) (me : SeatState L) (h0 : Renewals) (f : Flown L) (new : ℕ) (seen : Flown L → Renewals) (lost : Flown L → LinkCounts) → IsReady counts Has me h0 f → new ≡ 2 * length f.history
      → (seen f ≡ f.history) ⊎ (seen f ≡ me.0.seen) → IsTold me.0.lost.faults me.0.found.faults (counts f).faults (lost f).faults → IsTold me.0.lost.failed me.0.found.failed (counts f).failed (lost f).failed
      → Allows Rule slots id me 0 (λ _. new) (λ _ w. (h1 : Renewals) (g : Flown L) → IsReady counts Has me h1 g → w ≡ (gave (seen g) (counts g) (lost g) me.0, []))
  gives_on slots id me h0 f new seen lost ready is sees t0 t1 s k len at fits =
      let w = gave (seen f) (counts f) (lost f) me.0 in (
        w,
        gives_back,
        tt,
        subst (λ (x : ℕ). Rule (stepped s 0 x id me.1 w gives_back)) (sym is) (ended s k.history k.stage _ k.word k.home k.views k.small k.shared k.faults k.failed id me h0 f (seen f) (lost f) at ready sees t0 t1),
        λ h1 g other.
            let same : f ≡ g = ap (λ (l : List (ℕ × Flown L)). (get_or l 0 (0, f)).1) (sym ready.carried ∙ other.carried) in
            λ i. (gave (seen (same i)) (counts (same i)) (lost (same i)) me.0, ap (λ (l : List (ℕ × Flown L)). carried_after l gives_back) ready.carried i),
      )

  pub ends_on : (slots id : ℕ) (me : SeatState L) (h0 : Renewals) (f : Flown L) (new : ℕ) (ending : Ending) → IsReady counts Has me h0 f → new ≡ 2 * length f.history
      → Allows Rule slots id me 0 (λ _. new) (λ _. gives counts Has ending (step slots 0 new 0 maybe.none) me new)
  ends_on slots id me h0 f new Seen ready is = gives_on slots id me h0 f new (λ g. g.history) (λ g. me.0.lost) ready is (inl refl) (record { most = omega arith }) (record { most = omega arith })
  ends_on slots id me h0 f new Unseen ready is = gives_on slots id me h0 f new (λ g. me.0.seen) (λ g. me.0.lost) ready is (inr refl) (record { most = omega arith }) (record { most = omega arith })
  ends_on slots id me h0 f new LinkFailed ready is =
      gives_on slots id me h0 f new (λ g. me.0.seen) (λ g. record { faults = one_more me.0.lost.faults me.0.found.faults (counts g).faults; failed = me.0.lost.failed }) ready is (inr refl)
      (record { most = omega arith }) (record { most = omega arith })
  ends_on slots id me h0 f new ReplyFailed ready is =
      gives_on slots id me h0 f new (λ g. me.0.seen) (λ g. record { faults = me.0.lost.faults; failed = one_more me.0.lost.failed me.0.found.failed (counts g).failed }) ready is (inr refl)
      (record { most = omega arith }) (record { most = omega arith })

-- who gained the turn may give it back
pub is_ready : {L : Type 0} (counts : Flown L → LinkCounts) (Has : Flown L → ClientFacts → Type 0) (n : ℕ) (m w : SeatState L) (t : Took counts Has n m w) → m.1 ≡ [] → m.0.spent ≡ false
    → IsReady counts Has w t.client.history t.client
is_ready counts Has n m w t empty unspent = subst (λ x. IsReady counts Has x t.client.history t.client) (sym t.now) record {
  turn = refl;
  unspent = unspent;
  carried = ap (λ l. (0, t.client) ∷ l) empty;
  has = t.has;
  longer = inl refl;
  found = within_same (counts t.client);
  waste = t.waste;
  most = t.most;
}
