-- Cutting a pass in two, joining two, the start and the end.
use Rattle.std.proofs.Common.{◌≡◌, ◌≢◌, ◌⊎◌, ℕ, zero, suc, ◌+◌, ◌*◌, ◌<◌, ◌≤◌, ◌^◌, List, [], ◌∷◌, ◌++◌, length, set, Some, None, Bool, true, false, refl, sym, ap, ◌∙◌, subst, inl, inr, ⊎_elim, arith}
use Rattle.std.specs.Prelude.{nat_lt}
use Rattle.std.proofs.lemmas.Bool.Decides.{nat_tests}
use mathlib.Core.Option.{some, some-injective, some-ne-none}
use mathlib.Core.Option as maybe
use lib.ListN.{get_elem?}
use Rattle.atomic_table.specs.Table.{State, Splits, Joins, opening, Seen, Final}
use Rattle.atomic_table.proofs.Lists.{at_longer, set_else}
use Rattle.renewer.specs.Flights.{Flown}
use Rattle.renewer.specs.Histories.{NoWaste}
use Rattle.shared_renewer.specs.Counts.{AreWithin}
use Rattle.shared_renewer.specs.Rules.{Stage, rests, taken, weigh, total, known_counts, IsHome, IsInTurn, Fits, RenewalRule}
use Rattle.shared_renewer.specs.Views.{Renewals, Begins, fresh, joined, kept_share, longer, new_share, spent_view}
use Rattle.shared_renewer.specs.declared.view.ClientFacts.{ClientFacts}
use Rattle.shared_renewer.specs.declared.view.LinkCounts.{LinkCounts}
use Rattle.shared_renewer.specs.declared.view.View.{View}
use Rattle.shared_renewer.proofs.Stepping.{begins_same, is_inside, live_after, views_stay, within_same}
use Rattle.shared_renewer.proofs.Sums.{total-set, total-push, total_at, weigh_live}

-- of two beginnings of one list the shorter begins the longer
shorter : (a b h : Renewals) → Begins a h → Begins b h → length a ≤ length b → Begins a b
shorter [] b h x y le = (b, refl)
shorter (r ∷ a) [] h x y le = absurd (omega arith)
shorter (r ∷ a) (q ∷ b) [] x y le = absurd (cc x.1)
shorter (r ∷ a) (q ∷ b) (p ∷ h) x y le =
    let pr : p ≡ r = cc x.1 in
    let pq : p ≡ q = cc y.1 in
    let xa : h ≡ a ++ x.0 = cc x.1 in
    let yb : h ≡ b ++ y.0 = cc y.1 in
    let rest = shorter a b h (x.0, xa) (y.0, yb) (omega arith) in
    (rest.0, λ i. (sym pq ∙ pr) i ∷ rest.1 i)

-- the longer of two beginnings of one list begins with both
pub longer_has : (a b h : Renewals) → Begins a h → Begins b h → Begins a (longer a b) × Begins b (longer a b) × Begins (longer a b) h
longer_has a b h x y = by_test (nat_lt (length a) (length b)) refl
  where
    by_test : (t : Bool) → nat_lt (length a) (length b) ≡ t → Begins a (longer a b) × Begins b (longer a b) × Begins (longer a b) h
    by_test true less = let le : length a ≤ length b = grind (arith, nat_tests) in rw less (shorter a b h x y le, begins_same b b refl, y)
    by_test false more = let le : length b ≤ length a = grind (arith, nat_tests) in rw more (begins_same a a refl, shorter b a h y x le, x)

at_end : (l : List View) (a b : View) (j : ℕ) → get_elem? (l ++ a ∷ []) j ≡ some b → (get_elem? l j ≡ some b) ⊎ ((a ≡ b) × (j ≡ length l))
at_end [] a b zero e = inr (some-injective a b e, refl)
at_end [] a b (suc j) e = absurd (some-ne-none b (sym e))
at_end (x ∷ xs) a b zero e = inl e
at_end (x ∷ xs) a b (suc j) e = ⊎_elim (λ h. inl h) (λ t. inr (t.0, ap suc t.1)) (at_end xs a b j e)

module _ {L : Type 0} (counts : Flown L → LinkCounts) (Has : Flown L → ClientFacts → Type 0) (facts : ClientFacts) (shares : ℕ) where
  abbrev Rule : State (Flown L) View → Type 0
  Rule = RenewalRule counts Has facts shares

  -- who has no turn found no more than it left
  no_turn : (h : Renewals) (t : Stage (Flown L)) (i : ℕ) (u : View) → u.turn ≡ None → IsInTurn counts Has facts h t i u.turn u.found u.left → AreWithin u.found u.left
  no_turn h (rests f) i u none t = t.1
  no_turn h (taken place x) i u none t =
      ⊎_elim (λ (y : (i ≡ place) × (u.turn ≡ Some h) × (u.found ≡ x)). absurd (cc (y.1, none))) (λ (y : (i ≢ place) × (u.turn ≡ None) × AreWithin u.found u.left). y.2) t

  -- who has no turn isn't at the place that has it
  not_there : (h : Renewals) (place : ℕ) (x : LinkCounts) (i : ℕ) (u : View) → u.turn ≡ None → IsInTurn counts Has facts h (taken place x) i u.turn u.found u.left → i ≢ place
  not_there h place x i u none t =
      ⊎_elim (λ (y : (i ≡ place) × (u.turn ≡ Some h) × (u.found ≡ x)). absurd (cc (y.1, none))) (λ (y : (i ≢ place) × (u.turn ≡ None) × AreWithin u.found u.left). y.0) t

  stays_out : (h : Renewals) (t : Stage (Flown L)) (i : ℕ) (u w : View) → u.turn ≡ None → w.turn ≡ None → AreWithin w.found w.left
      → IsInTurn counts Has facts h t i u.turn u.found u.left → IsInTurn counts Has facts h t i w.turn w.found w.left
  stays_out h (rests f) i u w none none' within t = (none', within)
  stays_out h (taken place x) i u w none none' within t = inr (not_there h place x i u none t, none', within)

  -- ---- a pass is cut in two

  pub splits_on : (id : ℕ) (v : View) → v.turn ≡ None → v.spent ≡ false → 2 ≤ v.share → Splits Rule id v (kept_share v) (new_share v)
  splits_on id v idle live two s k at =
      let mine = k.views id v at live in
      let half = set s.views id (kept_share v) in
      record {
        history = k.history;
        stage = k.stage;
        word = k.word;
        home = homes k.stage s.homes k.home;
        views = λ j d e. ⊎_elim
            (λ (old : get_elem? half j ≡ some d). views_stay (λ i u. u.spent ≡ false → Fits counts Has facts k.history k.stage i u) s.views id (kept_share v)
            (λ _. record { seen = mine.seen; olds = mine.olds; last = mine.last; turn = mine.turn; left = mine.left; share = omega arith; facts_is = mine.facts_is })
            (λ i u apart e'. k.views i u e') j d old)
            (λ (same : (new_share v ≡ d) × (j ≡ length half)). subst (λ u. u.spent ≡ false → Fits counts Has facts k.history k.stage j u) same.0
            (λ _. record { seen = mine.seen; olds = tt; last = mine.last; turn = behind k.stage s.homes k.home j same.1 mine.turn; left = mine.left; share = omega arith; facts_is = mine.facts_is }))
            (at_end half (new_share v) d j e);
        waste = k.waste;
        most = k.most;
        small = k.small;
        shared = amounts (λ u. u.share) (omega arith) ∙ k.shared;
        faults = subst (λ (x : ℕ). x ≤ (known_counts counts Has facts k.history k.stage).faults) (sym (amounts (λ u. u.lost.faults) (omega arith))) k.faults;
        failed = subst (λ (x : ℕ). x ≤ (known_counts counts Has facts k.history k.stage).failed) (sym (amounts (λ u. u.lost.failed) (omega arith))) k.failed;
      }
    where
      homes : (t : Stage (Flown L)) (hs : List (maybe.Option (Flown L))) → IsHome counts Has facts k.history t hs s.views → IsHome counts Has facts k.history t hs (set s.views id (kept_share v) ++ new_share v ∷ [])
      homes (rests f) hs h = h
      homes (taken j x) hs h =
          let o = live_after s.views id j v (kept_share v) at h.1 live in
          (h.0, (o.0, at_longer (set s.views id (kept_share v)) (new_share v ∷ []) j o.0 o.1, o.2))

      behind : (t : Stage (Flown L)) (hs : List (maybe.Option (Flown L))) → IsHome counts Has facts k.history t hs s.views → (j : ℕ) → j ≡ length (set s.views id (kept_share v))
          → IsInTurn counts Has facts k.history t id v.turn v.found v.left → IsInTurn counts Has facts k.history t j v.turn v.found v.left
      behind (rests f) hs h j last t = t
      behind (taken place x) hs h j last t =
          let o = live_after s.views id place v (kept_share v) at h.1 live in
          let inside = is_inside (set s.views id (kept_share v)) place o.0 o.1 in
          inr ((λ e. omega arith), idle, no_turn k.history (taken place x) id v idle t)

      amounts : (g : View → ℕ) → g (kept_share v) + g (new_share v) ≡ g v → total g (set s.views id (kept_share v) ++ new_share v ∷ []) ≡ total g s.views
      amounts g sum =
          let a = total-set g s.views id v (kept_share v) at in
          let b = total-push g (set s.views id (kept_share v)) (new_share v) in
          let c = weigh_live g v live in
          let d = weigh_live g (kept_share v) live in
          let e = weigh_live g (new_share v) live in
          omega arith

  -- ---- two passes become one

  pub joins_on : (id : ℕ) (v : View) (other : ℕ) (w : View) → v.turn ≡ None → v.spent ≡ false → w.turn ≡ None → w.spent ≡ false → Joins Rule id v other w (joined v w) spent_view
  joins_on id v other w idle live idle' live' s k at apart at' =
      let one = set s.views id (joined v w) in
      let there' : get_elem? s.views other ≡ some w = sym (set_else s.views id other (joined v w) apart) ∙ at' in
      let mine = k.views id v at live in
      let theirs = k.views other w there' live' in
      let long = longer_has v.seen w.seen k.history mine.seen theirs.seen in
      let below : AreWithin v.found v.left = no_turn k.history k.stage id v idle mine.turn in
      record {
        history = k.history;
        stage = k.stage;
        word = k.word;
        home = homes k.stage s.homes k.home theirs.turn;
        views = views_stay (λ j d. d.spent ≡ false → Fits counts Has facts k.history k.stage j d) one other spent_view
            (λ dead. absurd (cc dead))
            (λ j d ne e. views_stay (λ i u. u.spent ≡ false → Fits counts Has facts k.history k.stage i u) s.views id (joined v w)
            (λ _. record {
              seen = long.2;
              olds = (long.0, (long.1, tt));
              last = mine.last;
              turn = stays_out k.history k.stage id v (joined v w) idle idle (record { faults = omega (arith, below.faults); failed = omega (arith, below.failed) }) mine.turn;
              left = record { faults = omega (arith, mine.left.faults, theirs.left.faults); failed = omega (arith, mine.left.failed, theirs.left.failed) };
              share = omega (arith, mine.share);
              facts_is = mine.facts_is;
            })
            (λ i u apart' e'. k.views i u e') j d e);
        waste = k.waste;
        most = k.most;
        small = k.small;
        shared = amounts (λ u. u.share) refl refl there' ∙ k.shared;
        faults = subst (λ (x : ℕ). x ≤ (known_counts counts Has facts k.history k.stage).faults) (sym (amounts (λ u. u.lost.faults) refl refl there')) k.faults;
        failed = subst (λ (x : ℕ). x ≤ (known_counts counts Has facts k.history k.stage).failed) (sym (amounts (λ u. u.lost.failed) refl refl there')) k.failed;
      }
    where
      homes : (t : Stage (Flown L)) (hs : List (maybe.Option (Flown L))) → IsHome counts Has facts k.history t hs s.views → IsInTurn counts Has facts k.history t other w.turn w.found w.left
          → IsHome counts Has facts k.history t hs (set (set s.views id (joined v w)) other spent_view)
      homes (rests f) hs h t = h
      homes (taken place x) hs h t =
          let o = live_after s.views id place v (joined v w) at h.1 live in
          let ne : other ≢ place = not_there k.history place x other w idle' t in
          (h.0, (o.0, set_else (set s.views id (joined v w)) other place spent_view (λ e. ne (sym e)) ∙ o.1, o.2))

      amounts : (g : View → ℕ) → g (joined v w) ≡ g v + g w → weigh g spent_view ≡ 0 → get_elem? s.views other ≡ some w → total g (set (set s.views id (joined v w)) other spent_view) ≡ total g s.views
      amounts g sum nothing e =
          let a = total-set g s.views id v (joined v w) at in
          let b = total-set g (set s.views id (joined v w)) other w spent_view at' in
          let c = weigh_live g v live in
          let d = weigh_live g w live' in
          let f = weigh_live g (joined v w) live in
          omega arith

  -- ---- the end

  -- The pass with every share is the only one: the client is in the slot, and has what the pass has seen.
  pub record IsAlone (v : View) (homes : List (maybe.Option (Flown L))) : Type 0 where
    pub client : Flown L
    pub home : homes ≡ some client ∷ []
    pub has : Has client facts
    pub seen : Begins v.seen client.history
    pub waste : NoWaste facts.margin client.history
    pub left : AreWithin v.left (counts client)
    pub lost : AreWithin v.lost (counts client)

  pub closes : (id : ℕ) (v : View) → v.turn ≡ None → v.spent ≡ false → v.share ≡ shares → (s : State (Flown L) View) → Seen Rule id v s → IsAlone v s.homes
  closes id v idle live all s seen = go k.stage s.homes k.home mine.turn mine.left k.faults k.failed
    where
      k : Rule s
      k = seen.0

      mine : Fits counts Has facts k.history k.stage id v
      mine = k.views id v seen.1 live

      go : (t : Stage (Flown L)) (homes : List (maybe.Option (Flown L))) → IsHome counts Has facts k.history t homes s.views → IsInTurn counts Has facts k.history t id v.turn v.found v.left
          → AreWithin v.left (known_counts counts Has facts k.history t)
          → total (λ u. u.lost.faults) s.views ≤ (known_counts counts Has facts k.history t).faults → total (λ u. u.lost.failed) s.views ≤ (known_counts counts Has facts k.history t).failed
          → IsAlone v homes
      go (rests f) homes home turn left fs bs = record {
        client = f;
        home = home.0;
        has = home.2;
        seen = subst (Begins v.seen) (sym home.1) mine.seen;
        waste = subst (NoWaste facts.margin) (sym home.1) k.waste;
        left = left;
        lost = record {
          faults = (let a = total_at (λ u. u.lost.faults) s.views id v seen.1 in let b = weigh_live (λ u. u.lost.faults) v live in omega arith);
          failed = (let a = total_at (λ u. u.lost.failed) s.views id v seen.1 in let b = weigh_live (λ u. u.lost.failed) v live in omega arith);
        };
      }
      go (taken place x) homes home turn left fs bs =
          let ne : id ≢ place = not_there k.history place x id v idle turn in
          let u = home.1.0 in
          let at = set_else s.views id place spent_view (λ e. ne (sym e)) ∙ home.1.1 in
          let one = (k.views place u home.1.1 home.1.2).share in
          let a = total-set (λ y. y.share) s.views id v spent_view seen.1 in
          let b = total_at (λ y. y.share) (set s.views id spent_view) place u at in
          let c = weigh_live (λ y. y.share) v live in
          let d = weigh_live (λ y. y.share) u home.1.2 in
          let z : weigh (λ y. y.share) spent_view ≡ 0 = refl in
          let w = k.shared in
          absurd (omega arith)

  -- ---- the start

  pub opens : (f : Flown L) → Has f facts → 1 ≤ shares → shares < 2 ^ 32 → NoWaste facts.margin f.history → length f.history ≤ 10000
      → Rule (opening (2 * length f.history ∷ []) (f ∷ []) (fresh facts (counts f) shares f.history))
  opens f has some_share small waste most = record {
    history = f.history;
    stage = rests f;
    word = ap (λ (n : ℕ). n ∷ []) (omega arith);
    home = (refl, refl, has);
    views = one;
    waste = waste;
    most = most;
    small = small;
    shared = omega arith;
    faults = omega arith;
    failed = omega arith;
  }
    where
      one : (k : ℕ) (v : View) → get_elem? (fresh facts (counts f) shares f.history ∷ []) k ≡ some v → v.spent ≡ false → Fits counts Has facts f.history (rests f) k v
      one zero v e live = subst (Fits counts Has facts f.history (rests f) zero) (some-injective _ _ e) record {
        seen = begins_same _ _ refl;
        olds = tt;
        last = omega arith;
        turn = (refl, within_same (counts f));
        left = within_same (counts f);
        share = some_share;
        facts_is = refl;
      }
      one (suc k) v e live = absurd (some-ne-none v (sym e))

  -- what holds of the client that was taken out of the closed table
  pub record IsEnded (v : View) (f : Flown L) : Type 0 where
    pub has : Has f facts
    pub seen : Begins v.seen f.history
    pub waste : NoWaste facts.margin f.history
    pub left : AreWithin v.left (counts f)
    pub lost : AreWithin v.lost (counts f)

  pub ends : (id : ℕ) (v : View) (words : List ℕ) (slots : List (Flown L)) (f : Flown L) → v.turn ≡ None → v.spent ≡ false → v.share ≡ shares
      → Final (Seen Rule id v) words slots → get_elem? slots 0 ≡ some f → IsEnded v f
  ends id v words slots f idle live all final first =
      let c = closes id v idle live all final.0 final.1 in
      let there = final.4 0 c.client (ap (λ l. get_elem? l 0) c.home) in
      subst (IsEnded v) (some-injective c.client f (sym there ∙ first)) record { has = c.has; seen = c.seen; waste = c.waste; left = c.left; lost = c.lost }
