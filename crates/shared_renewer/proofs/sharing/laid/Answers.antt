use Rattle.std.proofs.Common.{rules, sym, subst, ◌≡◌, ◌*◌, ℕ, [], ◌∷◌, length}
use Rattle.atomic_table.specs.Table.{opening}
use Rattle.renewer.specs.Flights.{Flown}
use Rattle.shared_renewer.specs.Counts.{HasFacts, counts_of, facts_of}
use Rattle.shared_renewer.specs.Rules.{RenewalRule}
use Rattle.shared_renewer.specs.Views.{fresh}
use Rattle.shared_renewer.proofs.Passing.{opens}
use Rattle.shared_renewer.proofs.Serving.{has_own}
use Rattle.shared_renewer.proofs.sharing.laid.Goals as goal

pub new-requires : goal.new-requires
new-requires g c =
    let k = g.L.Link in
    let items : c.push.new.self.items ≡ c.args.flight ∷ [] = search rules in
    let f : Flown g.row.L.Denot = c.args.flight in
    let n = c.args.start.now.shares in
    let s = c.requires.start in
    let counts = counts_of k.faults k.calls in
    let at_word : (w : ℕ) → w ≡ 2 * length f.history → RenewalRule counts (HasFacts k.calls k.lender) (facts_of k.calls k.lender f) n (opening (w ∷ []) (f ∷ []) (fresh (facts_of k.calls k.lender f) (counts f) n f.history)) =
    λ w is. subst (λ (x : ℕ). RenewalRule counts (HasFacts k.calls k.lender) (facts_of k.calls k.lender f) n (opening (x ∷ []) (f ∷ []) (fresh (facts_of k.calls k.lender f) (counts f) n f.history))) (sym is)
    (opens counts (HasFacts k.calls k.lender) (facts_of k.calls k.lender f) n f (has_own k.faults k.calls k.lender f) s.1 s.2 c.requires.history.0 c.requires.history.1) in
    let given : RenewalRule counts (HasFacts k.calls k.lender) (facts_of k.calls k.lender c.args.start.now.flight.value) n
    (opening (c.args.word ∷ []) (f ∷ []) (fresh (facts_of k.calls k.lender c.args.start.now.flight.value) (counts c.args.start.now.flight.value) n c.args.start.now.flight.value.history)) =
    subst (λ (h : Flown g.row.L.Denot). RenewalRule counts (HasFacts k.calls k.lender) (facts_of k.calls k.lender h) n (opening (c.args.word ∷ []) (f ∷ []) (fresh (facts_of k.calls k.lender h) (counts h) n h.history)))
    (sym s.0) (at_word c.args.word c.requires.word) in
    rw items given
