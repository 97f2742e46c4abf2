use Rattle.std.proofs.Common.{rules, arith, ap, subst, ◌∙◌, ◌≡◌, ℕ, ◌%◌}
use Rattle.shared_renewer.specs.Counts.{HasFacts, counts_of}
use Rattle.shared_renewer.specs.Turns.{Took}
use Rattle.shared_renewer.proofs.Stepping.{looks_on, tries_on}
use Rattle.shared_renewer.proofs.turns.try_turn.Goals as goal

pub load-word-requires : goal.load-word-requires
load-word-requires g c = (c.requires.table.0, omega (arith, c.requires.table.1), looks_on _ _ _ _ _ _ c.args.seat.now.me c.requires.idle.1)

pub compare_exchange-found-requires : goal.compare_exchange-found-requires
compare_exchange-found-requires g c =
    let l = c.load-word.ensures in
    let even : c.load-word.result % 2 ≡ 0 = search rules in
    (l.0 ∙ c.requires.table.0, omega (arith, c.requires.table.1), tries_on _ _ _ _ _ _ c.load-word.new.seat.me c.load-word.result (ap (λ m. m.0.spent) l.2.now ∙ c.requires.idle.1) even)

pub returns-clause-gained : goal.returns-clause-gained
returns-clause-gained g c =
    let k = g.L.Link in
    let now = c.compare_exchange-found.new.seat.me in
    let same : c.compare_exchange-found.result ≡ c.load-word.result = search rules in
    subst (λ m. Took (counts_of k.faults k.calls) (HasFacts k.calls k.lender) c.load-word.result m now) c.load-word.ensures.2.now
    (subst (λ (n : ℕ). Took (counts_of k.faults k.calls) (HasFacts k.calls k.lender) n c.load-word.new.seat.me now) same (c.compare_exchange-found.ensures.2.0 same))
