use Rattle.std.proofs.Common.{◌≡◌, ◌∙◌, ◌*◌, ◌∷◌, ℕ, List, length, ap, sym, subst, get_or}
use Rattle.std.specs.Prelude.{IfOk}
use Rattle.atomic_table.specs.Table.{rest}
use Rattle.renewer.specs.Flights.{Flown}
use Rattle.shared_renewer.specs.Looks.{AreOfNewest}
use Rattle.shared_renewer.proofs.looking.copy_newest.Goals as goal

pub slot_mut-flight-requires : goal.slot_mut-flight-requires
slot_mut-flight-requires g c = let t = c.requires.client in (c.requires.table, (t.0, t.1.carried ∙ ap (λ l. (0, t.0) ∷ rest l) (sym t.1.carried)))

pub returns-clause-copied : goal.returns-clause-copied
returns-clause-copied g c = λ client ready.
    let now = c.slot_mut-flight.result.now in
    let is : now ≡ client = ap (λ (l : List (ℕ × Flown g.row.L.Denot)). (get_or l 0 (0, client)).1) (sym c.slot_mut-flight.ensures.value ∙ ready.carried) in
    (subst (λ z. IfOk c.copies_of-copies.result (AreOfNewest z.history)) is c.copies_of-copies.ensures, c.word_of-word.ensures.word ∙ ap (λ z. 2 * length z.history) is)
