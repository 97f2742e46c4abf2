use Rattle.std.proofs.Common.{arith}
use Rattle.shared_renewer.specs.declared.turns.Ending.TheVariants.{Seen, Unseen, LinkFailed, ReplyFailed}
use Rattle.shared_renewer.proofs.Stepping.{ends_on}
use Rattle.shared_renewer.proofs.turns.give_back.Goals as goal

pub store-requires : goal.store-requires
store-requires g c =
    let t = c.requires.client in
    (c.requires.table.0, omega (arith, c.requires.table.1), ends_on _ _ _ _ _ _ _ t.0 t.1 _ Seen t.2 t.3)

pub store-requires-in-Unseen : goal.store-requires-in-Unseen
store-requires-in-Unseen g c =
    let t = c.requires.client in
    (c.requires.table.0, omega (arith, c.requires.table.1), ends_on _ _ _ _ _ _ _ t.0 t.1 _ Unseen t.2 t.3)

pub store-requires-in-LinkFailed : goal.store-requires-in-LinkFailed
store-requires-in-LinkFailed g c =
    let t = c.requires.client in
    (c.requires.table.0, omega (arith, c.requires.table.1), ends_on _ _ _ _ _ _ _ t.0 t.1 _ LinkFailed t.2 t.3)

pub store-requires-in-ReplyFailed : goal.store-requires-in-ReplyFailed
store-requires-in-ReplyFailed g c =
    let t = c.requires.client in
    (c.requires.table.0, omega (arith, c.requires.table.1), ends_on _ _ _ _ _ _ _ t.0 t.1 _ ReplyFailed t.2 t.3)
