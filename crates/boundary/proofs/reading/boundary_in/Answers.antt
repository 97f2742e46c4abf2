use Rattle.std.proofs.Common.{rules, arith, ◌<◌, length}
use Rattle.std.proofs.lemmas.Result.{err_from_is_err_and}
use Rattle.serde_json.specs.View.{items_view}
use Rattle.boundary.proofs.Formed.{exact-from}
use Rattle.boundary.proofs.Readings.{many-items, few-items, some-read, refuses-rules}
use Rattle.boundary.proofs.reading.boundary_in.Goals as goal

pub returns-then-items-gt-RULES-clause-read : goal.returns-then-items-gt-RULES-clause-read
returns-then-items-gt-RULES-clause-read c = many-items c.args.items.now (omega arith)

pub returns-in_err-rules-clause-read : goal.returns-in_err-rules-clause-read
returns-in_err-rules-clause-read c =
    let some : 0 < length c.args.items.now = search rules in
    let error = err_from_is_err_and c.from_residual.result c.from_residual.ensures.1 in
    rw (error.1, error.2, few-items c.args.items.now some (omega arith)) (refuses-rules c.in_err-rules.field-0.0 _ c.in_err-rules.ensures.read)

pub returns-clause-read : goal.returns-clause-read
returns-clause-read c =
    let some : 0 < length c.args.items.now = search rules in
    some-read c.args.items.now c.in_ok-rules.rules some (omega arith) c.in_ok-rules.ensures.read

pub returns-clause-exact : goal.returns-clause-exact
returns-clause-exact c =
    let some : 0 < length c.args.items.now = search rules in
    let read = some-read c.args.items.now c.in_ok-rules.rules some (omega arith) c.in_ok-rules.ensures.read in
    exact-from (items_view c.args.items.now) (record { rules = c.in_ok-rules.rules }) read c.in_ok-rules.ensures.said
