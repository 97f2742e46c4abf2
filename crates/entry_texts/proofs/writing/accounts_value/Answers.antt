use Rattle.std.proofs.Common.{◌≡◌, ◌∙◌, ap, map, take_all, arith}
use Rattle.serde_json.specs.Data.{string}
use Rattle.serde_json.specs.View.{view}
use Rattle.serde_json.proofs.Views.{view-Array}
use Rattle.boundary.proofs.WrittenParts.{array_written}
use Rattle.entry_texts.proofs.writing.accounts_value.Goals as goal

pub returns : goal.returns
returns c =
    let all : map view c.loop-account.list.items ≡ map string c.args.accounts.now = c.loop-account.invariant ∙ ap (map string) (take_all c.loop-account.account-index c.args.accounts.now (omega arith)) in
    view-Array c.loop-account.list ∙ array_written string c.loop-account.list.items c.args.accounts.now all
