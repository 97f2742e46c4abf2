use Rattle.std.proofs.Common.{sym, ap, ◌∙◌}
use Rattle.std.specs.Prelude.{codes, option_and_then, option_map}
use Rattle.base_types.specs.Forms.{passing}
use Rattle.iam_names.specs.Forms.{is_account}
use Rattle.iam_names.proofs.CutLemmas.{after-stripped}
use Rattle.sts_core.proofs.generating.account_behind.Goals as goal

pub returns-in_default : goal.returns-in_default
returns-in_default c =
    let cut = after-stripped (codes "projects/-/serviceAccounts/") c.args.text.now c.strip_prefix.result c.strip_prefix.ensures.cases in
    ap (option_and_then (passing is_account)) (sym cut ∙ ap (option_map (λ rest. rest.now)) c.in_default.is)
