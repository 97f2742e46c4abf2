use Rattle.std.proofs.Common.{◌≡◌, rules}
use Rattle.iam_names.specs.Resource.{account_resource}
use Rattle.iam_names.proofs.AccountLemmas.{is_resource-account}
use Rattle.iam_names.proofs.resource.account_resource.Goals as goal

pub of_text-requires : goal.of_text-requires
of_text-requires c =
    let text : c.new.result ≡ account_resource c.args.account.now = search rules in
    rw text (is_resource-account c.args.account.now c.as_str-account.ensures.form)
