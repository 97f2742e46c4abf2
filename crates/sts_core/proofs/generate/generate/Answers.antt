use Rattle.sts_core.proofs.FormedImpersonations.{impersonation_formed}
use Rattle.sts_core.proofs.Linked.{impersonation_linked}
use Rattle.sts_core.proofs.generate.generate.Goals as goal

pub impersonate-requires-clause-form : goal.impersonate-requires-clause-form
impersonate-requires-clause-form c =
    impersonation_formed c.args.state.now.content c.args.account.now c.args.request.now c.args.now c.in-Ok.entry c.requires.moment c.in-Ok.ensures

pub impersonate-requires-clause-exact : goal.impersonate-requires-clause-exact
impersonate-requires-clause-exact c =
    c.an_entry_has_exact_parts.ensures
    (impersonation_formed c.args.state.now.content c.args.account.now c.args.request.now c.args.now c.in-Ok.entry c.requires.moment c.in-Ok.ensures)
    (impersonation_linked c.args.state.now.content c.args.account.now c.args.request.now c.args.now c.in-Ok.entry c.in-Ok.ensures)
