use Rattle.sts_core.proofs.Formed.{entry_formed}
use Rattle.sts_core.proofs.Linked.{entry_linked}
use Rattle.sts_core.proofs.exchange.exchange.Goals as goal

pub issue-requires-clause-form : goal.issue-requires-clause-form
issue-requires-clause-form c =
    entry_formed c.args.state.now.content c.as_slice-2.result.now c.args.now c.in-Ok.entry c.has_a_lawful_journal.ensures.reached c.requires.moment c.in-Ok.ensures

pub issue-requires-clause-exact : goal.issue-requires-clause-exact
issue-requires-clause-exact c =
    c.an_entry_has_exact_parts.ensures
    (entry_formed c.args.state.now.content c.as_slice-2.result.now c.args.now c.in-Ok.entry c.has_a_lawful_journal.ensures.reached c.requires.moment c.in-Ok.ensures)
    (entry_linked c.args.state.now.content c.as_slice-2.result.now c.args.now c.in-Ok.entry c.in-Ok.ensures)
