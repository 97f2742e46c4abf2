use Rattle.entry_rules.specs.declared.fault.RuleCode.TheVariants.{E25}
use Rattle.links.specs.declared.entry.Entry.TheVariants as entry
use Rattle.links.specs.Licence.{first_unlicensed, delegation_rules}
use Rattle.links.proofs.Preparing.{issued_is, size_last}
use Rattle.links.proofs.delegate.delegate.Goals as goal

pub returns-clause-licensed : goal.returns-clause-licensed
unfolding first_unlicensed
returns-clause-licensed c =
    let content = c.args.state.now.content in
    let x = c.args.delegation.now in
    size_last content (entry.Delegate x) (delegation_rules content x) E25 c.in_ok-recorded.recorded c.with_payload.result c.in_ok-recorded.ensures.link
    c.in_ok-recorded.ensures.passes c.with_payload.ensures.size

pub returns-clause-issued : goal.returns-clause-issued
returns-clause-issued c =
    issued_is c.args.state.now.content (entry.Delegate c.args.delegation.now) c.in_ok-recorded.recorded c.with_payload.result c.in_ok-recorded.ensures.link
    c.with_payload.ensures.issued
