use Rattle.std.proofs.Common.{◌≡◌, ◌≤◌, length, refl, arith}
use Rattle.std.specs.Prelude.{None}
use Rattle.std.proofs.lemmas.Option.{slice_get_past}
use Rattle.links.specs.State.{chain}
use Rattle.links.proofs.Issuing.{chain-missing}
use Rattle.links.proofs.impersonate.parent_by_hops.Goals as goal

pub returns-then-parent-link_count-clause-passes : goal.returns-then-parent-link_count-clause-passes
returns-then-parent-link_count-clause-passes c =
    let content = c.args.state.now.content in
    let number = c.args.impersonation.now.parent in
    let past : length content.links ≤ number = omega arith in
    let missing : chain content number ≡ None = chain-missing content number (slice_get_past content.links number past) in
    rw (c.unlicensed.ensures, missing) refl
