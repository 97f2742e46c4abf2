use Rattle.std.proofs.Common.{◌≡◌, ◌≤◌, length, refl, arith}
use Rattle.std.specs.Prelude.{None}
use Rattle.std.proofs.lemmas.Option.{slice_get_past}
use Rattle.links.specs.State.{chain}
use Rattle.links.proofs.Issuing.{chain-missing}
use Rattle.links.proofs.checks.live_link.Goals as goal

pub returns-then-number-link_count-clause-passes : goal.returns-then-number-link_count-clause-passes
returns-then-number-link_count-clause-passes c =
    let content = c.args.state.now.content in
    let past : length content.links ≤ c.args.number = omega arith in
    let missing : chain content c.args.number ≡ None = chain-missing content c.args.number (slice_get_past content.links c.args.number past) in
    rw (c.unlicensed.ensures, missing) refl
