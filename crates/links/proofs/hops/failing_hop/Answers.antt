use Rattle.std.proofs.Common.{◌≡◌, ◌∙◌, Bool, length, sym, ap, arith}
use Rattle.std.specs.Prelude.{Some}
use Rattle.links.specs.State.{chain}
use Rattle.links.proofs.HopPlaces.{first_fails, first_passed, later_fails, later_passed, none_fails}
use Rattle.links.proofs.hops.failing_hop.Goals as goal

pub returns-then-not-branch : goal.returns-then-not-branch
returns-then-not-branch c =
    let content = c.args.state.now.content in
    sym (first_fails content (chain content c.args.parent) c.args.accounts.now c.args.now c.index-accounts-0.result c.requires.some c.index-accounts-0.is
    (c.in_ok-first_passes.ensures ∙ ap (λ (b : Bool). Some b) c.if-not-branch.true))

pub loop-hop-init : goal.loop-hop-init
loop-hop-init c =
    let content = c.args.state.now.content in
    first_passed content.view (chain content c.args.parent) c.args.accounts.now c.args.now c.index-accounts-0.result c.requires.some c.index-accounts-0.is
    (c.in_ok-first_passes.ensures ∙ ap (λ (b : Bool). Some b) c.if-not-branch.false)

pub returns-then-not-branch-2 : goal.returns-then-not-branch-2
returns-then-not-branch-2 c =
    let content = c.args.state.now.content in
    sym (later_fails content (chain content c.args.parent) c.args.accounts.now c.args.now c.loop-hop.hop c.index-accounts-hop.result
    c.index-accounts-hop-in-loop-hop.result c.loop-hop.invariant c.loop-hop.auto.hop c.loop-hop-test.true c.index-accounts-hop.is
    c.index-accounts-hop-in-loop-hop.is (c.in_ok-later_passes.ensures ∙ ap (λ (b : Bool). Some b) c.if-not-branch-2.true))

pub loop-hop-preserved : goal.loop-hop-preserved
loop-hop-preserved c =
    let content = c.args.state.now.content in
    later_passed content.view (chain content c.args.parent) c.args.accounts.now c.args.now c.loop-hop.hop c.index-accounts-hop.result
    c.index-accounts-hop-in-loop-hop.result c.loop-hop.invariant c.loop-hop.auto.hop c.loop-hop-test.true c.index-accounts-hop.is
    c.index-accounts-hop-in-loop-hop.is (c.in_ok-later_passes.ensures ∙ ap (λ (b : Bool). Some b) c.if-not-branch-2.false)

pub returns : goal.returns
returns c =
    let content = c.args.state.now.content in
    let all : length c.args.accounts.now ≡ c.loop-hop.hop = omega (arith, c.loop-hop.auto.hop-end c.requires.some, c.loop-hop-test.false) in
    sym (none_fails content (chain content c.args.parent) c.args.accounts.now c.args.now c.loop-hop.hop c.loop-hop.invariant all)
