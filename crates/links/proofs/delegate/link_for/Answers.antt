use Rattle.std.proofs.Common.{◌≡◌, ◌+◌, rules}
use Rattle.std.specs.Prelude.{max, nat_lt}
use Rattle.links.specs.declared.entry.Entry.TheVariants as entry
use Rattle.links.specs.Licence.{is_deep, may_be_acted_for}
use Rattle.links.specs.Recorded.{delegated}
use Rattle.links.specs.State.{chain, made}
use Rattle.links.proofs.Journals.{reached_kept}
use Rattle.links.proofs.Preparing.{held_bounds, held_deep, held_delegation, held_named, held_row}
use Rattle.links.proofs.delegate.link_for.Goals as goal

pub link_behind-requires-clause-bounds : goal.link_behind-requires-clause-bounds
link_behind-requires-clause-bounds c =
    let content = c.args.state.now.content in
    held_bounds content c.args.delegation.now.subject c.in_ok-subject.subject.now (reached_kept content c.has_a_lawful_journal.ensures.reached)
    c.in_ok-subject.ensures.link

pub returns-in_err-check-2-clause-passes : goal.returns-in_err-check-2-clause-passes
returns-in_err-check-2-clause-passes c =
    let content = c.args.state.now.content in
    let x = c.args.delegation.now in
    let named = held_named (chain content x.subject) (chain content x.actor) c.in_ok-subject.subject.now c.in_ok-actor.actor.now
    c.in_ok-subject.ensures.link c.in_ok-actor.ensures.link in
    let is : may_be_acted_for (chain content x.subject) (chain content x.actor) ≡ c.names_next-named.result = search (rules, named) in
    search (rules, is)

pub returns-in_err-check_depth-clause-passes : goal.returns-in_err-check_depth-clause-passes
returns-in_err-check_depth-clause-passes c =
    let content = c.args.state.now.content in
    let x = c.args.delegation.now in
    let row = c.in_ok-subject.subject.now in
    let other = c.in_ok-actor.actor.now in
    let named = held_named (chain content x.subject) (chain content x.actor) row other c.in_ok-subject.ensures.link c.in_ok-actor.ensures.link in
    let is : may_be_acted_for (chain content x.subject) (chain content x.actor) ≡ c.names_next-named.result = search (rules, named) in
    let deep : is_deep (made content (entry.Delegate x)) ≡ nat_lt 8 (max row.depth other.depth + 1) =
    held_deep _ (chain content x.subject) (chain content x.actor) row other c.in_ok-subject.ensures.link c.in_ok-actor.ensures.link in
    search (rules, is, deep)

pub returns-clause-passes : goal.returns-clause-passes
returns-clause-passes c =
    let content = c.args.state.now.content in
    let x = c.args.delegation.now in
    let row = c.in_ok-subject.subject.now in
    let other = c.in_ok-actor.actor.now in
    let named = held_named (chain content x.subject) (chain content x.actor) row other c.in_ok-subject.ensures.link c.in_ok-actor.ensures.link in
    let is : may_be_acted_for (chain content x.subject) (chain content x.actor) ≡ c.names_next-named.result = search (rules, named) in
    let deep : is_deep (made content (entry.Delegate x)) ≡ nat_lt 8 (max row.depth other.depth + 1) =
    held_deep _ (chain content x.subject) (chain content x.actor) row other c.in_ok-subject.ensures.link c.in_ok-actor.ensures.link in
    search (rules, is, deep)

pub returns-clause-link : goal.returns-clause-link
returns-clause-link c =
    let content = c.args.state.now.content in
    let x = c.args.delegation.now in
    let row = c.in_ok-subject.subject.now in
    let other = c.in_ok-actor.actor.now in
    held_row c.link_count.result (λ n. delegated n x row other) content (entry.Delegate x) c.link_behind.result c.link_count.ensures.count
    (held_delegation content x row other (reached_kept content c.has_a_lawful_journal.ensures.reached) c.in_ok-subject.ensures.link c.in_ok-actor.ensures.link)
    c.link_behind.ensures.link
