use Rattle.links.specs.declared.entry.Entry.TheVariants as entry
use Rattle.links.specs.Recorded.{narrowed}
use Rattle.links.proofs.Journals.{reached_kept}
use Rattle.links.proofs.Preparing.{held_bounds, held_narrowing, held_row}
use Rattle.links.proofs.narrow.link_for.Goals as goal

pub link_behind-requires-clause-bounds : goal.link_behind-requires-clause-bounds
link_behind-requires-clause-bounds c =
    let content = c.args.state.now.content in
    held_bounds content c.args.narrowing.now.parent c.in_ok-parent.parent.now (reached_kept content c.has_a_lawful_journal.ensures.reached)
    c.in_ok-parent.ensures.link

pub returns-clause-link : goal.returns-clause-link
returns-clause-link c =
    let content = c.args.state.now.content in
    let x = c.args.narrowing.now in
    let row = c.in_ok-parent.parent.now in
    held_row c.link_count.result (λ n. narrowed n x row) content (entry.Narrow x) c.link_behind.result c.link_count.ensures.count
    (held_narrowing content x row (reached_kept content c.has_a_lawful_journal.ensures.reached) c.in_ok-parent.ensures.link) c.link_behind.ensures.link
