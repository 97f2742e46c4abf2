use Rattle.cel_syntax.proofs.Parsed.{found_by, only_by}
use Rattle.cel_syntax.proofs.whole.parse.Goals as goal

pub returns-in-Ok-clause-only : goal.returns-in-Ok-clause-only
returns-in-Ok-clause-only c = only_by c.args.text.now c.in-Ok.draft c.with_macros.result c.in-Ok.ensures.found c.with_macros.ensures

pub returns-in-Ok-clause-found : goal.returns-in-Ok-clause-found
returns-in-Ok-clause-found c = found_by c.args.text.now c.in-Ok.draft c.with_macros.result c.in-Ok.ensures.found c.with_macros.ensures
