use Rattle.cel_grammar.proofs.Pushed.{pushed}
use Rattle.cel_grammar.proofs.reader.put.Goals as goal

pub returns : goal.returns
returns c = pushed c.args.frames.now c.push.new.self c.args.frame c.in_ok-push.ensures.ok
