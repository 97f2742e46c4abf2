use Rattle.cel_grammar.proofs.Pushed.{top_of}
use Rattle.cel_grammar.proofs.reader.top.Goals as goal

pub returns : goal.returns
returns c = top_of c.args.frames.now c.pop.new.self c.pop.result c.pop.ensures
