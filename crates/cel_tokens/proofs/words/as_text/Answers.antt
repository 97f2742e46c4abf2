use Rattle.cel_tokens.proofs.Ascii.{name_utf8}
use Rattle.cel_tokens.proofs.words.as_text.Goals as goal

pub unreachable-requires : goal.unreachable-requires
unreachable-requires c = c.in-Err.ensures.cases.0 (name_utf8 c.args.word.now c.requires)
