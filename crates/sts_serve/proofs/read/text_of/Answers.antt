use Rattle.std.proofs.lemmas.Str.{IsUtf8-from_ascii}
use Rattle.sts_serve.proofs.Words.{visible_ascii, ok_of}
use Rattle.sts_serve.proofs.read.text_of.Goals as goal

pub unwrap-text-requires : goal.unwrap-text-requires
unwrap-text-requires c = ok_of _ _ _ c.from_utf8.ensures.cases (λ e bad. bad.0 (IsUtf8-from_ascii c.args.word.now (visible_ascii c.args.word.now c.requires)))
