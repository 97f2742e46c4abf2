use Rattle.std.proofs.Common.{ℕ, List, ap, ◌∙◌}
use Rattle.cel_tokens.specs.Words.{all_bytes, is_name_byte}
use Rattle.cel_tokens.proofs.Fronts.{front_all}
use Rattle.cel_tokens.proofs.words.name_word.Goals as goal

pub as_text-requires : goal.as_text-requires
as_text-requires c = ap (λ (r : List ℕ × List ℕ). all_bytes is_name_byte r.0) c.split_run.ensures ∙ front_all is_name_byte c.args.text.now
