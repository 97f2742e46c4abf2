use Rattle.http_front.proofs.Visibles.{no_text}
use Rattle.http_front.proofs.fields.visible_text.Goals as goal

pub returns-in_default : goal.returns-in_default
returns-in_default c = no_text c.args.bytes.now c.in_default.ensures.cases.0
