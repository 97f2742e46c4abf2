use Rattle.http_serve.proofs.Counted.{one_count}
use Rattle.http_serve.proofs.laws.output_fixes_the_answered.Goals as goal

pub returns : goal.returns
returns c = one_count
