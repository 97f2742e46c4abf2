use Rattle.http_serve.proofs.Kept.{crash_keeps, crash_keeps_begun}
use Rattle.http_serve.proofs.laws.a_crash_keeps_what_was_acknowledged.Goals as goal

pub returns-clause-answered : goal.returns-clause-answered
returns-clause-answered c = crash_keeps

pub returns-clause-begun : goal.returns-clause-begun
returns-clause-begun c = crash_keeps_begun
