use Rattle.shared_renewer.proofs.Failing.{failed_is, is_counted}
use Rattle.shared_renewer.proofs.laws.failed_calls_are_refused_or_bad.Goals as goal

pub returns : goal.returns
returns c = λ config call. (failed_is config call, is_counted config call)
