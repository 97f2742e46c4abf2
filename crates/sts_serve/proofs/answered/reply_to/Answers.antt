use Rattle.sts_serve.proofs.Replying.{nothing_happens}
use Rattle.sts_serve.proofs.answered.reply_to.Goals as goal

pub returns-in_err-route-clause-any_moment : goal.returns-in_err-route-clause-any_moment
returns-in_err-route-clause-any_moment g c = λ config journal stands. nothing_happens _ config journal _ stands

pub returns-in_err-not_found-in-None-clause-any_moment : goal.returns-in_err-not_found-in-None-clause-any_moment
returns-in_err-not_found-in-None-clause-any_moment g c = λ config journal stands. nothing_happens _ config journal _ stands

pub returns-in_ok-not_found-in-None-clause-any_moment : goal.returns-in_ok-not_found-in-None-clause-any_moment
returns-in_ok-not_found-in-None-clause-any_moment g c = λ config journal stands. nothing_happens _ config journal _ stands
