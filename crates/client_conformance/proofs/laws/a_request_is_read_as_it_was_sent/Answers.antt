use Rattle.std.proofs.Common.{◌++◌, ℕ, List, ap, subst, sym, ◌∙◌}
use Rattle.http_front.specs.Messages.{Message, Asks}
use Rattle.http_front.proofs.OneReading.{one_message}
use Rattle.client_conformance.proofs.laws.a_request_is_read_as_it_was_sent.Goals as goal

pub returns : goal.returns
returns c sent rest behind incoming message (meant, is, asks, whole) is' same =
    let one = one_message meant message rest behind is is' (ap (λ (l : List ℕ). l ++ rest) (sym whole) ∙ same) in
    (subst (λ (m : Message). Asks m incoming) one.0 asks, sym one.1)
