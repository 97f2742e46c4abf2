use Rattle.service_journal.proofs.Refusals.{one_refusal}
use Rattle.service_journal.proofs.laws.one_refusal_of_a_file.Goals as goal

pub returns : goal.returns
returns c = one_refusal
