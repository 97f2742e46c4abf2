use Rattle.iam_names.proofs.ReadBackLemmas.{pool_of_text-pool_text, audience_of-audience_text, member_of-member_text}
use Rattle.iam_names.proofs.laws.printed_names_read_back.Goals as goal

pub returns-clause-pools : goal.returns-clause-pools
returns-clause-pools c = pool_of_text-pool_text

pub returns-clause-audiences : goal.returns-clause-audiences
returns-clause-audiences c = audience_of-audience_text

pub returns-clause-members : goal.returns-clause-members
returns-clause-members c = member_of-member_text
