use Rattle.http_serve.proofs.Kept.{each_lawful, visits_lawful}
use Rattle.http_serve.proofs.laws.each_journal_is_lawful.Goals as goal

pub returns-clause-requests : goal.returns-clause-requests
returns-clause-requests c = each_lawful

pub returns-clause-connections : goal.returns-clause-connections
returns-clause-connections c = visits_lawful
