use Rattle.client_conformance.proofs.Bodies.{body_read}
use Rattle.client_conformance.proofs.Texts.{account_meant}
use Rattle.client_conformance.proofs.laws.an_account_is_asked_as_meant.Goals as goal

pub returns-clause-request : goal.returns-clause-request
returns-clause-request c = account_meant

pub returns-clause-body : goal.returns-clause-body
returns-clause-body c = body_read
