use Rattle.client_conformance.proofs.Texts.{exchange_meant}
use Rattle.client_conformance.proofs.Parameters.{form_meant}
use Rattle.client_conformance.proofs.laws.an_exchange_is_asked_as_meant.Goals as goal

pub returns-clause-request : goal.returns-clause-request
returns-clause-request c = exchange_meant

pub returns-clause-form : goal.returns-clause-form
returns-clause-form c = form_meant
