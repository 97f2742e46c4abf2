use Rattle.hmac_jws.proofs.Issued.{MacGood-compact, payload_of-compact}
use Rattle.hmac_jws.proofs.laws.signed_text_verifies.Goals as goal

pub returns-clause-good : goal.returns-clause-good
returns-clause-good c = MacGood-compact

pub returns-clause-payload : goal.returns-clause-payload
returns-clause-payload c = payload_of-compact
