use Rattle.hmac_jws.proofs.Accepted.{signed-MacGood}
use Rattle.hmac_jws.proofs.Issued.{MacGood-signed_text}
use Rattle.hmac_jws.proofs.laws.verified_text_is_signed.Goals as goal

pub returns-clause-good : goal.returns-clause-good
returns-clause-good c = MacGood-signed_text

pub returns-clause-signed : goal.returns-clause-signed
returns-clause-signed c = signed-MacGood
