use Rattle.hmac_jws.proofs.FirstFaults.{first_but_memory, only_memory, fault_or_memory}
use Rattle.hmac_jws.proofs.verification.verify.Goals as goal

pub returns-clause-refused : goal.returns-clause-refused
returns-clause-refused c = first_but_memory c.args.key.now c.args.text.now c.verify_parts.result c.verify_parts.ensures.refused

pub returns-clause-good : goal.returns-clause-good
returns-clause-good c = only_memory c.args.key.now c.args.text.now c.verify_parts.result c.verify_parts.ensures.refused

pub returns-clause-faulty : goal.returns-clause-faulty
returns-clause-faulty c =
    λ fault. fault_or_memory c.args.key.now c.args.text.now c.verify_parts.result fault c.verify_parts.ensures.verified c.verify_parts.ensures.refused
