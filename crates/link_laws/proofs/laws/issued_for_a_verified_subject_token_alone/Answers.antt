use Rattle.link_laws.proofs.LinkLaws.{was_shown}
use Rattle.link_laws.proofs.laws.issued_for_a_verified_subject_token_alone.Goals as goal

pub returns : goal.returns
returns c = was_shown
