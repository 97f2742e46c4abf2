use Rattle.std.specs.Prelude.{Ok}
use Rattle.subject_token.specs.Sources.{source_by, source_of_claims, who_of_claims}
use Rattle.subject_token.proofs.Refused.{refuses_on}
use Rattle.subject_token.proofs.source.source_from.Goals as goal

pub returns-in-Err-clause-passes : goal.returns-in-Err-clause-passes
unfolding source_of_claims
returns-in-Err-clause-passes c =
    refuses_on (who_of_claims c.args.provider.now c.args.claims c.args.now) (λ who. Ok (source_by c.args.claims who)) c.in-Err.fault c.in-Err.ensures.passes
