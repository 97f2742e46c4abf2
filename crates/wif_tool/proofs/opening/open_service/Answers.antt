use Rattle.sts_core.proofs.Opened.{few_of, inside_of}
use Rattle.wif_tool.proofs.opening.open_service.Goals as goal

pub returns-in-Ok-open_on-clause-inside : goal.returns-in-Ok-open_on-clause-inside
returns-in-Ok-open_on-clause-inside g c =
    let found = c.in-Ok.ensures.found in
    inside_of found.0 _ _ _ _ (c.in-Ok-open_on.ensures.opens found.0 found.2).0.journal

pub returns-in-Ok-open_on-clause-few : goal.returns-in-Ok-open_on-clause-few
returns-in-Ok-open_on-clause-few g c =
    let found = c.in-Ok.ensures.found in
    few_of found.0 _ _ _ _ (c.in-Ok-open_on.ensures.opens found.0 found.2).0.journal
