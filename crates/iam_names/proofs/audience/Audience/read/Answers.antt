use Rattle.std.proofs.Common.{◌≡◌}
use Rattle.iam_names.specs.Audience.{audience_of, audience_text}
use Rattle.iam_names.proofs.PrintedLemmas.{if_read, audience_text-sound}
use Rattle.iam_names.proofs.audience.Audience.read.Goals as goal

pub returns-clause-text : goal.returns-clause-text
returns-clause-text c =
    if_read c.read_audience.result (audience_of c.args.text.now) (λ name. audience_text name ≡ c.args.text.now) c.read_audience.ensures (audience_text-sound c.args.text.now)
