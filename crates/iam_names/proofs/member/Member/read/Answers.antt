use Rattle.std.proofs.Common.{◌≡◌}
use Rattle.iam_names.specs.Member.{member_of, member_text}
use Rattle.iam_names.proofs.PrintedLemmas.{if_read, member_text-sound}
use Rattle.iam_names.proofs.member.Member.read.Goals as goal

pub returns-clause-text : goal.returns-clause-text
returns-clause-text c =
    if_read c.read_member.result (member_of c.args.text.now) (λ found. member_text found ≡ c.args.text.now) c.read_member.ensures (member_text-sound c.args.text.now)
