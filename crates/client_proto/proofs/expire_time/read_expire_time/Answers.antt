use Rattle.std.proofs.Common.{sym}
use Rattle.client_proto.proofs.Forms.{short_time}
use Rattle.client_proto.proofs.expire_time.read_expire_time.Goals as goal

pub returns-then-text-lt-SECOND_SIZE : goal.returns-then-text-lt-SECOND_SIZE
returns-then-text-lt-SECOND_SIZE c = sym (short_time c.args.text.now c.if-text-lt-SECOND_SIZE.true)
