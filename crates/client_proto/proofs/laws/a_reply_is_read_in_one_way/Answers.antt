use Rattle.client_proto.proofs.ReplyLemmas.{one_reply, one_reading}
use Rattle.client_proto.proofs.laws.a_reply_is_read_in_one_way.Goals as goal

pub returns-clause-one_reply : goal.returns-clause-one_reply
returns-clause-one_reply c = one_reply

pub returns-clause-one_reading : goal.returns-clause-one_reading
returns-clause-one_reading c = one_reading
