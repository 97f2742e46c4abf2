use Rattle.http_front.proofs.OneStream.{one_stream}
use Rattle.http_front.proofs.laws.a_stream_is_cut_in_one_way.Goals as goal

pub returns-clause-requests : goal.returns-clause-requests
returns-clause-requests c = λ bytes ms ns end other s t. (one_stream ms ns bytes end other s t).0

pub returns-clause-end : goal.returns-clause-end
returns-clause-end c = λ bytes ms ns end other s t. (one_stream ms ns bytes end other s t).1
