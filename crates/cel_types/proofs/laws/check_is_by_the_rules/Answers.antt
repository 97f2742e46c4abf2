use Rattle.cel_types.proofs.Placed.{among}
use Rattle.cel_types.proofs.Relation.{answers, follows, one_type_each, none_at_fault}
use Rattle.cel_types.proofs.laws.check_is_by_the_rules.Goals as goal

pub returns : goal.returns
returns c = record {
  answers = λ d e t h at. answers h at;
  accepts = λ d e t h at. answers h at;
  follows = λ d e t at h. follows e d at t h;
  one = λ d e t u h g. one_type_each h g;
  none = λ d e t at f h g. none_at_fault d e t at f h g;
  among = λ d e at f h. among e d at f h;
}
