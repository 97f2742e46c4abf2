use Rattle.http_front.proofs.OneReading.{one_message, refused_or_read, one_rule, part_or_read, rule_of_a_part}
use Rattle.http_front.proofs.laws.each_front_is_read_in_one_way.Goals as goal

pub returns-clause-one_message : goal.returns-clause-one_message
returns-clause-one_message c = one_message

pub returns-clause-refused_or_read : goal.returns-clause-refused_or_read
returns-clause-refused_or_read c = refused_or_read

pub returns-clause-one_rule : goal.returns-clause-one_rule
returns-clause-one_rule c = one_rule

pub returns-clause-part_or_read : goal.returns-clause-part_or_read
returns-clause-part_or_read c = part_or_read

pub returns-clause-rule_of_a_part : goal.returns-clause-rule_of_a_part
returns-clause-rule_of_a_part c = rule_of_a_part
