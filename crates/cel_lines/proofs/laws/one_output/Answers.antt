use Rattle.cel_lines.proofs.Faults as faults
use Rattle.cel_lines.proofs.Lines as lines
use Rattle.cel_lines.proofs.laws.one_output.Goals as goal

pub returns-clause-one_cut : goal.returns-clause-one_cut
returns-clause-one_cut c = lines.one_cut

pub returns-clause-one_list : goal.returns-clause-one_list
returns-clause-one_list c = lines.one_list

pub returns-clause-one_answer : goal.returns-clause-one_answer
returns-clause-one_answer c = faults.one_answer c.one_draft.ensures c.one_tree.ensures

pub returns-clause-answers : goal.returns-clause-answers
returns-clause-answers c = faults.answers c.one_draft.ensures c.one_tree.ensures
