use Rattle.answer_law.proofs.AnswerLemmas.{rows_answer_once}
use Rattle.answer_law.proofs.laws.rows_leave_one_answer.Goals as goal

pub returns : goal.returns
returns c = rows_answer_once
