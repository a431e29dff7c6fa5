use Rattle.bk_answer.proofs.OneAnswer.{one_answer}
use Rattle.bk_answer.proofs.laws.a_line_has_one_answer.Goals as goal

pub returns : goal.returns
returns c = one_answer
