use Rattle.bk_answer.proofs.KeptFronts.{front_answer}
use Rattle.bk_answer.proofs.laws.a_front_has_the_answer.Goals as goal

pub returns : goal.returns
returns c = front_answer
