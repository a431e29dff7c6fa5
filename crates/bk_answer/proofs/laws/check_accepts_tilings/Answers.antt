use Rattle.bk_answer.proofs.Accepting.{accepted_exactly}
use Rattle.bk_answer.proofs.laws.check_accepts_tilings.Goals as goal

pub returns : goal.returns
returns c = accepted_exactly
