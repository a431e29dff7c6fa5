use Rattle.bk_list.proofs.Resuming.{runs_go_on as the_law}
use Rattle.bk_list.proofs.laws.runs_go_on.Goals as goal

pub returns : goal.returns
returns c = the_law
