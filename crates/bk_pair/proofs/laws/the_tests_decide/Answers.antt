use Rattle.bk_pair.proofs.PairTests.{the_tests_decide as the_law}
use Rattle.bk_pair.proofs.laws.the_tests_decide.Goals as goal

pub returns : goal.returns
returns c = the_law
