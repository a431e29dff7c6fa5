use Rattle.bk_found.proofs.Candidates.{the_candidate_is_the_tiling as the_law}
use Rattle.bk_found.proofs.laws.the_candidate_is_the_tiling.Goals as goal

pub returns : goal.returns
returns c = the_law
