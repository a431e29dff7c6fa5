use Rattle.bk_walk_cuts.proofs.TilingForms.{moves_hold as the_law}
use Rattle.bk_walk_cuts.proofs.laws.moves_hold.Goals as goal

pub returns : goal.returns
returns c = the_law
