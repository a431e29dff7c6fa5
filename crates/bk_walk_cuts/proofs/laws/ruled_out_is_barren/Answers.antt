use Rattle.bk_walk_cuts.proofs.RuledOut.{ruled_out_is_barren as the_law}
use Rattle.bk_walk_cuts.proofs.laws.ruled_out_is_barren.Goals as goal

pub returns : goal.returns
returns c = the_law
