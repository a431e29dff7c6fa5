use Rattle.bk_catalogue.proofs.MoveCuts.CuttingPairs.{even_squares_are_barren as the_law}
use Rattle.bk_catalogue.proofs.cut_laws.even_squares_are_barren.Goals as goal

pub returns : goal.returns
returns c = the_law
