use Rattle.bk_catalogue.proofs.MoveCuts.CuttingFirst.{shorter_first_is_barren as the_law}
use Rattle.bk_catalogue.proofs.cut_laws.shorter_first_is_barren.Goals as goal

pub returns : goal.returns
returns c = the_law
