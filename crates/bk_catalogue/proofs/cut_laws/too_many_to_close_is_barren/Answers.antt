use Rattle.bk_catalogue.proofs.MoveCuts.CuttingBounds.{too_many_to_close_is_barren as the_law}
use Rattle.bk_catalogue.proofs.cut_laws.too_many_to_close_is_barren.Goals as goal

pub returns : goal.returns
returns c = the_law
