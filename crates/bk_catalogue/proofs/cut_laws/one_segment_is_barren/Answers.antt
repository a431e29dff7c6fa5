use Rattle.bk_catalogue.proofs.MoveCuts.Cutting.{one_segment_is_barren as the_law}
use Rattle.bk_catalogue.proofs.cut_laws.one_segment_is_barren.Goals as goal

pub returns : goal.returns
returns c = the_law
