use Rattle.bk_catalogue.proofs.HangingBounds.LineLaws.{the_line_bound_is_most as the_law}
use Rattle.bk_catalogue.proofs.hanging_laws.the_line_bound_is_most.Goals as goal

pub returns : goal.returns
returns c = the_law
