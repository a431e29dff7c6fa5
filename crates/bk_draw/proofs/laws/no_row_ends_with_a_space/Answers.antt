use Rattle.bk_draw.proofs.RightSide.{no_row_ends_with_a_space as the_law}
use Rattle.bk_draw.proofs.laws.no_row_ends_with_a_space.Goals as goal

pub returns : goal.returns
returns c = the_law
