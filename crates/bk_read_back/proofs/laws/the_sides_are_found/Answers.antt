use Rattle.bk_read_back.proofs.SidesBack.{the_sides_are_found as the_law}
use Rattle.bk_read_back.proofs.laws.the_sides_are_found.Goals as goal

pub returns : goal.returns
returns c = the_law
