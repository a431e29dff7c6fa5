use Rattle.bk_catalogue.proofs.HangingBounds.WordBoundLaws.{singles_are_hung as the_law}
use Rattle.bk_catalogue.proofs.hanging_laws.singles_are_hung.Goals as goal

pub returns : goal.returns
returns c = the_law
