use Rattle.bk_catalogue.proofs.Members.CornerLaws.{corners_are_no_longer as the_law}
use Rattle.bk_catalogue.proofs.member_laws.corners_are_no_longer.Goals as goal

pub returns : goal.returns
returns c = the_law
