use Rattle.bk_catalogue.proofs.Members.ListedOnce.{each_simple_tiling_is_listed_once as the_law}
use Rattle.bk_catalogue.proofs.member_laws.each_simple_tiling_is_listed_once.Goals as goal

pub returns : goal.returns
returns c = the_law
