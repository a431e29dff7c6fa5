use Rattle.bk_top.proofs.WholeLists.{a_whole_list_is_the_catalogue}
use Rattle.bk_top.proofs.laws.a_whole_list_is_the_catalogue.Goals as goal

pub returns : goal.returns
returns c = a_whole_list_is_the_catalogue
