use Rattle.bk_list.proofs.Resuming.{only_named_ones_are_missing as the_law}
use Rattle.bk_list.proofs.laws.only_named_ones_are_missing.Goals as goal

pub returns : goal.returns
returns c = the_law
