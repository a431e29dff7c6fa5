use Rattle.bk_catalogue.proofs.TreeOfWords.TreeCounts.{at_least_adds as the_law}
use Rattle.bk_catalogue.proofs.tree_laws.at_least_adds.Goals as goal

pub returns : goal.returns
returns c = the_law
