use Rattle.bk_catalogue.proofs.TreeOfWords.TreeCounts.{the_tree_count_is_most as the_law}
use Rattle.bk_catalogue.proofs.tree_laws.the_tree_count_is_most.Goals as goal

pub returns : goal.returns
returns c = the_law
