use Rattle.bk_catalogue.proofs.TreeOfWords.AllWords.{each_part_of_the_tree_has_a_count as the_law}
use Rattle.bk_catalogue.proofs.tree_laws.each_part_of_the_tree_has_a_count.Goals as goal

pub returns : goal.returns
returns c = the_law
