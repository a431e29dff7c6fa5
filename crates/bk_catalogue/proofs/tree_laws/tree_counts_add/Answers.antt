use Rattle.bk_catalogue.proofs.TreeOfWords.TreeCounts.{tree_counts_add as the_law}
use Rattle.bk_catalogue.proofs.tree_laws.tree_counts_add.Goals as goal

pub returns : goal.returns
returns c = the_law
