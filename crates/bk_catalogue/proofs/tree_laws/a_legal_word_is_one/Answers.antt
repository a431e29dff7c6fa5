use Rattle.bk_catalogue.proofs.TreeOfWords.TreeCounts.{a_legal_word_is_one as the_law}
use Rattle.bk_catalogue.proofs.tree_laws.a_legal_word_is_one.Goals as goal

pub returns : goal.returns
returns c = the_law
