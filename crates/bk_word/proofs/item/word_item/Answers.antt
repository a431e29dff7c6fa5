-- The item that is found before the comment is that of the line.
use Rattle.std.proofs.Common.{refl, take}
use Rattle.bk_word.proofs.ItemParts.{item_found}
use Rattle.bk_word.proofs.item.word_item.Goals as goal

pub returns-clause-some : goal.returns-clause-some
returns-clause-some c =
    item_found c.args.line.now (take c.comment_start.result c.args.line.now) c.comment_start.result c.in_ok-start.start c.item_end.result refl
    c.comment_start.ensures.within c.comment_start.ensures.bare
    c.comment_start.ensures.comment c.item_end.ensures.behind c.item_end.ensures.within c.in_ok-start.ensures.blanks c.in_ok-start.ensures.bare
    c.item_end.ensures.blanks c.item_end.ensures.bare
