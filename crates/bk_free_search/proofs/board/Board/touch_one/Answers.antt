use Rattle.std.proofs.Common.{List, subst}
use Rattle.bk_word.specs.Word.{Word}
use Rattle.bk_free_search.specs.Joining.{TouchOneOf}
use Rattle.bk_free_search.specs.NodeLines.{HasPair}
use Rattle.bk_free_search.specs.declared.line_set.LineSet.{LineSet}
use Rattle.bk_free_search.proofs.Boards.BoardMoves.{touch_lines}
use Rattle.bk_free_search.proofs.board.Board.touch_one.Goals as goal

pub returns : goal.returns
returns c touch = subst (λ (w : Word). TouchOneOf w c.args.lefts c.args.rights) c.self.view_is
    (touch_lines c.self.inside.skel c.self.inside.nodes.items c.args.lefts c.args.rights c.self.invariant.node_lines
    (subst (λ (nodes : List LineSet). HasPair nodes c.args.lefts c.args.rights) c.as_slice.ensures.items (c.has_pair.ensures touch)))
