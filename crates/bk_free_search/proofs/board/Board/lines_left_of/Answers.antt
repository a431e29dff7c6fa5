use Rattle.std.proofs.Common.{List, ap, subst, ℕ, ◌∙◌}
use Rattle.bk_word.specs.Word.{Word}
use Rattle.bk_layout.specs.LineNumbers.{lefts_of}
use Rattle.bk_free_search.proofs.Boards.LeftLines.{left_count}
use Rattle.bk_free_search.proofs.Boards.LowLines.{low_lefts_read}
use Rattle.bk_free_search.proofs.Boards.OpenSquares.{among_lines}
use Rattle.bk_free_search.specs.NodeLines.{IsLineOfOne}
use Rattle.bk_free_search.proofs.board.Board.lines_left_of.Goals as goal

pub lines_of-requires-clause-lines : goal.lines_of-requires-clause-lines
lines_of-requires-clause-lines c = low_lefts_read c.self.invariant.left_word c.as_slice.ensures.items c.as_slice.ensures.few

pub lines_of-requires-clause-squares : goal.lines_of-requires-clause-squares
lines_of-requires-clause-squares c = among_lines c.self.inside.skel c.args.self.now c.args.squares.now c.self.inside.lefts.items c.as_slice.result.now
    (left_count c.self.inside.skel c.self.inside.lefts.items c.self.invariant.left_word) c.as_slice.ensures.items c.self.view_is c.requires

pub returns : goal.returns
returns c line has = subst (λ (ls : List ℕ). IsLineOfOne ls c.args.squares.now 0 line)
    (c.as_slice.ensures.items ∙ c.self.invariant.left_word.lefts_are ∙ ap (λ (w : Word). lefts_of w) c.self.view_is) (c.lines_of.ensures 0 line has)
