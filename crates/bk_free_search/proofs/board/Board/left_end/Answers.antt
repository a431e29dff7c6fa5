use Rattle.std.proofs.Common.{ap, arith, ◌∙◌}
use Rattle.bk_word.specs.Word.{Word}
use Rattle.bk_layout.specs.LineNumbers.{left_end, square_lines}
use Rattle.bk_free_search.specs.Lefts.{first_left}
use Rattle.bk_free_search.proofs.Boards.BoardMoves.{left_end_on_board}
use Rattle.bk_free_search.proofs.Boards.LeftLines.{left_count}
use Rattle.bk_free_search.proofs.Boards.LowLines.{low_left_end, low_lefts_read}
use Rattle.bk_free_search.proofs.Boards.OpenSquares.{among_lines}
use Rattle.bk_free_search.proofs.board.Board.left_end.Goals as goal

pub left_of_first-requires : goal.left_of_first-requires
left_of_first-requires c = among_lines c.self.inside.skel c.args.self.now c.args.squares.now c.self.inside.lefts.items c.as_slice.result.now
    (left_count c.self.inside.skel c.self.inside.lefts.items c.self.invariant.left_word) c.as_slice.ensures.items c.self.view_is c.requires

pub returns-clause-value : goal.returns-clause-value
returns-clause-value c = c.left_of_first.ensures ∙ ap (λ l. first_left l c.args.squares.now) c.as_slice.ensures.items
    ∙ left_end_on_board c.self.inside.skel c.self.inside.lefts.items c.args.squares.now c.self.invariant.left_word.lefts_are
    ∙ ap (λ (w : Word). left_end (square_lines w) c.args.squares.now) c.self.view_is

pub returns-clause-low : goal.returns-clause-low
returns-clause-low c = omega (
  arith,
  c.left_of_first.ensures,
  low_left_end c.as_slice.result.now c.args.squares.now (low_lefts_read c.self.invariant.left_word c.as_slice.ensures.items c.as_slice.ensures.few),
)
