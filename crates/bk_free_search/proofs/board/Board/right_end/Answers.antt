use Rattle.std.proofs.Common.{ap, arith, length, ◌∙◌}
use Rattle.bk_word.specs.Word.{Word}
use Rattle.bk_layout.specs.LineNumbers.{right_end, square_lines}
use Rattle.bk_free_search.specs.Rights.{last_right}
use Rattle.bk_free_search.proofs.Boards.BoardMoves.{right_end_on_board}
use Rattle.bk_free_search.proofs.Boards.LowLines.{low_right_end, low_rights_read}
use Rattle.bk_free_search.proofs.Boards.RightLines.{as_many_rights}
use Rattle.bk_free_search.proofs.Boards.OpenSquares.{among_lines}
use Rattle.bk_free_search.proofs.board.Board.right_end.Goals as goal

pub right_of_last-requires : goal.right_of_last-requires
right_of_last-requires c = among_lines c.self.inside.skel c.args.self.now c.args.squares.now c.self.inside.rights.items c.as_slice.result.now
    (ap length c.self.invariant.rights_are ∙ as_many_rights c.self.inside.skel) c.as_slice.ensures.items c.self.view_is c.requires

pub returns-clause-value : goal.returns-clause-value
returns-clause-value c = c.right_of_last.ensures ∙ ap (λ l. last_right l c.args.squares.now) c.as_slice.ensures.items
    ∙ right_end_on_board c.self.inside.skel c.self.inside.rights.items c.args.squares.now c.self.invariant.rights_are
    ∙ ap (λ (w : Word). right_end (square_lines w) c.args.squares.now) c.self.view_is

pub returns-clause-low : goal.returns-clause-low
returns-clause-low c = omega (
  arith,
  c.right_of_last.ensures,
  low_right_end c.as_slice.result.now c.args.squares.now
      (low_rights_read c.self.inside.skel c.self.invariant.rights_are c.as_slice.ensures.items c.as_slice.ensures.few),
)
