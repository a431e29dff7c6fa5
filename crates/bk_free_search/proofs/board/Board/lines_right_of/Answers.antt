use Rattle.std.proofs.Common.{List, ap, length, subst, ℕ, ◌∙◌}
use Rattle.bk_word.specs.Word.{Word}
use Rattle.bk_free_search.proofs.Boards.RightLines.{as_many_rights}
use Rattle.bk_free_search.proofs.Boards.LowLines.{low_rights_read}
use Rattle.bk_free_search.proofs.Boards.OpenSquares.{among_lines}
use Rattle.bk_free_search.specs.NodeLines.{IsLineOfOne}
use Rattle.bk_free_search.specs.Rights.{rights_of}
use Rattle.bk_free_search.proofs.board.Board.lines_right_of.Goals as goal

pub lines_of-requires-clause-lines : goal.lines_of-requires-clause-lines
lines_of-requires-clause-lines c = low_rights_read c.self.inside.skel c.self.invariant.rights_are c.as_slice.ensures.items c.as_slice.ensures.few

pub lines_of-requires-clause-squares : goal.lines_of-requires-clause-squares
lines_of-requires-clause-squares c = among_lines c.self.inside.skel c.args.self.now c.args.squares.now c.self.inside.rights.items c.as_slice.result.now
    (ap length c.self.invariant.rights_are ∙ as_many_rights c.self.inside.skel) c.as_slice.ensures.items c.self.view_is c.requires

pub returns : goal.returns
returns c line has = subst (λ (ls : List ℕ). IsLineOfOne ls c.args.squares.now 1 line)
    (c.as_slice.ensures.items ∙ c.self.invariant.rights_are ∙ ap (λ (w : Word). rights_of w) c.self.view_is) (c.lines_of.ensures 1 line has)
