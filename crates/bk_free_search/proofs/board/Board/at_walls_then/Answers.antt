use Rattle.std.proofs.Common.{ap, arith, cond, ℕ}
use Rattle.bk_laws.proofs.TestsAsNumbers.{cond_count-le_one}
use Rattle.bk_word.specs.Outline.{has_left_wall, has_right_wall}
use Rattle.bk_word.specs.Play.{outline_of}
use Rattle.bk_word.specs.Word.{Word}
use Rattle.bk_layout.specs.WordNumbers.{left_squares, right_squares}
use Rattle.bk_free_search.proofs.board.Board.at_walls_then.Goals as goal

pub returns-clause-left : goal.returns-clause-left
returns-clause-left c = omega (
  arith,
  c.from-left.ensures,
  c.one_if.ensures,
  c.self.invariant.left_is,
  ap left_squares c.self.view_is,
  ap (λ b. cond {A = ℕ} b 1 0) c.walls-left_wall.ensures.left,
  ap (λ (w : Word). cond {A = ℕ} (has_left_wall (outline_of w)) 1 0) c.self.view_is,
)

pub returns-clause-right : goal.returns-clause-right
returns-clause-right c = omega (
  arith,
  c.from-right.ensures,
  c.one_if-2.ensures,
  c.self.invariant.right_is,
  ap right_squares c.self.view_is,
  ap (λ b. cond {A = ℕ} b 1 0) c.walls-left_wall.ensures.right,
  ap (λ (w : Word). cond {A = ℕ} (has_right_wall (outline_of w)) 1 0) c.self.view_is,
)

pub returns-clause-few : goal.returns-clause-few
returns-clause-few c = (
  omega (arith, c.from-left.ensures, c.one_if.ensures, cond_count-le_one c.walls-left_wall.result.0),
  omega (arith, c.from-right.ensures, c.one_if-2.ensures, cond_count-le_one c.walls-left_wall.result.1),
)
