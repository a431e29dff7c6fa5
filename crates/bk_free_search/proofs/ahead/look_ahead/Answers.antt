use Rattle.std.proofs.Common.{ap, arith, length, max, ◌∙◌, ◌≡◌}
use Rattle.bk_word.specs.Play.{outline_of}
use Rattle.bk_word.specs.Word.{Word}
use Rattle.bk_catalogue.proofs.HangingBounds.BoundsOfWords.{shape_of_word}
use Rattle.bk_layout.specs.Normal.{Counts}
use Rattle.bk_layout.proofs.NormalCuts.NextMove.{too_few_evens_is_normal_barren}
use Rattle.bk_layout.specs.BeforeNextMove.{AreMostMovesThen}
use Rattle.bk_free_search.proofs.NextWords.AheadMoves.{most_then_is}
use Rattle.bk_free_search.proofs.ahead.look_ahead.Goals as goal

moves_are : (c : goal.After-saturating_sub-2) → c.counts-counts.result.moves ≡ length c.args.board.now
moves_are c = ap (λ (k : Counts). k.moves) c.counts-counts.ensures

most_is : (c : goal.After-saturating_sub-2) → AreMostMovesThen c.args.order c.args.board.now c.most_then-most.result
most_is c = most_then_is c.args.order c.args.board.now c.counts-counts.result.moves c.counts-counts.result.top c.max.result c.most_then-most.result
    (moves_are c) (ap (λ (k : Counts). k.top) c.counts-counts.ensures)
    (c.max.ensures ∙ (λ i. max (c.at_walls_then-left.ensures.left i) (c.at_walls_then-left.ensures.right i)))
    c.most_then-most.ensures.none c.most_then-most.ensures.some

pub returns-clause-moves : goal.returns-clause-moves
returns-clause-moves c = record {
  most = c.most_then-most.result;
  most_is = most_is c;
  left_is = omega (arith, c.saturating_sub-moves_left.ensures, c.from-moves.ensures, moves_are c);
}

pub returns-clause-evens : goal.returns-clause-evens
returns-clause-evens c m few = too_few_evens_is_normal_barren c.args.order c.most_then-most.result c.args.board.now m (most_is c) (omega (
  arith,
  few,
  c.saturating_sub-2.ensures,
  c.saturating_sub.ensures,
  c.from-moves.ensures,
  c.from.ensures,
  c.from-2.ensures,
  moves_are c,
  c.at_walls_then-left.ensures.left,
  c.at_walls_then-left.ensures.right,
  ap (λ (k : Counts). k.squares) c.counts-counts.ensures,
  ap length c.signs.ensures,
  ap (λ (v : Word). length (outline_of v).signs) c.skel.ensures.value,
  ap (λ (v : Word). length (outline_of v).segments) c.skel.ensures.value,
  (shape_of_word c.skel.result.now c.skel.ensures.legal).many,
))

pub overflow_add-moves : goal.overflow_add-moves
overflow_add-moves c = omega arith

pub overflow_add-segments : goal.overflow_add-segments
overflow_add-segments c = omega arith

pub overflow_add-from : goal.overflow_add-from
overflow_add-from c = omega (arith, c.from-moves.ensures)

pub overflow_mul-most : goal.overflow_mul-most
overflow_mul-most c = omega (arith, c.most_then-most.ensures.few)
