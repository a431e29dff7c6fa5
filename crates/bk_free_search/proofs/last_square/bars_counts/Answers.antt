use Rattle.std.specs.List.{concat}
use Rattle.std.proofs.Common.{ap, arith, length}
use Rattle.std.proofs.lemmas.Bool.{ltb-true}
use Rattle.bk_word.specs.Outline.{valley_of}
use Rattle.bk_word.specs.Play.{outline_of}
use Rattle.bk_word.specs.Word.{Word}
use Rattle.bk_layout.specs.Normal.{Counts}
use Rattle.bk_free_search.proofs.NextWords.LastSquare.{left_is_barred, right_is_barred, wide_is_barred}
use Rattle.bk_free_search.proofs.last_square.bars_counts.Goals as goal

pub returns-then-from-valley_squares : goal.returns-then-from-valley_squares
returns-then-from-valley_squares c _ = wide_is_barred c.args.order c.args.board.now c.requires.least c.requires.one (omega (
  arith,
  c.if-from-valley_squares.true,
  c.from.ensures,
  ap (λ (k : Counts). k.top) c.counts-counts.ensures,
  ap length c.valley_squares.ensures,
  ap (λ (w : Word). length (valley_of (outline_of w))) c.skel-skel.ensures.value,
  ap length c.ends.ensures,
  ap (λ (w : Word). length (concat (outline_of w).segments)) c.skel-skel.ensures.value,
))

pub returns-then-right-left : goal.returns-then-right-left
returns-then-right-left c _ = left_is_barred c.args.order c.args.board.now c.requires.least c.requires.one
    (omega (arith, c.if-right-left.true, c.at_walls_then-left.ensures.left, c.at_walls_then-left.ensures.right))

pub returns-then-are_most_moves : goal.returns-then-are_most_moves
returns-then-are_most_moves c told = right_is_barred c.args.order c.args.board.now c.requires.least c.requires.one
    (omega (arith, c.are_most_moves.ensures c.if-are_most_moves.true, c.from-2.ensures, ap (λ (k : Counts). k.moves) c.counts-counts.ensures))
    (omega (
      arith,
      ltb-true c.from-then-are_most_moves.result c.at_walls_then-left.result.1 told,
      c.from-then-are_most_moves.ensures,
      ap (λ (k : Counts). k.top) c.counts-counts.ensures,
      c.at_walls_then-left.ensures.right,
    ))
