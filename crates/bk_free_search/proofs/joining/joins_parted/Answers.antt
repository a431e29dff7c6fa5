use Rattle.std.proofs.Common.{ap, arith, inl, inr, refl, subst, sym, ℕ, ◌∙◌, ◌≡◌, ◌⊎◌}
use Rattle.bk_word.specs.Outline.{sizes_of, valley_of}
use Rattle.bk_word.specs.Play.{IsLegal, outline_of}
use Rattle.bk_word.specs.Word.{Word}
use Rattle.bk_layout.specs.LineNumbers.{left_end, right_end, square_lines}
use Rattle.bk_free_search.proofs.Asks.SharedAfter.{parted_before, parted_behind}
use Rattle.bk_free_search.proofs.Boards.OpenSquares.{joined_left-are_squares, joined_right-are_squares, valley_read-are_squares}
use Rattle.bk_free_search.proofs.Boards.ValleyPlaces.{ends_within, valley_read}
use Rattle.bk_free_search.specs.Joining.{JoinsLeft, JoinsRight}
use Rattle.bk_free_search.specs.NodeLines.{Has}
use Rattle.bk_play.specs.SmallSkeleton.{IsValleyPlace}
use Rattle.bk_free_search.proofs.joining.joins_parted.Goals as goal

pub slice_bounds-squares-end : goal.slice_bounds-squares-end
slice_bounds-squares-end c = omega (
  arith,
  ends_within c.skel-skel.result.now c.skel-skel.ensures.legal (sizes_of (outline_of c.skel-skel.result.now))
      c.ends-ends.result.now refl c.ends-ends.ensures c.args.valley.now
      (subst (λ (w : Word). IsValleyPlace w c.args.valley.now) (sym c.skel-skel.ensures.value) c.requires.valley),
)

pub lines_left_of-lefts-requires : goal.lines_left_of-lefts-requires
lines_left_of-lefts-requires c = joined_left-are_squares c.args.board.now c.args.m.now c.joined_left-earlier.result.now
    (subst (λ (w : Word). JoinsLeft (outline_of w) c.args.m.now c.joined_left-earlier.result.now) c.skel-skel.ensures.value c.joined_left-earlier.ensures)

pub lines_right_of-rights-requires : goal.lines_right_of-rights-requires
lines_right_of-rights-requires c = joined_right-are_squares c.args.board.now c.args.m.now c.joined_right-later.result.now
    (subst (λ (w : Word). JoinsRight (outline_of w) c.args.m.now c.joined_right-later.result.now) c.skel-skel.ensures.value c.joined_right-later.ensures)

pub right_end-requires : goal.right_end-requires
right_end-requires c = valley_read-are_squares c.skel-skel.result.now c.args.board.now c.skel-skel.ensures.value c.skel-skel.ensures.legal
    c.ends-ends.result.now c.ends-ends.ensures c.args.valley.now c.requires.valley

pub left_end-requires : goal.left_end-requires
left_end-requires c = valley_read-are_squares c.skel-skel.result.now c.args.board.now c.skel-skel.ensures.value c.skel-skel.ensures.legal
    c.ends-ends.result.now c.ends-ends.ensures c.args.valley.now c.requires.valley

pub with_line-requires : goal.with_line-requires
with_line-requires c = c.right_end.ensures.low

pub with_line-requires-else-touch_one : goal.with_line-requires-else-touch_one
with_line-requires-else-touch_one c = c.left_end.ensures.low

pub returns-then-touch_one : goal.returns-then-touch_one
returns-then-touch_one c told = parted_before c.args.board.now c.args.m.now (subst IsLegal c.skel-skel.ensures.value c.skel-skel.ensures.legal)
    c.requires.legal c.requires.one c.joined_left-earlier.result.now c.joined_right-later.result.now
    (subst (λ (w : Word). JoinsLeft (outline_of w) c.args.m.now c.joined_left-earlier.result.now) c.skel-skel.ensures.value c.joined_left-earlier.ensures)
    (subst (λ (w : Word). JoinsRight (outline_of w) c.args.m.now c.joined_right-later.result.now) c.skel-skel.ensures.value c.joined_right-later.ensures)
    c.lines_left_of-lefts.result c.lines_right_of-rights.result c.with_line.result c.right_end.result
    (c.right_end.ensures.value ∙ ap (right_end (square_lines c.args.board.now)) (valley_read c.skel-skel.result.now c.skel-skel.ensures.legal
    (sizes_of (outline_of c.skel-skel.result.now)) c.ends-ends.result.now refl c.ends-ends.ensures c.args.valley.now
    (subst (λ (w : Word). IsValleyPlace w c.args.valley.now) (sym c.skel-skel.ensures.value) c.requires.valley)
    ∙ ap (λ (w : Word). valley_of (outline_of w)) c.skel-skel.ensures.value))
    c.lines_left_of-lefts.ensures c.lines_right_of-rights.ensures c.with_line.ensures.only (c.touch_one.ensures told)

pub returns-else-touch_one : goal.returns-else-touch_one
returns-else-touch_one c told = parted_behind c.args.board.now c.args.m.now (subst IsLegal c.skel-skel.ensures.value c.skel-skel.ensures.legal)
    c.requires.legal c.requires.one c.joined_left-earlier.result.now c.joined_right-later.result.now
    (subst (λ (w : Word). JoinsLeft (outline_of w) c.args.m.now c.joined_left-earlier.result.now) c.skel-skel.ensures.value c.joined_left-earlier.ensures)
    (subst (λ (w : Word). JoinsRight (outline_of w) c.args.m.now c.joined_right-later.result.now) c.skel-skel.ensures.value c.joined_right-later.ensures)
    c.with_line-else-touch_one.result c.lines_right_of-rights.result c.left_end.result
    (c.left_end.ensures.value ∙ ap (left_end (square_lines c.args.board.now)) (valley_read c.skel-skel.result.now c.skel-skel.ensures.legal
    (sizes_of (outline_of c.skel-skel.result.now)) c.ends-ends.result.now refl c.ends-ends.ensures c.args.valley.now
    (subst (λ (w : Word). IsValleyPlace w c.args.valley.now) (sym c.skel-skel.ensures.value) c.requires.valley)
    ∙ ap (λ (w : Word). valley_of (outline_of w)) c.skel-skel.ensures.value))
    c.lines_right_of-rights.ensures (λ k has. alone k (c.with_line-else-touch_one.ensures.only k has)) (c.touch_one-else-touch_one.ensures told)
  where
    alone : (k : ℕ) → (k ≡ c.left_end.result) ⊎ Has c.no_line.result k → k ≡ c.left_end.result
    alone k (inl e) = e
    alone k (inr none) = absurd (c.no_line.ensures k none)
