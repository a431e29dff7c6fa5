use Rattle.std.proofs.Common.{ap, arith, drop, refl, subst, sym, take, ◌-◌, ◌∙◌}
use Rattle.bk_word.specs.Word.{Word}
use Rattle.bk_word.specs.Outline.{sizes_of, valley_of}
use Rattle.bk_word.specs.Play.{outline_of}
use Rattle.bk_free_search.proofs.Boards.OpenSquares.{valley_read-are_squares}
use Rattle.bk_free_search.proofs.Boards.TopLineMarks.{left_on_line}
use Rattle.bk_free_search.proofs.Boards.ValleyPlaces.{ends_within, valley_read}
use Rattle.bk_play.specs.SmallSkeleton.{IsValleyPlace}
use Rattle.bk_free_search.proofs.marks.is_left_on_line.Goals as goal

pub slice_bounds-left_end-end : goal.slice_bounds-left_end-end
slice_bounds-left_end-end c = omega (
  arith,
  ends_within c.skel.result.now c.skel.ensures.legal (sizes_of (outline_of c.skel.result.now)) c.ends.result.now
      refl c.ends.ensures c.args.valley.now (subst (λ (w : Word). IsValleyPlace w c.args.valley.now) (sym c.skel.ensures.value) c.requires),
)

pub left_end-line-requires : goal.left_end-line-requires
left_end-line-requires c = valley_read-are_squares c.skel.result.now c.args.board.now c.skel.ensures.value c.skel.ensures.legal c.ends.result.now
    c.ends.ensures c.args.valley.now c.requires

pub returns : goal.returns
returns c told = left_on_line c.args.board.now (take (c.args.valley.now.end - c.args.valley.now.start)
    (drop c.args.valley.now.start c.ends.result.now)) c.left_end-line.result c.first.result
    (valley_read c.skel.result.now c.skel.ensures.legal (sizes_of (outline_of c.skel.result.now)) c.ends.result.now refl c.ends.ensures c.args.valley.now
    (subst (λ (w : Word). IsValleyPlace w c.args.valley.now) (sym c.skel.ensures.value) c.requires)
    ∙ ap (λ (w : Word). valley_of (outline_of w)) c.skel.ensures.value) c.skel.result.now c.skel.ensures.value c.skel.ensures.legal
    c.left_end-line.ensures.value c.first.ensures (sym c.is_top_line.ensures ∙ told)
