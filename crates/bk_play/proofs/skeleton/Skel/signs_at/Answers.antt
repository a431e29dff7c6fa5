-- The signs that the record of a move names are its own.
use Rattle.std.proofs.Common.{ap, arith, drop, length, lit<, take, ◌-◌, ◌∙◌}
use Rattle.bk_word.specs.Word.{Word}
use Rattle.bk_word.specs.declared.Sign.{Sign}
use Rattle.bk_play.specs.Skeleton.{signs_of}
use Rattle.bk_play.proofs.skeleton.Skel.signs_at.Goals as goal

pub deref-requires : goal.deref-requires
deref-requires c = lit< tt

pub slice_bounds-result-count : goal.slice_bounds-result-count
slice_bounds-result-count c = omega (arith, c.record_at-noted.ensures.order, c.from.ensures, c.from-2.ensures)

pub slice_bounds-result-start : goal.slice_bounds-result-start
slice_bounds-result-start c = omega (arith, slice_bounds-result-count c)

pub slice_bounds-result-end : goal.slice_bounds-result-end
slice_bounds-result-end c = omega (
  arith,
  c.record_at-noted.ensures.within,
  c.from-2.ensures,
  ap (length {A = Sign}) (c.deref.ensures.0 ∙ c.self.invariant.played_are),
  ap (λ (w : Word). length (signs_of w)) c.self.view_is,
)

pub returns : goal.returns
returns c m e =
    let all = c.deref.ensures.0 ∙ c.self.invariant.played_are ∙ ap signs_of c.self.view_is in
    (λ j. take (c.from-2.ensures j - c.from.ensures j) (drop (c.from.ensures j) (all j))) ∙ c.record_at-noted.ensures.signs m e
