use Rattle.std.proofs.Common.{ap, arith, length, sum, ◌∙◌, ◌≡◌}
use Rattle.bk_laws.proofs.Sums.{sum-map_length}
use Rattle.bk_word.specs.Play.{outline_of}
use Rattle.bk_catalogue.proofs.HangingBounds.BoundsOfWords.{line_bound_by_lists, sizes_long}
use Rattle.bk_catalogue.specs.VerticalCut.{line_bound, line_bound_of, edges_on_lines, segments_of, touched}
use Rattle.bk_walk_cuts.proofs.lined.LinedSkel.line_bound.Goals as goal

pub line_bound-requires-clause-long : goal.line_bound-requires-clause-long
line_bound-requires-clause-long c = omega (
  arith,
  sizes_long c.self.inside.skel c.self.invariant.lined.legal,
  ap length c.sizes.ensures,
  ap length c.signs.ensures,
)

pub line_bound-requires-clause-enough : goal.line_bound-requires-clause-enough
line_bound-requires-clause-enough c = omega (arith, sum-map_length (outline_of c.self.inside.skel).segments, ap sum c.sizes.ensures, ap length c.ends.ensures)

pub returns : goal.returns
returns c =
    let lines_are : c.deref.result.now ≡ edges_on_lines c.self.inside.skel = c.deref.ensures.0 ∙ c.self.invariant.lined.lines_are in
    c.line_bound.ensures ∙ (λ i. line_bound (c.signs.ensures i)
    (touched (lines_are i) (segments_of (c.sizes.ensures i) (c.ends.ensures i)))) ∙ line_bound_by_lists c.self.inside.skel ∙ ap line_bound_of c.self.view_is
