use Rattle.std.specs.List.{concat, sum}
use Rattle.std.proofs.Common.{List, ap, arith, false, length, slice_index_or, subst, sym, ℕ, ◌∙◌, ◌≡◌}
use Rattle.bk_laws.proofs.Sums.{sum-map_length}
use Rattle.bk_word.specs.Outline.{sizes_of, start}
use Rattle.bk_word.specs.Play.{IsLegal, outline_of}
use Rattle.bk_word.specs.Word.{Word, order_of}
use Rattle.bk_word_net.proofs.Outlines.Shape.{hung_many}
use Rattle.bk_catalogue.proofs.HangingBounds.BoundsOfWords.{shape_of_word}
use Rattle.bk_catalogue.specs.VerticalCut.{edges_on_lines}
use Rattle.bk_layout.specs.WordNumbers.{first_count}
use Rattle.bk_free_search.proofs.Asks.OpenMarks.{filled_sizes, marks_again}
use Rattle.bk_layout.proofs.FreeCuts.CutByNodes.{as_many_lefts}
use Rattle.bk_free_search.proofs.Boards.OpenSquares.{open_squares-are_squares}
use Rattle.bk_free_search.proofs.Boards.TopLineMarks.{marks_of_lefts}
use Rattle.bk_free_search.specs.Strong.{AreFilled, marks_by_lists}
use Rattle.bk_free_search.specs.TopLines.{AreSquares, on_top_lines}
use Rattle.bk_free_search.proofs.marks.marks_of.Goals as goal

pub marks_in-requires-clause-whole : goal.marks_in-requires-clause-whole
marks_in-requires-clause-whole c =
    omega (arith, sum-map_length (outline_of c.skel-skel.result.now).segments, ap sum c.sizes.ensures, ap length c.ends.ensures)

pub marks_in-requires-clause-many : goal.marks_in-requires-clause-many
marks_in-requires-clause-many c = omega (
  arith,
  c.requires,
  ap length c.ends.ensures,
  (shape_of_word c.skel-skel.result.now c.skel-skel.ensures.legal).counted,
  hung_many start c.skel-skel.result.now,
  ap order_of c.skel-skel.ensures.value,
)

pub marks_in-requires-clause-filled : goal.marks_in-requires-clause-filled
marks_in-requires-clause-filled c = subst (λ (sizes : List ℕ). AreFilled sizes) (sym c.sizes.ensures)
    (filled_sizes (outline_of c.skel-skel.result.now).segments (shape_of_word c.skel-skel.result.now c.skel-skel.ensures.legal).filled)

pub marks_in-requires-clause-squares : goal.marks_in-requires-clause-squares
marks_in-requires-clause-squares c =
    let w = c.args.board.now in
    subst (λ (ends : List ℕ). AreSquares ends (length c.lefts.result.now))
    (sym (c.ends.ensures ∙ ap (λ (v : Word). concat (outline_of v).segments) c.skel-skel.ensures.value))
    (subst (λ k. AreSquares (concat (outline_of w).segments) k) (sym (ap length c.lefts.ensures ∙ as_many_lefts w)) (open_squares-are_squares w))

pub returns : goal.returns
returns c i has =
    let w = c.args.board.now in
    let legal = subst (λ (v : Word). IsLegal v) c.skel-skel.ensures.value c.skel-skel.ensures.legal in
    let lines : on_top_lines c.first.result c.lefts.result.now ≡ edges_on_lines w =
    (λ j. on_top_lines (c.first.ensures j) (c.lefts.ensures j)) ∙ sym (marks_of_lefts w legal) in
    sym ((λ j. slice_index_or (marks_by_lists (c.first.ensures j) (lines j)
    ((c.sizes.ensures ∙ ap (λ (v : Word). sizes_of (outline_of v)) c.skel-skel.ensures.value) j)
    ((c.ends.ensures ∙ ap (λ (v : Word). concat (outline_of v).segments) c.skel-skel.ensures.value) j)) i false)
    ∙ ap (λ l. slice_index_or l i false) (marks_again (first_count w) w)) ∙ c.marks_in.ensures i has
