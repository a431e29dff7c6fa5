use Rattle.std.proofs.Common.{Bool, List, ap, arith, false, inl, inr, rules, slice_index_or, subst, sym, true, ℕ, ◌+◌, ◌∙◌, ◌≡◌, ◌≤◌, ◌⊎◌}
use Rattle.std.specs.Bool.{IsTrue}
use Rattle.bk_free_search.proofs.Asks.OpenMarks.{IsAt, at_next, marked_there, segments_few}
use Rattle.bk_free_search.specs.Strong.{marks_by_lists}
use Rattle.bk_free_search.specs.TopLines.{HasOneFrom, on_top_lines}
use Rattle.bk_free_search.proofs.marks.marks_in.Goals as goal

is_true : (b : Bool) → b ≡ true → IsTrue b
is_true b e = search rules

pub with_place-marks-requires : goal.with_place-marks-requires
with_place-marks-requires c =
    omega (arith, c.segments-test.true, segments_few c.args.sizes.now c.requires.filled, c.requires.whole, c.requires.many)

pub segments-preserved : goal.segments-preserved
segments-preserved c =
    let lines : List Bool = on_top_lines c.args.top c.args.lefts.now in record {
      at = subst (λ (k : ℕ). IsAt c.args.top lines c.args.sizes.now c.args.ends.now (c.segments.i + 1) (c.segments.start + k)) (sym c.from-size.ensures)
          (at_next c.args.top lines c.args.sizes.now c.args.ends.now c.segments.i c.segments.start c.segments.invariant.at c.segments-test.true);
      only = λ j has. elim (c.with_place-marks.ensures j has) [
        | inl (e, m) ↦ ap (λ k. slice_index_or (marks_by_lists c.args.top lines c.args.sizes.now c.args.ends.now) k false) e
            ∙ marked_there c.args.top lines c.args.sizes.now c.args.ends.now c.segments.i c.segments.start c.segments.invariant.at c.segments-test.true
            c.places_on_lines-on_lines.result c.places_on_lines-on_lines.ensures c.requires.filled
            (subst (λ (k : ℕ). HasOneFrom c.places_on_lines-on_lines.result c.segments.start k ⊎ (c.args.top ≤ k)) c.from-size.ensures
            (c.is_marked.ensures (is_true c.is_marked.result m)))
        | inr h ↦ c.segments.invariant.only j h
      ];
    }
