use Rattle.std.proofs.Common.{List, [], arith, subst, sym, ℕ, ◌+◌, ◌++◌, ◌<◌, ◌∙◌, ◌∷◌, ◌≤◌}
use Rattle.std.proofs.lemmas.List.FromFn.{get_or-map-range_with_len, length-map-range_with_len}
use Rattle.bk_tiling.specs.Tiling.{Tiling}
use Rattle.bk_draw.specs.Drawing.{drawing_row}
use Rattle.bk_answer.proofs.PieceByPiece.{pieces_written_where_none_is_left, pieces_written_with_one_more, written_part}
use Rattle.bk_answer.proofs.Failing.{cause-of_error_later}
use Rattle.bk_laws.proofs.Outcomes.{on_err-intro}
use Rattle.bk_answer.proofs.images_and_drawing.write_drawing.Goals as goal
use Rattle.bk_answer.specs.Telling.{drawing_lines}

abbrev row_line : Tiling → ℕ → List ℕ
row_line t y = drawing_row t y ++ 10 ∷ []

pub returns-in_err-write_all-clause-failed : goal.returns-in_err-write_all-clause-failed
returns-in_err-write_all-clause-failed g c =
    on_err-intro c.from_residual.result
    (written_part (drawing_lines c.args.tiling.now) c.loop-y.y c.as_slice.result.now
    (g.O.Sink.written c.args.out.now) (g.O.Sink.written c.loop-y.out) (g.O.Sink.written c.write_all.new.self)
    (subst (λ (n : ℕ). c.loop-y.y < n) (sym (length-map-range_with_len (row_line c.args.tiling.now) 0 (c.args.tiling.now.height + 1)))
    (subst (λ (n : ℕ). c.loop-y.y < n + 1) c.height-y-end.ensures.value c.loop-y-test.true))
    (c.as_slice.ensures.value ∙ c.draw_row.ensures
    ∙ sym (get_or-map-range_with_len (row_line c.args.tiling.now) 0 (c.args.tiling.now.height + 1) c.loop-y.y c.loop-y.y []
    (subst (λ (n : ℕ). c.loop-y.y < n + 1) c.height-y-end.ensures.value c.loop-y-test.true) (omega arith)))
    c.loop-y.invariant.0 c.in_err-write_all.ensures.err)

pub returns-in_err-write_all-clause-cause : goal.returns-in_err-write_all-clause-cause
returns-in_err-write_all-clause-cause g c =
    cause-of_error_later _ c.from_residual.result c.from_residual.ensures.1 c.loop-y.invariant.1 c.in_err-write_all.ensures.cause

pub loop-y-preserved : goal.loop-y-preserved
loop-y-preserved g c = (
  pieces_written_with_one_more (drawing_lines c.args.tiling.now) c.loop-y.y c.as_slice.result.now
      (g.O.Sink.written c.args.out.now) (g.O.Sink.written c.loop-y.out) (g.O.Sink.written c.write_all.new.self)
      (subst (λ (n : ℕ). c.loop-y.y < n) (sym (length-map-range_with_len (row_line c.args.tiling.now) 0 (c.args.tiling.now.height + 1)))
      (subst (λ (n : ℕ). c.loop-y.y < n + 1) c.height-y-end.ensures.value c.loop-y-test.true))
      (c.as_slice.ensures.value ∙ c.draw_row.ensures
      ∙ sym (get_or-map-range_with_len (row_line c.args.tiling.now) 0 (c.args.tiling.now.height + 1) c.loop-y.y c.loop-y.y []
      (subst (λ (n : ℕ). c.loop-y.y < n + 1) c.height-y-end.ensures.value c.loop-y-test.true) (omega arith)))
      c.loop-y.invariant.0 c.in_ok-write_all.ensures.ok,
  c.in_ok-write_all.ensures.cause.ok ∙ c.loop-y.invariant.1,
)

pub returns-clause-written : goal.returns-clause-written
returns-clause-written g c =
    pieces_written_where_none_is_left (drawing_lines c.args.tiling.now) c.loop-y.y (g.O.Sink.written c.args.out.now) (g.O.Sink.written c.loop-y.out)
    (subst (λ (n : ℕ). n ≤ c.loop-y.y) (sym (length-map-range_with_len (row_line c.args.tiling.now) 0 (c.args.tiling.now.height + 1)))
    (subst (λ (n : ℕ). n + 1 ≤ c.loop-y.y) c.height-y-end.ensures.value c.loop-y-test.false))
    c.loop-y.invariant.0
