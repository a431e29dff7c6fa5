use Rattle.std.proofs.Common.{[], ap, sym, ◌∙◌}
use Rattle.std.proofs.lemmas.List.{get_or-map}
use Rattle.bk_sym.specs.Image.{image}
use Rattle.bk_sym.specs.Turns.{turns}
use Rattle.bk_sym.specs.declared.Turn.{Turn}
use Rattle.bk_sym.specs.declared.Turn.TheVariants.{Same}
use Rattle.bk_report.specs.Answers.{tiling_line}
use Rattle.bk_answer.proofs.PieceByPiece.{pieces_written_where_none_is_left, pieces_written_with_one_more, written_part}
use Rattle.bk_answer.proofs.Failing.{cause-of_error_later}
use Rattle.bk_laws.proofs.Outcomes.{on_err-intro}
use Rattle.bk_answer.proofs.images_and_drawing.write_images.Goals as goal
use Rattle.bk_answer.specs.Telling.{image_lines}

pub returns-in_err-write_all-clause-failed : goal.returns-in_err-write_all-clause-failed
returns-in_err-write_all-clause-failed g c =
    on_err-intro c.from_residual.result
    (written_part (image_lines c.args.tiling.now) c.loop-which.which-index c.as_slice.result.now
    (g.O.Sink.written c.args.out.now) (g.O.Sink.written c.loop-which.out) (g.O.Sink.written c.write_all.new.self)
    c.loop-which-test.true
    (c.as_slice.ensures.value ∙ c.write_tiling.ensures ∙ ap tiling_line c.image.ensures.value
    ∙ sym (get_or-map (λ (turn : Turn). tiling_line (image turn c.args.tiling.now)) turns c.loop-which.which-index Same [] c.loop-which-test.true))
    c.loop-which.invariant.0 c.in_err-write_all.ensures.err)

pub returns-in_err-write_all-clause-cause : goal.returns-in_err-write_all-clause-cause
returns-in_err-write_all-clause-cause g c =
    cause-of_error_later _ c.from_residual.result c.from_residual.ensures.1 c.loop-which.invariant.1 c.in_err-write_all.ensures.cause

pub loop-which-preserved : goal.loop-which-preserved
loop-which-preserved g c = (
  pieces_written_with_one_more (image_lines c.args.tiling.now) c.loop-which.which-index c.as_slice.result.now
      (g.O.Sink.written c.args.out.now) (g.O.Sink.written c.loop-which.out) (g.O.Sink.written c.write_all.new.self)
      c.loop-which-test.true
      (c.as_slice.ensures.value ∙ c.write_tiling.ensures ∙ ap tiling_line c.image.ensures.value
      ∙ sym (get_or-map (λ (turn : Turn). tiling_line (image turn c.args.tiling.now)) turns c.loop-which.which-index Same [] c.loop-which-test.true))
      c.loop-which.invariant.0 c.in_ok-write_all.ensures.ok,
  c.in_ok-write_all.ensures.cause.ok ∙ c.loop-which.invariant.1,
)

pub returns-clause-written : goal.returns-clause-written
returns-clause-written g c =
    pieces_written_where_none_is_left (image_lines c.args.tiling.now) c.loop-which.which-index (g.O.Sink.written c.args.out.now)
    (g.O.Sink.written c.loop-which.out)
    c.loop-which-test.false c.loop-which.invariant.0
