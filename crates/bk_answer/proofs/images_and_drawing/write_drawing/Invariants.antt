use Rattle.std.proofs.Common.{◌≡◌}
use Rattle.bk_answer.proofs.PieceByPiece.{AreWritten}
use Rattle.bk_answer.proofs.images_and_drawing.write_drawing.Given as goal
use Rattle.bk_answer.specs.Telling.{drawing_lines}

abbrev pub invariant-loop-y : goal.invariant-loop-y
invariant-loop-y g l =
    AreWritten (drawing_lines l.fn.tiling) l.y (g.O.Sink.written l.fn.out) (g.O.Sink.written l.out)
    × (g.O.Sink.faults l.out ≡ g.O.Sink.faults l.fn.out)
