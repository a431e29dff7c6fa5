use Rattle.std.proofs.Common.{map, ◌≡◌}
use Rattle.bk_sym.specs.Image.{image}
use Rattle.bk_report.specs.Answers.{tiling_line}
use Rattle.bk_answer.proofs.PieceByPiece.{AreWritten}
use Rattle.bk_answer.proofs.images_and_drawing.write_images.Given as goal

abbrev pub invariant-loop-which : goal.invariant-loop-which
invariant-loop-which g l =
    AreWritten (map (λ turn. tiling_line (image turn l.fn.tiling)) l.which-items) l.which-index (g.O.Sink.written l.fn.out) (g.O.Sink.written l.out)
    × (g.O.Sink.faults l.out ≡ g.O.Sink.faults l.fn.out)
