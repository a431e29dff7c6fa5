use Rattle.std.proofs.Common.{[], ap, refl, ◌∙◌, ◌∷◌}
use Rattle.bk_report.specs.Answers.{dual_line, net_line}
use Rattle.bk_answer.specs.Telling.{IsAnswerTo, drawing_lines, image_lines}
use Rattle.bk_answer.specs.declared.command.Command.TheVariants.{Plain}
use Rattle.bk_answer.specs.declared.plain.PlainCommand.TheVariants.{Canon, Check, Draw, Dual, Images, Net}
use Rattle.bk_answer.proofs.Writing.{by_command, line_by_command, piece_told, pieces_told}
use Rattle.bk_answer.proofs.plain.PlainCommand.tell.Goals as goal
use Rattle.bk_answer.proofs.plain.PlainCommand.tell.Goals.{in-Canon, in-Check, in-Dual, in-Net}

pub returns-clause-reply : goal.returns-clause-reply
returns-clause-reply g c =
    let line = c.match-self.buffer.items in
    let t = c.args.tiling.now in
    let told : IsAnswerTo (Plain c.args.self) t (line ∷ []) = elim c.match-self.branch [
      | in-Check w ↦ line_by_command c.args.self Check t line w.write_check.new.out.items w.in-Check.is (ap (λ b. b.items) w.buffer-is)
          (w.write_check.new.out.items, w.write_check.ensures, refl)
      | in-Canon w ↦ line_by_command c.args.self Canon t line w.write_canonical.new.buffer.items w.in-Canon.is (ap (λ b. b.items) w.buffer-is)
          (w.write_canonical.ensures.0, w.write_canonical.ensures.1, ap (λ l. l ∷ []) w.write_canonical.ensures.2)
      | in-Net w ↦ line_by_command c.args.self Net t line (net_line t) w.in-Net.is
          (ap (λ b. b.items) w.buffer-is ∙ w.write_net.ensures) refl
      | in-Dual w ↦ line_by_command c.args.self Dual t line (dual_line t) w.in-Dual.is
          (ap (λ b. b.items) w.buffer-is ∙ w.write_dual.ensures.line) refl
    ] in
    piece_told (Plain c.args.self) c.args.tiling.now ⊥ (g.O.Sink.written c.args.out.now) (g.O.Sink.written c.write_all.new.self) line
    c.as_slice.result.now c.write_all.result c.accepted-2.result told c.as_slice.ensures.value c.write_all.ensures.ok c.write_all.ensures.err
    c.accepted-2.ensures

pub returns-in-Images-clause-reply : goal.returns-in-Images-clause-reply
returns-in-Images-clause-reply g c =
    pieces_told (Plain c.args.self) c.args.tiling.now ⊥ (g.O.Sink.written c.args.out.now) (g.O.Sink.written c.write_images.new.out)
    (image_lines c.args.tiling.now) c.write_images.result c.accepted.result
    (by_command c.args.self Images c.args.tiling.now (image_lines c.args.tiling.now) c.in-Images.is refl)
    c.write_images.ensures.written c.write_images.ensures.failed c.accepted.ensures

pub returns-in-Draw-clause-reply : goal.returns-in-Draw-clause-reply
returns-in-Draw-clause-reply g c =
    pieces_told (Plain c.args.self) c.args.tiling.now ⊥ (g.O.Sink.written c.args.out.now) (g.O.Sink.written c.write_drawing.new.out)
    (drawing_lines c.args.tiling.now) c.write_drawing.result c.accepted-in-Draw.result
    (by_command c.args.self Draw c.args.tiling.now (drawing_lines c.args.tiling.now) c.in-Draw.is refl)
    c.write_drawing.ensures.written c.write_drawing.ensures.failed c.accepted-in-Draw.ensures
