use Rattle.bk_draw.proofs.Rows.{drawn_over-more}
use Rattle.bk_tiling.specs.declared.Square.{Square}
use Rattle.bk_draw.proofs.draw_squares.Goals as goal

pub loop-q-preserved : goal.loop-q-preserved
loop-q-preserved c =
    let d : Square = record { x = 0; y = 0; s = 0 } in
    drawn_over-more c.squares-q-items.result.now c.loop-q.q-index d c.args.y c.loop-q.points c.draw_square.new.points c.loop-q-test.true
    c.draw_square.auto.points c.loop-q.invariant c.draw_square.ensures
