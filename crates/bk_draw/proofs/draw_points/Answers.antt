use Rattle.std.proofs.Common.{ap, arith, ◌∙◌}
use Rattle.std.specs.Prelude.{slice_index}
use Rattle.bk_draw.proofs.Rows.{between-more}
use Rattle.bk_draw.specs.Mark.{seen}
use Rattle.bk_draw.proofs.draw_points.Goals as goal

pub loop-x-preserved : goal.loop-x-preserved
loop-x-preserved c =
    between-more c.args.q c.args.y c.args.from c.loop-x.x c.args.points.now c.loop-x.points c.seen.result c.loop-x.invariant c.loop-x.auto.x
    (omega (arith, c.requires.within, c.loop-x-test.true)) c.loop-x.auto.points
    (c.seen.ensures ∙ ap (seen (slice_index c.loop-x.points c.loop-x.x)) c.mark_of.ensures)
