use Rattle.std.proofs.Common.{arith}
use Rattle.bk_sym.proofs.FirstSide.{begins_with}
use Rattle.bk_sym.proofs.first_side.Goals as goal

pub returns-then-comes_first : goal.returns-then-comes_first
returns-then-comes_first c =
    begins_with c.args.tiling.now c.args.turn c.squares-q-items.result.now c.width-width.result c.height-height.result c.loop-q.q-index
    (record { x = 0; y = 0; s = 0 }) c.squares-q-items.ensures.kept.tiling c.squares-q-items.ensures.value c.width-width.ensures.value
    c.height-height.ensures.value
    (record {
      within = omega (arith, c.loop-q-test.true);
      corner = c.comes_first.ensures c.if-comes_first.true;
    })
