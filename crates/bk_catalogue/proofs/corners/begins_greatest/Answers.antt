use Rattle.std.proofs.Common.{arith}
use Rattle.bk_catalogue.proofs.Members.QuickTests.{not_greatest}
use Rattle.bk_catalogue.proofs.corners.begins_greatest.Goals as goal

pub returns-then-is_at_wall-2 : goal.returns-then-is_at_wall-2
returns-then-is_at_wall-2 c = λ e canonical.
    not_greatest c.args.tiling.now c.squares-squares.result.now c.width-width.result c.height-height.result c.loop-q.q-index
    (c.squares-squares.ensures.kept).tiling c.squares-squares.ensures.value c.width-width.ensures.value c.height-height.ensures.value
    (record {
      within = omega (arith, c.loop-q.auto.q-index-end, c.loop-q-test.true);
      longer = omega (arith, c.if-q-first.true);
      left_or_right = c.is_at_wall.ensures c.if-is_at_wall.true;
      top_or_bottom = c.is_at_wall-then-is_at_wall.ensures c.if-is_at_wall-2.true;
    }) canonical
