use Rattle.std.proofs.Common.{arith}
use Rattle.bk_sym.proofs.FirstSide.{begins_shorter_at_most}
use Rattle.std.proofs.lemmas.Bool.{false≢true}
use Rattle.bk_sym.proofs.begins_shorter.Goals as goal

pub returns-then-comes_first : goal.returns-then-comes_first
returns-then-comes_first c = λ _. begins_shorter_at_most c.args.tiling.now c.args.other.now c.args.turn c.squares-q-items.result.now c.squares.result.now
    c.width-width.result c.height-height.result c.loop-q.q-index (record { x = 0; y = 0; s = 0 }) (record { x = 0; y = 0; s = 0 })
    (c.squares-q-items.ensures.kept).tiling (c.squares.ensures.kept).tiling c.squares-q-items.ensures.value c.squares.ensures.value
    c.width-width.ensures.value c.height-height.ensures.value
    (record {
      within = omega (arith, c.loop-q-test.true);
      shorter = omega (arith, c.if-q-first.true);
      corner = c.comes_first.ensures c.if-comes_first.true;
    })

pub returns : goal.returns
returns c = λ e. absurd (false≢true e)
