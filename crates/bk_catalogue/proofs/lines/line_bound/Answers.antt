use Rattle.std.proofs.Common.{arith, ◌+◌}
use Rattle.bk_catalogue.proofs.HangingBounds.LineCounting.{last_within, lined_above, lined_end, lined_even, lined_start, lined_under, two_within}
use Rattle.bk_catalogue.proofs.lines.line_bound.Goals.{in-Above, in-Even, in-Under}
use Rattle.bk_catalogue.proofs.lines.line_bound.Goals as goal

pub loop-i-init : goal.loop-i-init
loop-i-init c = lined_start c.args.signs.now c.args.sizes.now c.args.ends.now c.args.lines.now c.requires.long c.requires.enough

pub line_closing-requires : goal.line_closing-requires
line_closing-requires c = two_within c.args.signs.now c.args.sizes.now c.args.ends.now c.args.lines.now c.requires.long c.loop-i.i c.loop-i.start
    c.loop-i-test.true c.loop-i.most c.loop-i.aboves c.loop-i.invariant

pub overflow_add-aboves : goal.overflow_add-aboves
overflow_add-aboves c = omega (arith, c.loop-i.invariant.few, c.line_closing.ensures.few)

pub overflow_add-aboves-in-Above : goal.overflow_add-aboves-in-Above
overflow_add-aboves-in-Above c = omega (arith, c.loop-i.invariant.few)

pub overflow_add-most : goal.overflow_add-most
overflow_add-most c = omega (arith, c.max-most.ensures, c.loop-i.invariant.few, c.loop-i.invariant.low, c.line_closing.ensures.few)

pub overflow_add-start : goal.overflow_add-start
overflow_add-start c = omega (
  arith,
  c.from-start.ensures,
  two_within c.args.signs.now c.args.sizes.now c.args.ends.now c.args.lines.now c.requires.long c.loop-i.i c.loop-i.start c.loop-i-test.true
      c.loop-i.most c.loop-i.aboves c.loop-i.invariant,
)

pub loop-i-preserved : goal.loop-i-preserved
loop-i-preserved c =
    let l = c.loop-i in
    let h = c.loop-i-test.true in
    elim c.match-sign.branch [
      | in-Above w ↦ lined_above c.args.signs.now c.args.sizes.now c.args.ends.now c.args.lines.now c.requires.long l.i l.start h l.most
          l.aboves c.match-sign.most c.max-most.result c.match-sign.aboves (l.start + c.from-start.result)
          l.invariant (omega (arith, c.max-most.ensures, c.line_closing.ensures.touched)) (omega (arith, c.from-start.ensures))
          w.in-Above.is w.most-is w.aboves-is
      | in-Even w ↦ lined_even c.args.signs.now c.args.sizes.now c.args.ends.now c.args.lines.now c.requires.long l.i l.start h l.most
          l.aboves c.match-sign.most c.max-most.result c.match-sign.aboves (l.start + c.from-start.result)
          l.invariant (omega (arith, c.max-most.ensures, c.line_closing.ensures.touched)) (omega (arith, c.from-start.ensures))
          w.in-Even.is w.most-is w.aboves-is
      | in-Under w ↦ lined_under c.args.signs.now c.args.sizes.now c.args.ends.now c.args.lines.now c.requires.long l.i l.start h l.most
          l.aboves c.match-sign.most c.max-most.result c.match-sign.aboves (l.start + c.from-start.result)
          l.invariant (omega (arith, c.max-most.ensures, c.line_closing.ensures.touched)) (omega (arith, c.from-start.ensures))
          w.in-Under.is w.most-is w.aboves-is
    ]

pub line_closing-requires-2 : goal.line_closing-requires-2
line_closing-requires-2 c = omega (
  arith,
  last_within c.args.signs.now c.args.sizes.now c.args.ends.now c.args.lines.now c.requires.long c.loop-i.i
      c.loop-i.start c.loop-i.most c.loop-i.aboves (omega arith) c.loop-i.invariant,
)

pub overflow_add-aboves-2 : goal.overflow_add-aboves-2
overflow_add-aboves-2 c = omega (arith, c.loop-i.invariant.few, c.line_closing-2.ensures.few)

pub returns : goal.returns
returns c = lined_end c.args.signs.now c.args.sizes.now c.args.ends.now c.args.lines.now c.requires.long c.loop-i.i c.loop-i.start
    c.loop-i.most c.loop-i.aboves (omega arith) c.loop-i.invariant c.max.result c.line_closing-2.result c.line_closing-2.ensures.touched c.max.ensures

pub bounds-signs-i : goal.bounds-signs-i
bounds-signs-i c = c.loop-i-test.true

pub bounds-sizes-i : goal.bounds-sizes-i
bounds-sizes-i c = omega (arith, c.loop-i-test.true, c.requires.long)

pub overflow_add-i : goal.overflow_add-i
overflow_add-i c = omega arith

pub bounds-sizes-i-in-loop-i : goal.bounds-sizes-i-in-loop-i
bounds-sizes-i-in-loop-i c = omega (arith, c.loop-i-test.true, c.requires.long)

pub bounds-sizes-i-in-loop-i-2 : goal.bounds-sizes-i-in-loop-i-2
bounds-sizes-i-in-loop-i-2 c = omega (arith, c.loop-i-test.true, c.requires.long)

pub bounds-sizes-signs : goal.bounds-sizes-signs
bounds-sizes-signs c = omega (arith, c.requires.long)
