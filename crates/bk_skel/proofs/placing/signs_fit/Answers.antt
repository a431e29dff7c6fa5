use Rattle.std.proofs.lemmas.Grind.{common_steps}
use Rattle.std.proofs.Common.{arith, rules}
use Rattle.bk_skel.proofs.PlacingLists.{signs_done}
use Rattle.bk_word_net.specs.LaidOutline.{bottom_at}
use Rattle.bk_skel.proofs.placing.signs_fit.Goals as goal

pub returns : goal.returns
returns c = (
  λ h. c.loop-i.invariant.back (signs_done (bottom_at c.args.laid.now) c.args.signs.now c.args.numbers.now c.loop-i.i c.loop-i-test.false
      c.loop-i.auto.i-end c.requires.count),
  λ h. search rules,
)

pub bottom_of-left-requires-clause-known : goal.bottom_of-left-requires-clause-known
bottom_of-left-requires-clause-known c = grind (arith, common_steps)

pub bottom_of-left-requires-clause-low : goal.bottom_of-left-requires-clause-low
bottom_of-left-requires-clause-low c = grind (arith, common_steps)

pub bottom_of-right-requires-clause-known : goal.bottom_of-right-requires-clause-known
bottom_of-right-requires-clause-known c = grind (arith, common_steps)

pub bottom_of-right-requires-clause-low : goal.bottom_of-right-requires-clause-low
bottom_of-right-requires-clause-low c = grind (arith, common_steps)

pub returns-then-ne : goal.returns-then-ne
returns-then-ne c = grind (arith, common_steps)

pub loop-i-preserved : goal.loop-i-preserved
loop-i-preserved c = grind (arith, common_steps)
