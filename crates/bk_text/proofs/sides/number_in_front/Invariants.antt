use Rattle.std.specs.Prelude.{take}
use Rattle.bk_text.specs.Onward.{SpellOn}
use Rattle.bk_text.proofs.sides.number_in_front.Given as goal

abbrev pub invariant-loop-i : goal.invariant-loop-i
invariant-loop-i l = SpellOn l.greatest (take l.i l.bytes) 0 l.number
