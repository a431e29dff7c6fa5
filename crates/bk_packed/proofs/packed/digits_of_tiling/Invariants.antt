use Rattle.std.proofs.Common.{length, ◌-◌}
use Rattle.bk_packed.proofs.LaidDigits.{HasLaidDigits}
use Rattle.bk_packed.proofs.packed.digits_of_tiling.Given as goal

abbrev pub invariant-moves : goal.invariant-moves
invariant-moves l = HasLaidDigits l.tiling l.laying l.digits.items

abbrev pub decreases-moves : goal.decreases-moves
decreases-moves l = 64 - length l.digits.items
