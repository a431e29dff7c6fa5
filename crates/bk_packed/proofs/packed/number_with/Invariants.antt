use Rattle.std.proofs.Common.{[], drop, length, ◌++◌, ◌∷◌, ◌≡◌, ◌≤◌}
use Rattle.bk_packed.specs.Packed.{packed}
use Rattle.bk_packed.proofs.packed.number_with.Given as goal

abbrev pub invariant-moves : goal.invariant-moves
invariant-moves l = record { within : l.i ≤ length l.skel; sum : l.number ≡ packed (drop l.i l.skel ++ l.m ∷ []) }
