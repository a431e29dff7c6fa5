use Rattle.std.proofs.Common.{take, ◌≡◌}
use Rattle.bk_packed.specs.Packed.{word_digits}
use Rattle.bk_packed.proofs.packed.digits_of.Given as goal

abbrev pub invariant-moves : goal.invariant-moves
invariant-moves l = l.digits.items ≡ word_digits (take l.i l.word)
