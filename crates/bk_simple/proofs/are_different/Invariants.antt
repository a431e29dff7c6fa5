use Rattle.std.proofs.Common.{length, ◌≡◌}
use Rattle.bk_simple.proofs.DifferentNumbers.{AreMarkedTo, AreNumbersApartTo}
use Rattle.bk_simple.proofs.are_different.Given as goal

abbrev pub invariant-loop-i : goal.invariant-loop-i
invariant-loop-i l = record {
  long : length l.marked ≡ 256;
  apart : AreNumbersApartTo l.numbers l.i;
  marked : AreMarkedTo l.marked l.numbers l.i;
}
