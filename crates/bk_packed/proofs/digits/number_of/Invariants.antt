use Rattle.std.proofs.Common.{drop, length, ◌≡◌, ◌≤◌}
use Rattle.bk_packed.specs.Packed.{begun_by}
use Rattle.bk_packed.proofs.digits.number_of.Given as goal

abbrev pub invariant-digits : goal.invariant-digits
invariant-digits l = record { within : l.i ≤ length l.digits; sum : l.number ≡ begun_by 64 (drop l.i l.digits) }
