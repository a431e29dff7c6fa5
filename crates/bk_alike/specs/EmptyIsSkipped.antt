-- An empty line has no item, and changes nothing.
use Rattle.std.proofs.Common.{arith}
use Rattle.std.specs.Prelude.{[], false, ℕ, ◌+◌, ◌<◌}
use Rattle.bk_answer.specs.EmptyLine.{empty_has_none}
use Rattle.bk_alike.specs.Listed.{Listed, ListsLine, skipped}

-- an empty line has no item, and a listing is after it as it was before
pub empty_is_skipped : (s : Listed) (number : ℕ) → ListsLine s number [] (record { pieces = []; refused = false }) s
empty_is_skipped s number = skipped empty_has_none

-- where fewer lines are refused than the number of a line says, they are fewer than the next number says
pub refused_below_next : (s : Listed) (number : ℕ) → s.refused < number → s.refused < number + 1
refused_below_next s number h = omega arith
