-- An empty line is passed over, and the counts stay below the number of the line.
use Rattle.std.proofs.Common.{[], arith, false, ℕ, ◌+◌}
use Rattle.bk_answer.specs.EmptyLine.{empty_has_none}
use Rattle.bk_verify_report.specs.ListLine.{CountsAreBelow, EntersLine, no_item}
use Rattle.bk_verify_report.specs.declared.entering.Verifying.{Verifying}

-- an empty line has no item, and what is verified is after it as it was before
pub empty_is_passed_over : (s : Verifying) (n : ℕ) → EntersLine s n [] (record { pieces = []; refused = false }) s
empty_is_passed_over s n = no_item empty_has_none

-- counts that are below the number of a line are below the number of the next line
pub counts_below_next : (s : Verifying) (n : ℕ) → CountsAreBelow s n → CountsAreBelow s (n + 1)
counts_below_next s n below =
    let a = below.foreign in
    let b = below.repeated in
    let c = below.refused in
    record { foreign = omega (arith, a); repeated = omega (arith, b); refused = omega (arith, c) }
