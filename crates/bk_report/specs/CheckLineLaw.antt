-- A tiling has at most one line of `check`. A statement alone; it is proved apart.
-- Example (AnswerExamples): that of the rectangle 33x32 is `ok 9 33x32 perfect simple`.
use Rattle.std.specs.Prelude.{List, ℕ, ◌≡◌}
use Rattle.bk_tiling.specs.Tiling.{IsTiling, Tiling}
use Rattle.bk_report.specs.Answers.{IsCheckLine}

-- a tiling has one line of check
abbrev pub ATilingHasOneCheckLine : Type 0
ATilingHasOneCheckLine = (t : Tiling) (line other : List ℕ) → IsTiling t → IsCheckLine t line → IsCheckLine t other
    → line ≡ other
