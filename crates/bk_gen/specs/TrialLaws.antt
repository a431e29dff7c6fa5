-- Trial codes are codes of tilings. A statement alone; it is proved apart.
-- Example (TrialExamples): that of seed 0 at place 0 has 200 sides, as many as a tiling may have squares.
use Rattle.std.specs.Prelude.{ℕ}
use Rattle.bk_tiling.specs.KeptTiling.{IsKept}
use Rattle.bk_gen.specs.TrialCodes.{mixed, trial_tiling}

-- each trial code is the code of a tiling of at most 200 squares, none too large
abbrev pub EachSampleHasATiling : Type 0
EachSampleHasATiling = (seed k : ℕ) → IsKept (trial_tiling (mixed seed k))
