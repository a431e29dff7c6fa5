-- What two tilings make that are laid together. A statement alone; it is proved apart.
-- Example (PairExamples): [2,1][1] and itself, which can be laid together, make a squared square of side 5.
use Rattle.std.specs.Prelude.{◌≡◌}
use Rattle.bk_tiling.specs.KeptTiling.{IsKept}
use Rattle.bk_tiling.specs.Tiling.{IsTiling, Tiling}
use Rattle.bk_simple.specs.Simple.{IsPerfect}
use Rattle.bk_pair.specs.Pair.{ArePair, CanBeLaid, joined_square}

-- a squared square: a tiling that is as high as wide. It is one that a `Tiling` of the code can be
pub record IsSquaredSquare (t : Tiling) : Type 0 where
  pub kept : IsKept t
  pub square : t.height ≡ t.width

-- two tilings that can be laid together make a squared square, and a pair makes a perfect one
abbrev pub APairMakesASquare : Type 0
APairMakesASquare = (a b : Tiling) → IsTiling a → IsTiling b
    → (CanBeLaid a b → IsSquaredSquare (joined_square a b))
    × (ArePair a b → IsSquaredSquare (joined_square a b) × IsPerfect (joined_square a b))
