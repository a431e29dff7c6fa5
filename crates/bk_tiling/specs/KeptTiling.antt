-- Which tilings a `Tiling` of the code can be: those of at most 200 squares, none too large.
-- Example (TilingExamples): the rectangle 3x2 of squares 2, 1, 1 is one, and the squares of 33x32 in another order are
-- none; a square has no side of 10^15.
use Rattle.std.specs.List.{AllByRecursion}
use Rattle.std.specs.Prelude.{length, ℕ, ◌<◌, ◌^◌, ◌≤◌}
use Rattle.bk_tiling.specs.Tiling.{IsTiling, Tiling}
use Rattle.bk_tiling.specs.declared.TheConstants.{LONGEST_SIDE, MOST_SQUARES}

-- a side that a square may have
abbrev pub IsSide : ℕ → Type 0
IsSide s = (0 < s) × (s ≤ LONGEST_SIDE)

-- what holds of each `Tiling`
pub record IsKept (t : Tiling) : Type 0 where
  pub tiling : IsTiling t
  pub few : length t.squares ≤ MOST_SQUARES
  pub sides : AllByRecursion (λ q. IsSide q.s) t.squares
  -- its size fits the types of the code
  pub width_fits : t.width < 2 ^ 64
  pub height_fits : t.height < 2 ^ 64
