-- When what a leaf places is a tiling.
-- Examples (FoundExamples): the squares of the rectangle 3x2 in another order are a placement of it, and those of its
-- mirror image are not. Where nothing is found, no tiling is.
use Rattle.std.specs.Prelude.{Option, Some, ◌≡◌}
use Rattle.bk_tiling.specs.CodeOrder.{in_code_order}
use Rattle.bk_tiling.specs.Refusal.{IsAccepted}
use Rattle.bk_tiling.specs.Tiling.{Tiling}
use Rattle.bk_found.specs.declared.placing.Placed.{Placed}

-- the rectangle is the tiling's, and the squares are its squares in some order
pub record IsPlacementOf (t : Tiling) (p : Placed) : Type 0 where
  pub width : p.width ≡ t.width
  pub height : p.height ≡ t.height
  pub accepted : IsAccepted p.width p.height p.squares.items
  pub squares : in_code_order p.squares.items ≡ t.squares

-- what is found is a placement of the tiling
abbrev pub IsFound : Tiling → Option Placed → Type 0
IsFound t found = (p : Placed) × (found ≡ Some p) × IsPlacementOf t p
