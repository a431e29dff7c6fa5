-- Members of small orders have small sides. A statement alone; it is proved apart.
-- Example (SmallExamples): the row of two squares of side 1 is a small tiling; a single square of side 2^34 + 1 is not.
use Rattle.std.specs.List.{AllByRecursion}
use Rattle.std.specs.Prelude.{ℕ, ◌≤◌}
use Rattle.bk_tiling.specs.KeptTiling.{IsKept}
use Rattle.bk_tiling.specs.Tiling.{Tiling}
use Rattle.bk_word.specs.declared.Class.{Class}
use Rattle.bk_word.specs.declared.TheConstants.{LARGEST_LISTED_ORDER}
use Rattle.bk_flow.specs.declared.TheConstants.{LARGEST_SMALL_CURRENT}
use Rattle.bk_catalogue.specs.Catalogue.{IsMember}

-- the size and the sides are at most 2^34, as the currents of a small net are, and so the tiling is one that a `Tiling`
-- of the code can be
pub record IsSmallTiling (t : Tiling) : Type 0 where
  pub width : t.width ≤ LARGEST_SMALL_CURRENT
  pub height : t.height ≤ LARGEST_SMALL_CURRENT
  pub sides : AllByRecursion (λ q. q.s ≤ LARGEST_SMALL_CURRENT) t.squares
  pub kept : IsKept t

-- a member of at most 16 squares is a small tiling. Of order 2 and the class imperfect it is the row of two squares of
-- side 1
abbrev pub MembersAreSmall : Type 0
MembersAreSmall = (n : ℕ) (class : Class) (t : Tiling) → n ≤ LARGEST_LISTED_ORDER → IsMember n class t → IsSmallTiling t
