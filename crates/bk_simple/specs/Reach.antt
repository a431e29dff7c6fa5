-- How far a rectangle can reach from its top left corner, where its border cuts no square.
-- Example (SimpleExamples): in [2,1][1] no rectangle from the top left corner of the second square goes past column 3,
-- the width.
use Rattle.std.specs.Prelude.{List, ℕ, ◌+◌, ◌≡◌, ◌≤◌}
use Rattle.bk_tiling.specs.Tiling.{Rectangle}
use Rattle.bk_tiling.specs.declared.Square.{Square}
use Rattle.bk_simple.specs.Border.{IsUncut}

-- each rectangle from the top left corner of p that ends at column `most` or before, and cuts none of the squares, ends
-- at column `end` or before
abbrev pub NoneWider : List Square → Square → ℕ → ℕ → Type 0
NoneWider squares p most end =
    (r : Rectangle) → r.x ≡ p.x → r.y ≡ p.y → IsUncut r squares → r.x + r.width ≤ most → r.x + r.width ≤ end

-- each rectangle from the top left corner of p that ends at level `most` or above, and cuts none of the squares, ends
-- at level `end` or above
abbrev pub NoneHigher : List Square → Square → ℕ → ℕ → Type 0
NoneHigher squares p most end =
    (r : Rectangle) → r.x ≡ p.x → r.y ≡ p.y → IsUncut r squares → r.y + r.height ≤ most → r.y + r.height ≤ end
