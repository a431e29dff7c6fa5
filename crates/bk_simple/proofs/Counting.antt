-- What is known of the squares that were looked at.
use Rattle.std.specs.Prelude.{List, count_by, take, ℕ, ◌≡◌}
use Rattle.bk_tiling.specs.Tiling.{Rectangle}
use Rattle.bk_tiling.specs.declared.Square.{Square}
use Rattle.bk_simple.specs.Border.{IsUncut, is_inside}

-- of the first k squares none lies across the border, and so many lie inside
pub record IsCountTo (r : Rectangle) (squares : List Square) (k inside : ℕ) : Type 0 where
  pub uncut : IsUncut r (take k squares)
  pub count : inside ≡ count_by (is_inside r) (take k squares)
