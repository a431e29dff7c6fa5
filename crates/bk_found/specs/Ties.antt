-- Where counts of a word tie, corner squares tell which of two images is met.
-- Example (TiesExamples): the rectangle 3x2 of the squares 2, 1, 1 has as many squares at the bottom as at the top, and
-- fewer at the left than at the right.
use Rattle.std.specs.Prelude.{IsTrue, ◌≡◌}
use Rattle.bk_layout.specs.Normal.{Counts, IsHalf}
use Rattle.bk_found.specs.declared.ties.Ties.{Ties}

-- the counts tie where it is said
pub record AreTiesOf (c : Counts) (ties : Ties) : Type 0 where
  pub level : IsTrue ties.level → c.bottom ≡ c.top
  pub across : IsTrue ties.across → c.left ≡ c.right
  pub half : IsTrue ties.size → IsHalf c
  pub right : IsTrue ties.size → c.right ≡ c.top
  pub left : IsTrue ties.size → c.left ≡ c.bottom
