-- What is asked of a tiling for itself, and of two tilings for their sides, where they join to a perfect square.
-- Example (PairExamples): [2,1][1] has the side 1 twice, and the rectangle 33x32 stands apart; both have a side 1.
use Rattle.std.specs.Prelude.{Bool, List, [], count_by, max, ℕ, ◌++◌, ◌+◌, ◌==◌, ◌∷◌, ◌≢◌, ◌≤◌, ◌↔◌}
use Rattle.bk_tiling.specs.Tiling.{Tiling, order, sides_of}
use Rattle.bk_tiling.specs.declared.TheConstants.{LONGEST_SIDE, MOST_SQUARES}
use Rattle.bk_tiling.specs.declared.Square.{Square}
use Rattle.bk_simple.specs.Simple.{IsPerfect}
use Rattle.bk_pair.specs.Pair.{AreOneSize, ArePair}
use Rattle.bk_pair.specs.PairTest.{no_twice}

-- the sides of a tiling, its width and its height
abbrev pub own_sides : Tiling → List ℕ
own_sides t = sides_of t ++ t.width ∷ t.height ∷ []

-- no side of a tiling, its width and its height among them, stands twice, so the tiling may join with others
abbrev pub stands_apart : Tiling → Bool
stands_apart t = no_twice (own_sides t)

-- some of the squares has this side
abbrev pub HasSide : List Square → ℕ → Type 0
HasSide squares side = 1 ≤ count_by (λ q. q.s == side) squares

-- some side occurs among both
pub record HaveCommonSide (ps qs : List Square) : Type 0 where
  pub side : ℕ
  pub in_first : HasSide ps side
  pub in_second : HasSide qs side

-- the conditions of a pair: the two are of one size that is no square's, both are perfect, they have no side in common
-- and neither has one that is the width or the height; they have at most 198 squares together; the longer of width and
-- height is one that a square may have as its side
pub record MeetConditions (a b : Tiling) : Type 0 where
  pub size : AreOneSize a b
  pub oblong : a.width ≢ a.height
  pub first_perfect : IsPerfect a
  pub second_perfect : IsPerfect b
  pub no_common : ¬ (HaveCommonSide a.squares b.squares)
  pub first_not_width : ¬ (HasSide a.squares a.width)
  pub first_not_height : ¬ (HasSide a.squares a.height)
  pub second_not_width : ¬ (HasSide b.squares a.width)
  pub second_not_height : ¬ (HasSide b.squares a.height)
  pub few : order a + order b + 2 ≤ MOST_SQUARES
  pub short : max a.width a.height ≤ LONGEST_SIDE

-- two tilings join to a perfect square exactly where they meet the conditions of a pair: a statement alone, which is
-- proved apart
abbrev pub PairsByConditions : Type 0
PairsByConditions = (a b : Tiling) → ArePair a b ↔ MeetConditions a b
