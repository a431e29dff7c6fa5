-- How two rectangles of one size are laid together to a square.
-- Example (PairExamples): [2,1][1] and itself make a square of side 5 with the sides 2, 1, 2, 1, 3, 2, 1, 1 in code
-- order.
use Rattle.std.specs.Prelude.{List, [], count_by, map, max, ℕ, ◌++◌, ◌+◌, ◌<◌, ◌==◌, ◌∷◌, ◌≡◌, ◌≢◌, ◌≤◌}
use Rattle.bk_tiling.specs.CodeOrder.{in_code_order}
use Rattle.bk_tiling.specs.Scale.{moved_square}
use Rattle.bk_tiling.specs.Tiling.{Tiling, order, sides_of}
use Rattle.bk_tiling.specs.declared.TheConstants.{LONGEST_SIDE, MOST_SQUARES}
use Rattle.bk_tiling.specs.declared.Square.{Square}
use Rattle.bk_sym.specs.Image.{image}
use Rattle.bk_sym.specs.declared.Turn.TheVariants.{Swap}
use Rattle.bk_pair.specs.declared.PairFault.{PairFault}
use Rattle.bk_pair.specs.declared.PairFault.TheVariants as faults

-- the two squares that fill the corners: one of side height at the right of the first rectangle, and one of side width
-- below it
abbrev pub corner_squares : Tiling → List Square
corner_squares a = record { x = a.width; y = 0; s = a.height } ∷ record { x = 0; y = a.height; s = a.width } ∷ []

-- the squares of two tilings of one size laid together: the first at the top left, the two squares beside it, and the
-- second, with columns and levels exchanged, at the bottom right
abbrev pub laid_squares : Tiling → Tiling → List Square
laid_squares a b = a.squares ++ (corner_squares a ++ map (moved_square a.width a.height) (image Swap b).squares)

-- the square of side width + height that two tilings of one size tile with two squares
abbrev pub joined_square : Tiling → Tiling → Tiling
joined_square a b = record {
  width = a.width + a.height;
  height = a.width + a.height;
  squares = in_code_order (laid_squares a b);
}

-- the two are of one size
pub record AreOneSize (a b : Tiling) : Type 0 where
  pub width : a.width ≡ b.width
  pub height : a.height ≡ b.height

-- two tilings can be laid together: they are of one size that is no square's, and the order and the sides of what they
-- make keep to the bounds of a tiling
pub record CanBeLaid (a b : Tiling) : Type 0 where
  pub size : AreOneSize a b
  pub oblong : a.width ≢ a.height
  pub few : order a + order b + 2 ≤ MOST_SQUARES
  pub wide : a.width ≤ LONGEST_SIDE
  pub high : a.height ≤ LONGEST_SIDE

-- all sides of what two tilings make, laid together
abbrev pub pair_sides : Tiling → Tiling → List ℕ
pair_sides a b = sides_of a ++ (sides_of b ++ a.width ∷ a.height ∷ [])

-- a side that occurs at least twice among those of what two tilings make
abbrev pub IsSharedSide : Tiling → Tiling → ℕ → Type 0
IsSharedSide a b side = 2 ≤ count_by (λ s. s == side) (pair_sides a b)

-- the least side that occurs at least twice among those of what two tilings make
pub record IsLeastShared (a b : Tiling) (side : ℕ) : Type 0 where
  pub shared : IsSharedSide a b side
  pub least : (other : ℕ) → IsSharedSide a b other → side ≤ other

-- why two tilings are not laid together: they are of two sizes, or of a square's, they have too many squares together,
-- or the greater of their width and height is too long for a side. The first cause counts
abbrev pub IsLayingFault : Tiling → Tiling → PairFault → Type 0
IsLayingFault a b faults.Size = ¬ (AreOneSize a b)
IsLayingFault a b faults.Square = AreOneSize a b × (a.width ≡ a.height)
IsLayingFault a b (faults.Many n) = AreOneSize a b × (a.width ≢ a.height) × (n ≡ order a + order b + 2)
    × (MOST_SQUARES < n)
IsLayingFault a b (faults.Long side) = AreOneSize a b × (a.width ≢ a.height) × (order a + order b + 2 ≤ MOST_SQUARES)
    × (side ≡ max a.width a.height) × (LONGEST_SIDE < side)
IsLayingFault a b (faults.Twice side) = ⊥

-- why two tilings are not joined to a perfect square: they are not laid together, or a side occurs twice. The first
-- cause counts
abbrev pub IsPairFault : Tiling → Tiling → PairFault → Type 0
IsPairFault a b (faults.Twice side) = CanBeLaid a b × IsLeastShared a b side
IsPairFault a b fault = IsLayingFault a b fault

-- two tilings join to a perfect square: they can be laid together, and no side occurs twice
pub record ArePair (a b : Tiling) : Type 0 where
  pub laid : CanBeLaid a b
  pub differ : (side : ℕ) → ¬ (IsSharedSide a b side)
