-- The rectangle 3x2 of the squares 2, 1, 1 with its first square reversed.
use Rattle.std.specs.Prelude.{Bool, [], map, negsuc, pos, refl, ℕ, ◌==◌, ◌∷◌, ◌≡◌}
use Rattle.bk_tiling.proofs.ExampleTilings.{rectangle_3x2}
use Rattle.bk_layout.specs.SignedFlow.{signed_side}
use Rattle.bk_layout.specs.SignedWord.{left_edge, line_column, right_edge, with_reversed}

abbrev first : ℕ → Bool
first q = q == 0

-- its wire leads the other way
wires : with_reversed first 0 ((0, 2) ∷ (0, 1) ∷ (1, 2) ∷ []) ≡ (2, 0) ∷ (0, 1) ∷ (1, 2) ∷ []
wires = refl

-- its left edge is taken as its right one, and the other squares have theirs
left : map (left_edge rectangle_3x2 first) (0 ∷ 1 ∷ 2 ∷ []) ≡ 2 ∷ 2 ∷ 2 ∷ []
left = refl

right : map (right_edge rectangle_3x2 first) (0 ∷ 1 ∷ 2 ∷ []) ≡ 0 ∷ 3 ∷ 3 ∷ []
right = refl

-- the walls, and the gaps behind the squares at the places 0 and 1
columns : map (line_column rectangle_3x2 first (λ k. k)) (0 ∷ 1 ∷ 2 ∷ 3 ∷ []) ≡ 0 ∷ 3 ∷ 0 ∷ 3 ∷ []
columns = refl

-- and its side counts as negative
sides : map (signed_side rectangle_3x2 first) (0 ∷ 1 ∷ 2 ∷ []) ≡ negsuc 1 ∷ pos 1 ∷ pos 1 ∷ []
sides = refl
