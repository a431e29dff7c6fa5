-- The lines around a node of the rectangle 3x2 of squares 2, 1, 1: line 10 is the one in the middle, 1 the right wall.
use Rattle.std.proofs.Common.{[], inl, inr, refl, ◌∷◌}
use Rattle.bk_tiling.specs.Tiling.{Tiling}
use Rattle.bk_layout.specs.TilingLayout.{layout_of}
use Rattle.bk_layout.specs.NodeCorners.{IsAfter, IsBefore}

abbrev three : Tiling
three = record { width = 3; height = 2; squares = record { x = 0; y = 0; s = 2 } ∷ record { x = 2; y = 0; s = 1 } ∷ record { x = 2; y = 1; s = 1 } ∷ [] }

-- square 1 ends on node 1
before_1 : IsBefore (layout_of three) 1 1 10
before_1 = inl (refl, refl)

after_1 : IsAfter (layout_of three) 1 1 1
after_1 = inl (refl, refl)

-- square 2 hangs from it
before_2 : IsBefore (layout_of three) 1 2 1
before_2 = inr (refl, refl)

after_2 : IsAfter (layout_of three) 1 2 10
after_2 = inr (refl, refl)
