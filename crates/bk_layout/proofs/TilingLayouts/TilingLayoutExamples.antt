-- The layouts of small tilings, by evaluation.
use Rattle.std.specs.Prelude.{[], false, map, refl, true, ◌∷◌, ◌≡◌}
use Rattle.bk_tiling.specs.Tiling.{Tiling}
use Rattle.bk_layout.specs.Layout.{net_of_layout}
use Rattle.bk_layout.specs.TilingLayout.{layout_of}

-- 3x2 of squares 2, 1, 1: at the middle line the left chain is square 0, the right chain the squares 1 and 2
abbrev three : Tiling
three = record { width = 3; height = 2; squares = record { x = 0; y = 0; s = 2 } ∷ record { x = 2; y = 0; s = 1 } ∷ record { x = 2; y = 1; s = 1 } ∷ [] }

three_hanging : map (layout_of three).hanging (0 ∷ 1 ∷ 2 ∷ []) ≡ (0 ∷ 1 ∷ []) ∷ (2 ∷ []) ∷ [] ∷ []
three_hanging = refl

three_ending : map (layout_of three).ending (0 ∷ 1 ∷ 2 ∷ []) ≡ [] ∷ (1 ∷ []) ∷ (0 ∷ 2 ∷ []) ∷ []
three_ending = refl

-- the middle line ends at level 2 of column 2: its number is 2 + (2 * 3 + 2)
three_left : map (layout_of three).left (0 ∷ 1 ∷ 2 ∷ []) ≡ 0 ∷ 10 ∷ 10 ∷ []
three_left = refl

three_right : map (layout_of three).right (0 ∷ 1 ∷ 2 ∷ []) ≡ 10 ∷ 1 ∷ 1 ∷ []
three_right = refl

three_goes_left : map (layout_of three).goes_left (0 ∷ 1 ∷ 2 ∷ []) ≡ false ∷ true ∷ false ∷ []
three_goes_left = refl

three_goes_right : map (layout_of three).goes_right (0 ∷ 1 ∷ 2 ∷ []) ≡ false ∷ false ∷ false ∷ []
three_goes_right = refl

three_net : (net_of_layout (layout_of three)).wires ≡ (0, 2) ∷ (0, 1) ∷ (1, 2) ∷ []
three_net = refl

-- 2x2 of four unit squares: where they meet, the line is two, the node one
abbrev four : Tiling
four = record {
  width = 2;
  height = 2;
  squares = record { x = 0; y = 0; s = 1 } ∷ record { x = 1; y = 0; s = 1 } ∷ record { x = 0; y = 1; s = 1 } ∷ record { x = 1; y = 1; s = 1 } ∷ [];
}

four_hanging : map (layout_of four).hanging (0 ∷ 1 ∷ 2 ∷ []) ≡ (0 ∷ 1 ∷ []) ∷ (2 ∷ 3 ∷ []) ∷ [] ∷ []
four_hanging = refl

four_right : map (layout_of four).right (0 ∷ 1 ∷ 2 ∷ 3 ∷ []) ≡ 6 ∷ 1 ∷ 7 ∷ 1 ∷ []
four_right = refl

four_left : map (layout_of four).left (0 ∷ 1 ∷ 2 ∷ 3 ∷ []) ≡ 0 ∷ 6 ∷ 0 ∷ 7 ∷ []
four_left = refl

four_goes : map (layout_of four).goes_right (0 ∷ 1 ∷ 2 ∷ 3 ∷ []) ≡ false ∷ false ∷ false ∷ false ∷ []
four_goes = refl
