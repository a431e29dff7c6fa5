-- Squares cut into groups that hang side by side from one level, and a group laid from its sides (Bouwkamp).
-- Example (TilingExamples): of the rectangle 4x2 with the code [1,2,1][1][1] the last two squares are level, but stand
-- apart, and so are two groups; the sides 7 and 8 laid from column 18 at level 15.
use Rattle.std.specs.List.{onto_first}
use Rattle.std.specs.Prelude.{List, [], cond, ℕ, ◌+◌, ◌∷◌}
use Rattle.bk_tiling.specs.CodeOrder.{stands_beside}
use Rattle.bk_tiling.specs.declared.Square.{Square}

-- the squares, cut before each one that does not stand beside the one before it
abbrev pub square_groups : List Square → List (List Square)
square_groups [] = []
square_groups (q ∷ []) = (q ∷ []) ∷ []
square_groups (q ∷ r ∷ squares) =
    cond (stands_beside q r) (onto_first q (square_groups (r ∷ squares))) ((q ∷ []) ∷ square_groups (r ∷ squares))

-- the squares of a group, laid side by side from column x on, with their tops at level y
abbrev pub laid_group : ℕ → ℕ → List ℕ → List Square
laid_group x y [] = []
laid_group x y (s ∷ sides) = record { x = x; y = y; s = s } ∷ laid_group (x + s) y sides
