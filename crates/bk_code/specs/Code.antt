-- Bouwkamp codes: the sides of a tiling from top to bottom and from left to right, in groups of squares that
-- hang side by side from one level.
-- Example (CodeExamples): the code of the rectangle 33x32 is [18,15][7,8][14,4][10,1][9]; [2,1] comes before [2,1][1].
use Rattle.std.specs.Cmp.Lexicographic.{slice_cmp}
use Rattle.std.specs.Ordering.{nat_cmp}
use Rattle.std.specs.declared.cmp.Ordering.{Ordering}
use Rattle.std.specs.Prelude.{List, [], flat_map, map, ℕ, ◌++◌, ◌∷◌}
use Rattle.bk_tiling.specs.SquareGroups.{square_groups}
use Rattle.bk_tiling.specs.Tiling.{Tiling}

-- a list of groups, each the sides of squares whose tops lie on one segment, from left to right
abbrev pub Code : Type 0
Code = List (List ℕ)

-- the code of a tiling, whose squares stand in the order of a code: their sides, cut into groups
abbrev pub code_of : Tiling → Code
code_of t = map (map (λ q. q.s)) (square_groups t.squares)

-- all sides of a code, in order
abbrev pub flat : Code → List ℕ
flat code = flat_map (λ group. group) code

-- the code with one more side in its last group
abbrev pub with_side : Code → ℕ → Code
with_side [] side = []
with_side (group ∷ []) side = (group ++ side ∷ []) ∷ []
with_side (group ∷ next ∷ code) side = group ∷ with_side (next ∷ code) side

-- how two codes compare: as their flat lists, lexicographically, where a proper prefix comes first
abbrev pub code_cmp : Code → Code → Ordering
code_cmp a b = slice_cmp nat_cmp (flat a) (flat b)
