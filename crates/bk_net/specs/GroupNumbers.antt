-- The number of each square's group.
-- Example (DiagramExamples): of [2,1][1] the squares have the group numbers 0, 0, 1.
use Rattle.std.specs.List.{enumerate_from, flat_map}
use Rattle.std.specs.Prelude.{List, map, ℕ}
use Rattle.bk_tiling.specs.SquareGroups.{square_groups}
use Rattle.bk_tiling.specs.declared.Square.{Square}

-- the number of a group, once for each of its squares
abbrev pub numbered : ℕ × List Square → List ℕ
numbered (node, group) = map (λ q. node) group

-- the number of the group of each square, in the order of the squares
abbrev pub group_numbers : List Square → List ℕ
group_numbers squares = flat_map numbered (enumerate_from 0 (square_groups squares))
