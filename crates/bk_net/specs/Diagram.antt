-- The Smith diagram of a tiling (Brooks, Smith, Stone and Tutte): a node for each group of the code and one for the
-- bottom, and a wire for each square, from the segment that it hangs from to the one that it stands on.
-- Example (DiagramExamples): the rectangle 33x32 has six nodes at the levels 0, 15, 18, 22, 23, 32; the 2 by 2 squares
-- of side 1 three.
use Rattle.std.specs.List.{enumerate_from, list_any, position_or_len}
use Rattle.std.specs.Prelude.{List, [], flat_map, length, map, nat_eq, ℕ, ◌&&◌, ◌++◌, ◌+◌, ◌∷◌}
use Rattle.bk_tiling.specs.Column.{covers_column}
use Rattle.bk_tiling.specs.Tiling.{Tiling}
use Rattle.bk_tiling.specs.declared.Square.{Square}
use Rattle.bk_tiling.specs.SquareGroups.{square_groups}
use Rattle.bk_net.specs.Net.{Net}

-- the group on whose segment the square stands: its squares have their tops at the square's bottom, and one of them
-- covers the square's left column; or the bottom, whose number is that of the groups
abbrev pub node_below : List (List Square) → Square → ℕ
node_below groups q = position_or_len (list_any (λ r. nat_eq r.y (q.y + q.s) && covers_column q.x r)) groups

-- the wires of one group, from its node
abbrev pub wires_from : List (List Square) → ℕ × List Square → List (ℕ × ℕ)
wires_from groups (node, group) = map (λ q. (node, node_below groups q)) group

-- the Smith diagram, its wires in the order of the code
abbrev pub smith_diagram : Tiling → Net
smith_diagram t = let groups = square_groups t.squares in record {
  nodes = length groups + 1;
  wires = flat_map (wires_from groups) (enumerate_from 0 groups);
}

-- the level of a group
abbrev pub group_level : List Square → ℕ
group_level [] = 0
group_level (q ∷ group) = q.y

-- the level of each node
abbrev pub node_levels : Tiling → List ℕ
node_levels t = map group_level (square_groups t.squares) ++ t.height ∷ []
