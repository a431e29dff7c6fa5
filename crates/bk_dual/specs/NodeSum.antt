-- How many nodes a diagram and its dual have. A statement alone; it is proved apart.
-- Example (DualExamples): the nine squares of the rectangle 33x32 have 6 and 6 nodes and no crossing, four squares of
-- side 1 have 3 and 3 nodes and one crossing.
use Rattle.std.specs.Prelude.{◌+◌, ◌≡◌}
use Rattle.bk_tiling.specs.Tiling.{IsTiling, Tiling, order}
use Rattle.bk_net.specs.Diagram.{smith_diagram}
use Rattle.bk_dual.specs.Dual.{crossings, dual_diagram}

-- the nodes of both diagrams and the crossings are three more than the squares
abbrev pub NodesAndCrossings : Type 0
NodesAndCrossings =
    (t : Tiling) → IsTiling t → (smith_diagram t).nodes + (dual_diagram t).nodes + crossings t ≡ order t + 3
