-- The dual diagram of a tiling, whose nodes are the vertical segments, and its crossings.
-- Example (DualExamples): the dual diagram of the rectangle 33x32, and the crossing of four squares of side 1.
use Rattle.std.specs.List.{position_or_len, range_with_len}
use Rattle.std.specs.Prelude.{Bool, List, count_by, map, pos, slice_index_or, sum_by, ℕ, ◌&&◌, ◌+◌, ◌-ℤ◌, ◌-◌, ◌==◌}
use Rattle.bk_tiling.specs.Point.{is_corner}
use Rattle.bk_tiling.specs.Tiling.{Tiling, sides_of}
use Rattle.bk_sym.specs.Image.{image}
use Rattle.bk_sym.specs.declared.Turn.TheVariants.{Swap}
use Rattle.bk_net.specs.Diagram.{node_levels, smith_diagram}
use Rattle.bk_net.specs.Flow.{Flow}
use Rattle.bk_net.specs.Net.{Net}

-- the dual diagram: the Smith diagram of the tiling with columns and levels exchanged
abbrev pub dual_diagram : Tiling → Net
dual_diagram t = smith_diagram (image Swap t)

-- the number, from 1 in code order, of the square at a place
abbrev pub number_at : Tiling → ℕ → ℕ → ℕ
number_at t x y = position_or_len (λ q. (q.x == x) && (q.y == y)) t.squares + 1

-- for each wire of the dual diagram the number of its square
abbrev pub dual_order : Tiling → List ℕ
dual_order t = map (λ q. number_at t q.y q.x) (image Swap t).squares

-- the side of the square with a number
abbrev pub side_numbered : Tiling → ℕ → ℕ
side_numbered t n = slice_index_or (sides_of t) (n - 1) 0

-- the sides as a flow of the dual diagram: the height as the total, the width less the column of each vertical segment
-- as the potentials, and for each wire the side of its square as the current
abbrev pub dual_flow : Tiling → Flow
dual_flow t = record {
  total = pos t.height;
  potentials = map (λ c. pos t.width -ℤ pos c) (node_levels (image Swap t));
  currents = map (λ n. pos (side_numbered t n)) (dual_order t);
}

-- whether the point is a corner of four squares
abbrev pub is_crossing : Tiling → ℕ → ℕ → Bool
is_crossing t x y = count_by (is_corner x y) t.squares == 4

-- the number of crossings. In a tiling each is the top left corner of exactly one square
abbrev pub crossings : Tiling → ℕ
crossings t =
    sum_by (λ y. count_by (λ x. is_crossing t x y) (range_with_len 0 (t.width + 1)))
    (range_with_len 0 (t.height + 1))
