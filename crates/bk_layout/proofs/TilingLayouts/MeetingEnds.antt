-- Squares of a tiling that end side by side on a node meet.
use Rattle.std.proofs.Common.{ap, arith, length, refl, subst, sym, ℕ, ◌+◌, ◌-◌, ◌<◌, ◌∙◌, ◌≡◌, ◌≤◌, ◌⊎◌}
use Rattle.bk_tiling.specs.SquareGroups.{square_groups}
use Rattle.bk_tiling.specs.Tiling.{IsTiling, Tiling, square_of}
use Rattle.bk_net.specs.Diagram.{node_below}
use Rattle.bk_layout.specs.Layout.{AreNeighbours}
use Rattle.bk_layout.proofs.Lists.AscendingPlaces.{AreNext, next_from}
use Rattle.bk_layout.proofs.TilingLayouts.Edges.{bottom_within}
use Rattle.bk_layout.proofs.TilingLayouts.LineEnds.{Ends, end_is}
use Rattle.bk_layout.proofs.TilingLayouts.LineNumbers.{number_same}
use Rattle.bk_layout.proofs.TilingLayouts.NodeColumns.{ended_fill}
use Rattle.bk_layout.proofs.TilingLayouts.NodeCorners.{over_ended}
use Rattle.bk_layout.proofs.Sweeps.NodeLaws.{beside}
use Rattle.bk_layout.proofs.TilingLayouts.NodeLines.{along_left, along_right}
use Rattle.bk_layout.proofs.TilingLayouts.TilingSquares.{ended, ended_from, ended_node, ended_one, key}
use Rattle.bk_layout.specs.TilingLayout.{layout_of, line_end, line_number}
use Rattle.bk_layout.proofs.TilingLayouts.GroupNodes.{IsNode}
use Rattle.bk_layout.specs.NodeCorners.{DoEndsMeet}
use Rattle.bk_layout.proofs.TilingLayouts.ApartNodes.{is_in, some}

module _ (t : Tiling) (tiling : IsTiling t) where
  -- ---- squares that end side by side

  module _ (v x y : ℕ) (next : AreNeighbours ((layout_of t).ending v) x y) where
    is_next : AreNext (key t tiling) (ended t tiling v) (length t.squares) (ended_one t tiling v) x y
    is_next = next_from (key t tiling) (ended t tiling v) (length t.squares) (ended_one t tiling v) x y next

    low_x : x < length t.squares
    low_x = is_next.first_in.0

    low_y : y < length t.squares
    low_y = is_next.second_in.0

    end_x : node_below (square_groups t.squares) (square_of t x) ≡ v
    end_x = ended_from t tiling v x is_next.first_in.1

    end_y : node_below (square_groups t.squares) (square_of t y) ≡ v
    end_y = ended_from t tiling v y is_next.second_in.1

    node : IsNode t v
    node = ended_node t tiling v x low_x is_next.first_in.1

    same_level : (square_of t x).y + (square_of t x).s ≡ (square_of t y).y + (square_of t y).s
    same_level = omega (arith, (node.end_to (square_of t x) (is_in t tiling x low_x) end_x).0, (node.end_to (square_of t y) (is_in t tiling y low_y) end_y).0)

    edge : (square_of t x).x + (square_of t x).s ≡ (square_of t y).x
    edge = beside t tiling v node (λ w. node_below (square_groups t.squares) w ≡ v) (ended_fill t tiling v node) (square_of t x) (square_of t y)
        (is_in t tiling x low_x) (is_in t tiling y low_y) end_x end_y is_next.less
        (over_ended t tiling v (λ w. (w.x ≤ key t tiling x) ⊎ (key t tiling y ≤ w.x)) is_next.between)

    ends : Ends t.squares ((square_of t x).x + (square_of t x).s) ((square_of t x).y + (square_of t x).s)
    ends = record {
      left = square_of t x;
      right = square_of t y;
      left_in = is_in t tiling x low_x;
      right_in = is_in t tiling y low_y;
      left_edge = refl;
      right_edge = sym edge;
      left_bottom = refl;
      right_bottom = sym same_level;
    }

    end_of_x : line_end t.squares ((square_of t x).x + (square_of t x).s) (t.height - (square_of t x).y) (square_of t x).y
        ≡ (square_of t x).y + (square_of t x).s
    end_of_x = end_is t.squares ((square_of t x).x + (square_of t x).s) (t.height - (square_of t x).y) (square_of t x).y
        ((square_of t x).y + (square_of t x).s) (omega (arith, some t tiling x low_x)) (omega (
          arith,
          bottom_within t tiling (square_of t x) (is_in t
              tiling x low_x),
        )) ends
        (λ c lo hi. along_right t tiling v node (square_of t x) c (is_in t tiling x low_x) lo hi)

    end_of_y : line_end t.squares ((square_of t x).x + (square_of t x).s) (t.height - (square_of t y).y) (square_of t y).y
        ≡ (square_of t x).y + (square_of t x).s
    end_of_y = end_is t.squares ((square_of t x).x + (square_of t x).s) (t.height - (square_of t y).y) (square_of t y).y
        ((square_of t x).y + (square_of t x).s) (omega (arith, some t tiling y low_y, same_level))
        (omega (arith, same_level, bottom_within t tiling (square_of t y) (is_in t tiling y low_y))) ends
        (λ c lo hi e. along_left t tiling v node (square_of t y) c (is_in t tiling y low_y) lo (omega (arith, hi, same_level))
        (subst (λ (z : ℕ). Ends t.squares z c) edge e))

    met : (layout_of t).right x ≡ (layout_of t).left y
    met = number_same t ((square_of t x).x + (square_of t x).s) (square_of t x).y (square_of t y).y (end_of_x ∙ sym end_of_y)
        ∙ ap (λ (c : ℕ). line_number t c (square_of t y).y) edge

  -- squares that end side by side on a node have one line between them
  pub ends_meet : DoEndsMeet (layout_of t)
  ends_meet v x y next = met v x y next
