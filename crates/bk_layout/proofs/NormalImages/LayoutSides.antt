-- Which squares of a tiling lie at its sides, by the numbers of its nodes and lines.
use Rattle.std.proofs.Common.{arith, inl, inr, length, refl, sym, ◌+◌, ◌<◌, ◌≡◌, ◌⊎◌}
use Rattle.std.specs.Prelude.{◌↔◌}
use Rattle.bk_tiling.specs.SquareGroups.{square_groups}
use Rattle.bk_tiling.specs.Tiling.{IsOneOf, IsTiling, Tiling}
use Rattle.bk_tiling.specs.declared.Square.{Square}
use Rattle.bk_net.proofs.NodeNumbers.{at_bottom}
use Rattle.bk_net.specs.Diagram.{node_below}
use Rattle.bk_layout.proofs.TilingLayouts.Edges.{right_within, side}
use Rattle.bk_layout.proofs.TilingLayouts.GroupNodes.{IsNode}
use Rattle.bk_layout.proofs.TilingLayouts.LineNumbers.{number_left, number_one, number_right, number_zero}
use Rattle.bk_layout.proofs.TilingLayouts.TilingSquares.{node_at}
use Rattle.bk_layout.specs.TilingLayout.{line_number, node_above}

module _ (t : Tiling) (tiling : IsTiling t) (q : Square) (h : IsOneOf q t.squares) where
  top_node : IsNode t 0
  top_node = node_at t tiling 0 (omega arith)

  -- a square hangs from the top where its top is at level 0
  pub at_top : (node_above (square_groups t.squares) q ≡ 0) ↔ (q.y ≡ 0)
  at_top = (
    (λ e. omega (arith, (top_node.hang_to q h e).0, (top_node.top refl).0)),
    (λ e. top_node.hang_from q q.x h (omega (arith, e, (top_node.top refl).0)) (omega (arith, (top_node.top refl).1))
        (omega (arith, (top_node.top refl).2, right_within t tiling q h, side t tiling q h)) (omega arith) (omega (arith, side t tiling q h))),
  )

  bottom_node : IsNode t (length (square_groups t.squares))
  bottom_node = node_at t tiling (length (square_groups t.squares)) (omega arith)

  bottom_level : bottom_node.level ≡ t.height
  bottom_level = cases bottom_node.inner
    where
      cases : ((length (square_groups t.squares) < length (square_groups t.squares)) × (bottom_node.level < t.height))
          ⊎ ((length (square_groups t.squares) ≡ length (square_groups t.squares)) × (bottom_node.level ≡ t.height) × (bottom_node.left ≡ 0)
          × (bottom_node.right ≡ t.width)) → bottom_node.level ≡ t.height
      cases (inl m) = absurd (omega (arith, m.0))
      cases (inr m) = m.1

  -- a square ends on the bottom where it ends at the height
  pub on_bottom : (node_below (square_groups t.squares) q ≡ length (square_groups t.squares)) ↔ (q.y + q.s ≡ t.height)
  on_bottom = ((λ e. omega (arith, (bottom_node.end_to q h e).0, bottom_level)), (λ e. sym (at_bottom t tiling q h e)))

  -- the left wall is at its left where it begins at column 0
  pub at_left_wall : (line_number t q.x q.y ≡ 0) ↔ (q.x ≡ 0)
  at_left_wall = (number_zero t q.x q.y, number_left t q.x q.y)

  -- the right wall is at a square's right exactly where it ends at the width
  pub at_right_wall : (line_number t (q.x + q.s) q.y ≡ 1) ↔ (q.x + q.s ≡ t.width)
  at_right_wall = (number_one t (q.x + q.s) q.y, number_right t (q.x + q.s) q.y (omega (arith, side t tiling q h)))
