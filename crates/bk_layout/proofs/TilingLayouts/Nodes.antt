-- The nodes of a tiling: which one each square hangs from and ends on, and that the bottom is one.
use Rattle.std.proofs.Common.{List, Some, [], ap, arith, count_by, inl, inr, length, refl, slice_get, slice_index_or, sym, ◌+◌, ◌<◌, ◌≡◌, ◌≤◌, ◌⊎◌}
use Rattle.std.proofs.lemmas.Option.{slice_get_within}
use Rattle.bk_tiling.proofs.Cells.{one_counted}
use Rattle.bk_tiling.proofs.Groups.{row_of}
use Rattle.bk_tiling.proofs.TilingGroups.{known_groups}
use Rattle.bk_tiling.proofs.TilingLaws.{cell_once, own_cell, wide_enough}
use Rattle.bk_tiling.specs.SquareGroups.{square_groups}
use Rattle.bk_tiling.specs.Tiling.{IsOneOf, IsTiling, Tiling, covers}
use Rattle.bk_tiling.specs.declared.Square.{Square}
use Rattle.bk_net.proofs.NodeNumbers.{at_bottom}
use Rattle.bk_net.proofs.GroupSquares.{row_is}
use Rattle.bk_net.proofs.NodeBelow.{has_node_below, stands_on}
use Rattle.bk_net.proofs.SmithLists.{HasGroup, has_group}
use Rattle.bk_net.specs.Diagram.{group_level, node_below}
use Rattle.bk_layout.proofs.TilingLayouts.Edges.{bottom_within, right_within, side}
use Rattle.bk_layout.specs.TilingLayout.{node_above}
use Rattle.bk_layout.proofs.TilingLayouts.GroupNodes.{IsNode, level_of_bottom}

module _ (t : Tiling) (tiling : IsTiling t) where
  -- the group of a square
  pub own_group : (q : Square) → IsOneOf q t.squares → HasGroup (covers q.x q.y) (square_groups t.squares) (node_above (square_groups t.squares) q)
  own_group q h = has_group (covers q.x q.y) (square_groups t.squares) (omega (
    arith,
    ap (count_by (covers q.x q.y)) (row_is t tiling),
    cell_once t tiling q.x q.y (omega (arith, side t tiling q h, right_within t tiling q h)) (omega (arith, side t tiling q h, bottom_within t tiling q h)),
  ))

  -- a square hangs from no bottom
  pub above_bottom : (q : Square) → IsOneOf q t.squares → node_above (square_groups t.squares) q < length (square_groups t.squares)
  above_bottom q h = cases (own_group q h).found
    where
      cases : ((node_above (square_groups t.squares) q < length (square_groups t.squares))
          × (0 < count_by (covers q.x q.y) (slice_index_or (square_groups t.squares) (node_above (square_groups t.squares) q) [])))
          ⊎ ((node_above (square_groups t.squares) q ≡ length (square_groups t.squares))
          × (count_by (covers q.x q.y) (row_of (square_groups t.squares)) ≡ 0)) → node_above (square_groups t.squares) q < length (square_groups t.squares)
      cases (inl m) = m.0
      cases (inr m) = absurd (omega (
        arith,
        m.1,
        ap (count_by (covers q.x q.y)) (row_is t tiling),
        one_counted (covers q.x q.y) t.squares q h (own_cell t tiling q h),
      ))

  not_above_bottom : (q : Square) → IsOneOf q t.squares → node_above (square_groups t.squares) q ≡ length (square_groups t.squares) → ⊥
  not_above_bottom q h e = omega (arith, above_bottom q h, e)

  ends_at_height : (q : Square) → IsOneOf q t.squares → node_below (square_groups t.squares) q ≡ length (square_groups t.squares) → q.y + q.s ≡ t.height
  ends_at_height q h e = cases (stands_on t tiling q h).is
    where
      cases : ((node_below (square_groups t.squares) q ≡ length (square_groups t.squares)) × (q.y + q.s ≡ t.height))
          ⊎ ((g : List Square) × (slice_get (square_groups t.squares) (node_below (square_groups t.squares) q) ≡ Some g)
          × (group_level g ≡ q.y + q.s)) → q.y + q.s ≡ t.height
      cases (inl m) = m.1
      cases (inr (g, f, l)) = absurd (omega (arith, e, slice_get_within (square_groups t.squares) (node_below (square_groups t.squares) q) g f))

  -- the bottom is a node: the whole width at the height
  pub bottom_node : IsNode t (length (square_groups t.squares))
  bottom_node = record {
    left = 0;
    right = t.width;
    level = t.height;
    some = wide_enough t tiling;
    wide = omega arith;
    is_level = level_of_bottom (square_groups t.squares) t.height;
    hang_to = λ q h e. absurd (not_above_bottom q h e);
    hang_from = λ q c h level lo hi a b. absurd (omega (arith, level, bottom_within t tiling q h, side t tiling q h));
    end_to = λ q h e. (ends_at_height q h e, omega arith, right_within t tiling q h);
    end_from = λ q c h level lo hi a b. sym (at_bottom t tiling q h level);
    under = λ q c h lo hi on. absurd (omega (arith, on.bottom, bottom_within t tiling q h));
    beyond_left = λ z h ey ex. omega (arith, ey, bottom_within t tiling z h, side t tiling z h);
    beyond_right = λ z h ey ex. omega (arith, ey, bottom_within t tiling z h, side t tiling z h);
    inner = inr (refl, refl, refl, refl);
    top = λ e. absurd (omega (arith, e, ap length (known_groups t tiling).is));
  }

  -- no square ends below the bottom
  pub most_nodes : (q : Square) → IsOneOf q t.squares → node_below (square_groups t.squares) q ≤ length (square_groups t.squares)
  most_nodes q h = (has_node_below t tiling q h).most
