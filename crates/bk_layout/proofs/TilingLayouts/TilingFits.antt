-- The layout of a tiling fits.
use Rattle.std.proofs.Common.{ap, arith, false, inl, inr, length, refl, sym, true, ℕ, ◌+◌, ◌-◌, ◌<◌, ◌==◌, ◌∙◌, ◌≡◌, ◌≤◌, ◌⊎◌}
use Rattle.std.proofs.lemmas.Bool.{cases_lt}
use Rattle.bk_tiling.specs.SquareGroups.{square_groups}
use Rattle.bk_tiling.specs.Tiling.{IsTiling, Tiling, square_of}
use Rattle.bk_tiling.specs.declared.Square.{Square}
use Rattle.bk_net.specs.Diagram.{node_below}
use Rattle.bk_layout.proofs.Lists.AscendingPlaces.{next_to}
use Rattle.bk_layout.proofs.TilingLayouts.Edges.{bottom_within, right_within}
use Rattle.bk_layout.proofs.TilingLayouts.LineNumbers.{number_both}
use Rattle.bk_layout.proofs.TilingLayouts.NodeColumns.{one_ended}
use Rattle.bk_layout.specs.Layout.{AreNeighbours, DoLinesGoOn, Fits}
use Rattle.bk_layout.specs.TilingLayout.{from_left, goes_on_left, goes_on_right, layout_of, line_end, line_number}
use Rattle.bk_layout.specs.TilingLayoutLaws.{ATilingHasALayout}
use Rattle.bk_layout.proofs.TilingLayouts.TilingNet.{net_is}
use Rattle.bk_layout.proofs.TilingLayouts.TilingSquares.{ended, ended_from, ended_one, ended_to, in_square, key, wide_at}
use Rattle.bk_layout.proofs.TilingLayouts.GroupNodes.{IsNode}
use Rattle.bk_layout.proofs.TilingLayouts.NodesFit.{lists, nodes, some_groups}
use Rattle.bk_layout.proofs.TilingLayouts.NodeEnds.{ends_beside}
use Rattle.bk_layout.proofs.TilingLayouts.LinesFit.{lines}
use Rattle.bk_layout.proofs.TilingLayouts.LinesGoOn.{at_left, at_right, ends_left, ends_right, left_goes, node, right_goes}

module _ (t : Tiling) (tiling : IsTiling t) where
  -- a line ends between two neighbours of one node
  lines_meet : (q r : ℕ) → q < length t.squares → r < length t.squares
      → line_number t ((square_of t q).x + (square_of t q).s) (square_of t q).y ≡ line_number t (square_of t r).x (square_of t r).y
      → goes_on_right t (square_of t q) ≡ false → goes_on_left t (square_of t r) ≡ false
      → AreNeighbours (from_left t (λ w. node_below (square_groups t.squares) (square_of t w) == node_below (square_groups t.squares) (square_of t q))) q r
  lines_meet q r h k same a b = next_to (key t tiling) (ended t tiling v0) (length t.squares) (ended_one t tiling v0) q r
      (record {
        first_in = (h, ended_to t tiling v0 q refl);
        second_in = (k, ended_to t tiling v0 r ended_r);
        less = omega (arith, edge, wide_at t tiling q h);
        between = between;
      })
    where
      v0 : ℕ
      v0 = node_below (square_groups t.squares) (square_of t q)

      node0 : IsNode t v0
      node0 = node t tiling q h

      wide : (square_of t r).x < t.width
      wide = omega (arith, wide_at t tiling r k, right_within t tiling (square_of t r) (in_square t tiling r k))

      both : ((square_of t q).x + (square_of t q).s ≡ (square_of t r).x)
          × (line_end t.squares ((square_of t q).x + (square_of t q).s) (t.height - (square_of t q).y) (square_of t q).y
          ≡ line_end t.squares (square_of t r).x (t.height - (square_of t r).y) (square_of t r).y)
      both = number_both t ((square_of t q).x + (square_of t q).s) (square_of t q).y (square_of t r).x (square_of t r).y
          (omega (arith, wide_at t tiling q h)) wide
          (omega (arith, bottom_within t tiling (square_of t q) (in_square t tiling q h)))
          (omega (arith, bottom_within t tiling (square_of t r) (in_square t tiling r k))) same

      edge : (square_of t q).x + (square_of t q).s ≡ (square_of t r).x
      edge = both.0

      level : (square_of t q).y + (square_of t q).s ≡ (square_of t r).y + (square_of t r).s
      level = sym (ends_right t tiling q h a (omega (arith, edge, wide))) ∙ both.1 ∙ ends_left t tiling r k b (omega (arith, edge, wide_at t tiling q h))

      ended_r : node_below (square_groups t.squares) (square_of t r) ≡ node_below (square_groups t.squares) (square_of t q)
      ended_r = ends_beside t tiling (node_below (square_groups t.squares) (square_of t q)) (node t tiling q h) (square_of t q) (square_of t r)
          (in_square t tiling q h) (in_square t tiling r k) refl edge level

      between : (w : ℕ) → w < length t.squares → ended t tiling v0 w ≡ true → (key t tiling w ≤ (key t tiling) q) ⊎ (key t tiling r ≤ (key t tiling) w)
      between w m e = cases (cases_lt (key t tiling q) (key t tiling w)) (cases_lt (key t tiling w) (key t tiling r))
        where
          cases : (key t tiling q < (key t tiling) w) ⊎ (key t tiling w ≤ (key t tiling) q) → (key t tiling w < (key t tiling) r)
              ⊎ (key t tiling r ≤ (key t tiling) w) → (key t tiling w ≤ (key t tiling) q) ⊎ (key t tiling r ≤ (key t tiling) w)
          cases (inr l) o = inl l
          cases (inl l) (inr o) = inr o
          cases (inl l) (inl o) = let is : square_of t q ≡ square_of t w =
              one_ended t tiling v0 (node t tiling q h) (key t tiling w) (square_of t q) (square_of t w) (in_square t tiling q h) (in_square t tiling w m) refl
              (ended_from t tiling v0 w e) (omega (arith, l)) (omega (arith, edge, o)) (omega arith) (wide_at t tiling w m) in
              absurd (omega (arith, l, ap (λ (s : Square). s.x) is))

  go_on : DoLinesGoOn (layout_of t)
  go_on = record {
    on_left = left_goes t tiling;
    on_right = right_goes t tiling;
    at_left_wall = at_left t tiling;
    at_right_wall = at_right t tiling;
    meet = lines_meet;
  }

  fits : Fits (layout_of t)
  fits = record { some = some_groups t tiling; lists = lists t tiling; nodes = nodes t tiling; lines = lines t tiling; go_on = go_on }

-- the law: the layout fits, and its net is the Smith diagram
pub a_tiling_has_a_layout : ATilingHasALayout
a_tiling_has_a_layout t tiling = (fits t tiling, net_is t tiling)
