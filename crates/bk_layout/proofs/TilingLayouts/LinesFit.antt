-- The lines of the layout of a tiling, between neighbours and at both ends of each node.
use Rattle.std.proofs.Common.{arith, length, refl, sym, ℕ, ◌+◌, ◌==◌, ◌∙◌, ◌≡◌, ◌≤◌, ◌⊎◌}
use Rattle.bk_tiling.specs.SquareGroups.{square_groups}
use Rattle.bk_tiling.specs.Tiling.{IsTiling, Tiling, square_of}
use Rattle.bk_net.specs.Diagram.{node_below}
use Rattle.bk_layout.proofs.Lists.AscendingPlaces.{AreNext, next_from}
use Rattle.bk_layout.proofs.TilingLayouts.LineNumbers.{number_left, number_right}
use Rattle.bk_layout.proofs.Sweeps.NodeLaws.{beside}
use Rattle.bk_layout.proofs.TilingLayouts.NodeLines.{one_left_line, one_right_line}
use Rattle.bk_layout.proofs.TilingLayouts.NodeColumns.{hung_fill}
use Rattle.bk_layout.proofs.TilingLayouts.NodeCorners.{first_of_ended, first_of_hung, last_of_ended, last_of_hung, over_hung}
use Rattle.bk_layout.specs.Layout.{AreLines, AreNeighbours, IsFirst, IsLast}
use Rattle.bk_layout.specs.TilingLayout.{from_left, layout_of, line_number, node_above}
use Rattle.bk_layout.proofs.TilingLayouts.TilingSquares.{ended_from, hung, hung_from, hung_node, hung_one, in_square, key, wide_at}
use Rattle.bk_layout.proofs.TilingLayouts.GroupNodes.{IsNode}

module _ (t : Tiling) (tiling : IsTiling t) where
  -- ---- lines

  lines_between : (v q r : ℕ) → AreNeighbours (from_left t (λ q. node_above (square_groups t.squares) (square_of t q) == v)) q r
      → line_number t ((square_of t q).x + (square_of t q).s) (square_of t q).y ≡ line_number t (square_of t r).x (square_of t r).y
  lines_between v q r next = λ i. line_number t (edge i) (level i)
    where
      n : AreNext (key t tiling) (hung t tiling v) (length t.squares) (hung_one t tiling v) q r
      n = next_from (key t tiling) (hung t tiling v) (length t.squares) (hung_one t tiling v) q r next

      node : IsNode t v
      node = hung_node t tiling v q n.first_in.0 n.first_in.1

      edge : (square_of t q).x + (square_of t q).s ≡ (square_of t r).x
      edge = beside t tiling v node (λ w. node_above (square_groups t.squares) w ≡ v) (hung_fill t tiling v node) (square_of t q)
          (square_of t r) (in_square t tiling q n.first_in.0) (in_square t tiling r n.second_in.0)
          (hung_from t tiling v q n.first_in.1) (hung_from t tiling v r n.second_in.1) n.less
          (over_hung t tiling v (λ w. (w.x ≤ (key t tiling) q) ⊎ (key t tiling r ≤ w.x)) n.between)

      level : (square_of t q).y ≡ (square_of t r).y
      level = (node.hang_to (square_of t q) (in_square t tiling q n.first_in.0) (hung_from t tiling v q n.first_in.1)).0
          ∙ sym (node.hang_to (square_of t r) (in_square t tiling r n.second_in.0) (hung_from t tiling v r n.second_in.1)).0

  left_lines : (v q p : ℕ) → IsFirst (from_left t (λ q. node_below (square_groups t.squares) (square_of t q) == v)) q
      → IsFirst (from_left t (λ q. node_above (square_groups t.squares) (square_of t q) == v)) p
      → line_number t (square_of t p).x (square_of t p).y ≡ line_number t (square_of t q).x (square_of t q).y
  left_lines v q p a b = let e = first_of_ended t tiling v q a in let h = first_of_hung t tiling v p b in let node = hung_node t tiling v p h.0 h.1 in
      one_left_line t tiling v node (square_of t q) (square_of t p) (in_square t tiling q e.0) (in_square t tiling p h.0) (ended_from t tiling v q e.1)
      (hung_from t tiling v p h.1) (e.2 node) (h.2 node)

  right_lines : (v q p : ℕ) → IsLast (from_left t (λ q. node_below (square_groups t.squares) (square_of t q) == v)) q
      → IsLast (from_left t (λ q. node_above (square_groups t.squares) (square_of t q) == v)) p
      → line_number t ((square_of t p).x + (square_of t p).s) (square_of t p).y ≡ line_number t ((square_of t q).x + (square_of t q).s) (square_of t q).y
  right_lines v q p a b = let e = last_of_ended t tiling v q a in let h = last_of_hung t tiling v p b in let node = hung_node t tiling v p h.0 h.1 in
      one_right_line t tiling v node (square_of t q) (square_of t p) (in_square t tiling q e.0) (in_square t tiling p h.0) (ended_from t tiling v q e.1)
      (hung_from t tiling v p h.1) (e.2 node) (h.2 node)

  -- the lines of the layout are those of a layout that fits
  pub lines : AreLines (layout_of t)
  lines = record {
    between = lines_between;
    same_left = left_lines;
    same_right = right_lines;
    top_left = λ p first. let h = first_of_hung t tiling 0 p first in let node = hung_node t tiling 0 p h.0 h.1 in
        number_left t (square_of t p).x (square_of t p).y (h.2 node ∙ (node.top refl).1);
    top_right = λ p last. let h = last_of_hung t tiling 0 p last in let node = hung_node t tiling 0 p h.0 h.1 in
        number_right t ((square_of t p).x + (square_of t p).s) (square_of t p).y (omega (arith, wide_at t tiling p h.0)) (h.2 node ∙ (node.top refl).2);
  }
