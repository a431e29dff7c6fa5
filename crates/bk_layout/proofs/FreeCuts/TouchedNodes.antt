-- Nodes that a line of the layout touches, and the column where it does.
use Rattle.std.proofs.Common.{arith, inl, inr, refl, sym, ℕ, ◌+◌, ◌∙◌, ◌≡◌, ◌≤◌, ◌⊎◌}
use Rattle.bk_tiling.specs.SquareGroups.{square_groups}
use Rattle.bk_tiling.specs.Tiling.{IsOneOf, IsTiling, Tiling, square_of}
use Rattle.bk_tiling.specs.declared.Square.{Square}
use Rattle.bk_net.specs.Diagram.{node_below}
use Rattle.bk_layout.proofs.TilingLayouts.Edges.{bottom_within}
use Rattle.bk_layout.proofs.TilingLayouts.LineNumbers.{number_column}
use Rattle.bk_layout.proofs.TilingLayouts.LineEdges.{IsBeside, IsMark}
use Rattle.bk_layout.proofs.TilingLayouts.Nodes.{above_bottom, most_nodes}
use Rattle.bk_layout.proofs.TilingLayouts.TilingSquares.{in_square, node_at}
use Rattle.bk_layout.specs.SimpleLayout.{Touches}
use Rattle.bk_layout.specs.TilingLayout.{layout_of, line_number, node_above}
use Rattle.bk_layout.proofs.TilingLayouts.GroupNodes.{IsNode}

module _ (t : Tiling) (tiling : IsTiling t) where
  -- a node that a line touches is a node of the tiling
  pub touched_node : (f u : ℕ) → Touches (layout_of t) f u → IsNode t u
  touched_node f u touch = cases touch.at
    where
      cases : (node_above (square_groups t.squares) (square_of t touch.square) ≡ u)
          ⊎ (node_below (square_groups t.squares) (square_of t touch.square) ≡ u) → IsNode t u
      cases (inl e) = node_at t tiling u (omega (arith, e, above_bottom t tiling (square_of t touch.square) (in_square t tiling touch.square touch.within)))
      cases (inr e) = node_at t tiling u (omega (arith, e, most_nodes t tiling (square_of t touch.square) (in_square t tiling touch.square touch.within)))

  -- a square that stands beside the line and at the node, in the column of the line
  pub record HasMark (f u : ℕ) (node : IsNode t u) : Type 0 where
    pub column : ℕ
    pub mark : IsMark t f column u node

  -- a line that touches a node has a mark there
  pub mark_of : (f u : ℕ) (node : IsNode t u) → Touches (layout_of t) f u → HasMark f u node
  mark_of f u node touch = cases touch.beside
    where
      q_in : IsOneOf (square_of t touch.square) t.squares
      q_in = in_square t tiling touch.square touch.within

      spans : (((square_of t touch.square).y ≡ node.level) ⊎ ((square_of t touch.square).y + (square_of t touch.square).s ≡ node.level))
          × (node.left ≤ (square_of t touch.square).x) × ((square_of t touch.square).x + (square_of t touch.square).s ≤ node.right)
      spans = by touch.at
        where
          by : (node_above (square_groups t.squares) (square_of t touch.square) ≡ u)
              ⊎ (node_below (square_groups t.squares) (square_of t touch.square) ≡ u)
              → (((square_of t touch.square).y ≡ node.level) ⊎ ((square_of t touch.square).y + (square_of t touch.square).s ≡ node.level))
              × (node.left ≤ (square_of t touch.square).x) × ((square_of t touch.square).x + (square_of t touch.square).s ≤ node.right)
          by (inl e) = let k = node.hang_to (square_of t touch.square) q_in e in (inl k.0, k.1, k.2)
          by (inr e) = let k = node.end_to (square_of t touch.square) q_in e in (inr k.0, k.1, k.2)

      marked : (column : ℕ) → IsBeside column (square_of t touch.square) → line_number t column (square_of t touch.square).y ≡ f → node.left ≤ column
          → column ≤ node.right → HasMark f u node
      marked column beside line from to = record {
        column = column;
        mark = record { square = square_of t touch.square; is = q_in; beside = beside; line = line; at = spans.0; from_left = from; to_right = to };
      }

      cases : (line_number t (square_of t touch.square).x (square_of t touch.square).y ≡ f)
          ⊎ (line_number t ((square_of t touch.square).x + (square_of t touch.square).s) (square_of t touch.square).y ≡ f) → HasMark f u node
      cases (inl e) = marked (square_of t touch.square).x (inl refl) e spans.1 (omega (arith, spans.2))
      cases (inr e) = marked ((square_of t touch.square).x + (square_of t touch.square).s) (inr refl) e (omega (arith, spans.1)) spans.2

  low_square : (q : Square) → IsOneOf q t.squares → q.y ≤ t.height
  low_square q h = omega (arith, bottom_within t tiling q h)

  -- all marks of a line stand in one column
  pub one_column : (f x z u v : ℕ) (a : IsNode t u) (b : IsNode t v) → IsMark t f x u a → IsMark t f z v b → z ≡ x
  one_column f x z u v a b m n = number_column t z n.square.y x m.square.y (low_square n.square n.is) (low_square m.square m.is) (n.line ∙ sym m.line)
