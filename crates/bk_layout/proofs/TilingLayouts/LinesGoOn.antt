-- Where a line goes on beside a square of a tiling, the square is the first or the last that ends on its node.
use Rattle.std.proofs.Common.{arith, false, inl, inr, length, refl, true, ℕ, ◌+◌, ◌-◌, ◌<◌, ◌==◌, ◌≡◌, ◌≤◌, ◌⊎◌}
use Rattle.std.proofs.lemmas.Bool.{both_ways, cases_lt}
use Rattle.bk_tiling.specs.SquareGroups.{square_groups}
use Rattle.bk_tiling.specs.Tiling.{IsTiling, Tiling, square_of}
use Rattle.bk_tiling.specs.declared.Square.{Square}
use Rattle.bk_net.specs.Diagram.{node_below}
use Rattle.bk_layout.proofs.Lists.AscendingPlaces.{first_to, last_to}
use Rattle.bk_layout.proofs.TilingLayouts.Edges.{MeetsLeft, MeetsRight, bottom_within, left_of, right_of}
use Rattle.bk_layout.proofs.TilingLayouts.LineEnds.{Ends, end_is, goes_left_from, goes_left_to, goes_right_from, goes_right_to}
use Rattle.bk_layout.proofs.TilingLayouts.LineNumbers.{number_one, number_zero}
use Rattle.bk_layout.proofs.TilingLayouts.NodeLines.{along_left, along_right}
use Rattle.bk_layout.proofs.Sweeps.NodeLaws.{is_last}
use Rattle.bk_layout.proofs.TilingLayouts.NodeColumns.{ended_fill}
use Rattle.bk_layout.proofs.TilingLayouts.Nodes.{most_nodes}
use Rattle.bk_layout.proofs.TilingLayouts.NodeEnds.{ends_at_left, ends_at_right}
use Rattle.bk_layout.specs.Layout.{IsFirst, IsLast}
use Rattle.bk_layout.specs.TilingLayout.{from_left, goes_on_left, goes_on_right, line_end, line_number}
use Rattle.bk_layout.proofs.TilingLayouts.TilingSquares.{ended, ended_from, ended_one, ended_to, in_square, key, node_at, wide_at}
use Rattle.bk_layout.proofs.TilingLayouts.GroupNodes.{IsNode}

module _ (t : Tiling) (tiling : IsTiling t) where
  -- ---- where lines go on

  module _ (q : ℕ) (h : q < length t.squares) where
    abbrev v : ℕ
    v = node_below (square_groups t.squares) (square_of t q)

    -- the node on which the square ends
    pub node : IsNode t (node_below (square_groups t.squares) (square_of t q))
    node = node_at t tiling (node_below (square_groups t.squares) (square_of t q)) (most_nodes t tiling (square_of t q) (in_square t tiling q h))

    first_there : (square_of t q).x ≡ node.left
        → IsFirst (from_left t (λ r. node_below (square_groups t.squares) (square_of t r) == node_below (square_groups t.squares) (square_of t q))) q
    first_there e = first_to (key t tiling) (ended t tiling v) (length t.squares) (ended_one t tiling v) q h (ended_to t tiling v q refl)
        (λ r k f. omega (arith, e, (node.end_to (square_of t r) (in_square t tiling r k) (ended_from t tiling v r f)).1))

    last_there : (square_of t q).x + (square_of t q).s ≡ node.right
        → IsLast (from_left t (λ r. node_below (square_groups t.squares) (square_of t r) == node_below (square_groups t.squares) (square_of t q))) q
    last_there e = last_to (key t tiling) (ended t tiling v) (length t.squares) (ended_one t tiling v) q h (ended_to t tiling v q refl)
        (λ r k f. is_last t tiling v node (λ w. node_below (square_groups t.squares) w ≡ v) (ended_fill t tiling v node) (square_of t q)
        (in_square t tiling q h) refl e (square_of t r) (in_square t tiling r k) (ended_from t tiling v r f))

    -- where the line at its left goes on, the square is the first that ends on its node, which isn't the bottom
    pub left_goes : goes_on_left t (square_of t q) ≡ true
        → IsFirst (from_left t (λ r. node_below (square_groups t.squares) (square_of t r) == node_below (square_groups t.squares)
        (square_of t q))) q × (node_below (square_groups t.squares) (square_of t q) < length (square_groups t.squares))
    left_goes e = let k = ends_at_left t tiling v node (square_of t q) (in_square t tiling q h) refl (goes_left_from t (square_of t q) e) in
        (first_there k.0, k.1)

    -- where the line at a square's right goes on, it is the last that ends on its node, which isn't the bottom
    pub right_goes : goes_on_right t (square_of t q) ≡ true
        → IsLast (from_left t (λ r. node_below (square_groups t.squares) (square_of t r) == node_below (square_groups t.squares)
        (square_of t q))) q × (node_below (square_groups t.squares) (square_of t q) < length (square_groups t.squares))
    right_goes e = let k = ends_at_right t tiling v node (square_of t q) (in_square t tiling q h) refl (goes_right_from t (square_of t q) e) in
        (last_there k.0, k.1)

    -- at the left wall it is the first
    pub at_left : line_number t (square_of t q).x (square_of t q).y ≡ 0
        → IsFirst (from_left t (λ r. node_below (square_groups t.squares) (square_of t r) == node_below (square_groups t.squares) (square_of t q))) q
    at_left e = first_there (omega (arith, number_zero t (square_of t q).x (square_of t q).y e, (node.end_to (square_of t q) (in_square t tiling q h) refl).1))

    -- a square at the right wall is the last that ends on its node
    pub at_right : line_number t ((square_of t q).x + (square_of t q).s) (square_of t q).y ≡ 1
        → IsLast (from_left t (λ r. node_below (square_groups t.squares) (square_of t r) == node_below (square_groups t.squares) (square_of t q))) q
    at_right e = last_there (omega (
      arith,
      number_one t ((square_of t q).x + (square_of t q).s) (square_of t q).y e,
      (node.end_to (square_of t q) (in_square t tiling q h) refl).2,
      node.wide,
    ))

    -- a line that doesn't end beside the square ends at its bottom, if squares that meet there do
    end_there : (x : ℕ) → Ends t.squares x ((square_of t q).y + (square_of t q).s)
        → ((c : ℕ) → (square_of t q).y < c → c < (square_of t q).y + (square_of t q).s → Ends t.squares x c → ⊥)
        → line_end t.squares x (t.height - (square_of t q).y) (square_of t q).y ≡ (square_of t q).y + (square_of t q).s
    end_there x = end_is t.squares x (t.height - (square_of t q).y) (square_of t q).y ((square_of t q).y + (square_of t q).s)
        (omega (arith, wide_at t tiling q h)) (omega (arith, bottom_within t tiling (square_of t q) (in_square t tiling q h)))

    -- a square beside it that goes no deeper ends at its bottom
    no_deeper : (z : Square) → (square_of t q).y + (square_of t q).s - 1 < z.y + z.s → ((square_of t q).y + (square_of t q).s < z.y + z.s → ⊥)
        → z.y + z.s ≡ (square_of t q).y + (square_of t q).s
    no_deeper z reaches not_over = cases (cases_lt ((square_of t q).y + (square_of t q).s) (z.y + z.s))
      where
        cases : ((square_of t q).y + (square_of t q).s < z.y + z.s) ⊎ (z.y + z.s ≤ (square_of t q).y + (square_of t q).s)
            → z.y + z.s ≡ (square_of t q).y + (square_of t q).s
        cases (inr m) = omega (arith, m, reaches)
        cases (inl m) = absurd (not_over m)

    -- where the line at its right does not go on, it ends at the square's bottom
    pub ends_right : goes_on_right t (square_of t q) ≡ false → (square_of t q).x + (square_of t q).s < t.width
        → line_end t.squares ((square_of t q).x + (square_of t q).s) (t.height - (square_of t q).y) (square_of t q).y ≡ (square_of t q).y + (square_of t q).s
    ends_right stop wide = end_there ((square_of t q).x + (square_of t q).s) (record {
      left = square_of t q;
      right = z.square;
      left_in = in_square t tiling q h;
      right_in = z.is;
      left_edge = refl;
      right_edge = z.has;
      left_bottom = refl;
      right_bottom = no_deeper z.square z.on.bottom (λ m. both_ways (goes_on_right t (square_of t q)) stop (goes_right_to t (square_of t q)
          (record { beside = z.square; is = z.is; edge = z.has; top = omega (arith, z.on.top, wide_at t tiling q h); bottom = m })));
    }) (λ c lo hi. along_right t tiling v node (square_of t q) c (in_square t tiling q h) lo hi)
      where
        z : MeetsRight t tiling (square_of t q) ((square_of t q).y + (square_of t q).s - 1)
        z = right_of t tiling (square_of t q) ((square_of t q).y + (square_of t q).s - 1) (in_square t tiling q h)
            (omega (arith, wide_at t tiling q h)) (omega (arith, wide_at t tiling q h)) wide

    -- where the line at its left doesn't go on, it ends at the level of the square's bottom
    pub ends_left : goes_on_left t (square_of t q) ≡ false → 0 < (square_of t q).x
        → line_end t.squares (square_of t q).x (t.height - (square_of t q).y) (square_of t q).y ≡ (square_of t q).y + (square_of t q).s
    ends_left stop away = end_there (square_of t q).x (record {
      left = z.square;
      right = square_of t q;
      left_in = z.is;
      right_in = in_square t tiling q h;
      left_edge = z.has;
      right_edge = refl;
      left_bottom = no_deeper z.square z.on.bottom (λ m. both_ways (goes_on_left t (square_of t q)) stop (goes_left_to t (square_of t q)
          (record { beside = z.square; is = z.is; edge = z.has; top = omega (arith, z.on.top, wide_at t tiling q h); bottom = m })));
      right_bottom = refl;
    }) (λ c lo hi. along_left t tiling v node (square_of t q) c (in_square t tiling q h) lo hi)
      where
        z : MeetsLeft t tiling (square_of t q) ((square_of t q).y + (square_of t q).s - 1)
        z = left_of t tiling (square_of t q) ((square_of t q).y + (square_of t q).s - 1) (in_square t tiling q h)
            (omega (arith, wide_at t tiling q h)) (omega (arith, wide_at t tiling q h)) away
