-- Where what ends on a node ends: beside a line that goes on the node ends too, and squares that end side by side at one level end on one node.
use Rattle.std.proofs.Common.{arith, inl, inr, length, sym, ℕ, ◌+◌, ◌-◌, ◌<◌, ◌∙◌, ◌≡◌, ◌≤◌, ◌⊎◌}
use Rattle.std.proofs.lemmas.Bool.{cases_lt}
use Rattle.bk_tiling.specs.SquareGroups.{square_groups}
use Rattle.bk_tiling.specs.Tiling.{IsOneOf, IsTiling, Tiling}
use Rattle.bk_tiling.specs.declared.Square.{Square}
use Rattle.bk_net.specs.Diagram.{node_below}
use Rattle.bk_layout.proofs.TilingLayouts.Edges.{Hangs, bottom_within, hangs_below, right_within, side}
use Rattle.bk_layout.proofs.TilingLayouts.LineEnds.{GoesOnLeft, GoesOnRight}
use Rattle.bk_layout.proofs.TilingLayouts.GroupNodes.{IsNode}

module _ (t : Tiling) (tiling : IsTiling t) (v : ℕ) (node : IsNode t v) where
  abbrev Ended : Square → Type 0
  Ended q = node_below (square_groups t.squares) q ≡ v

  -- a node on which a square ends, with another square going on below its level, isn't the last
  above_end : (q : Square) → IsOneOf q t.squares → Ended q → (b : Square) → IsOneOf b t.squares → q.y + q.s < b.y + b.s
      → ((v < length (square_groups t.squares)) × (node.level < t.height))
      ⊎ ((v ≡ length (square_groups t.squares)) × (node.level ≡ t.height) × (node.left ≡ 0) × (node.right ≡ t.width)) → v < length (square_groups t.squares)
  above_end q h e b is below (inl m) = m.0
  above_end q h e b is below (inr m) = absurd (omega (arith, m.1, (node.end_to q h e).0, below, bottom_within t tiling b is))

  -- a node ends beside a line that goes on
  pub ends_at_left : (q : Square) → IsOneOf q t.squares → Ended q → GoesOnLeft t.squares q → (q.x ≡ node.left) × (v < length (square_groups t.squares))
  ends_at_left q h e g = (at (cases_lt node.left q.x), above_end q h e g.beside g.is g.bottom node.inner)
    where
      at : (node.left < q.x) ⊎ (q.x ≤ node.left) → q.x ≡ node.left
      at (inr m) = omega (arith, m, (node.end_to q h e).1)
      at (inl m) = absurd (omega (
        arith,
        (node.end_to q h e).0,
        g.top,
        node.under g.beside (q.x - 1) g.is (omega arith) (omega (arith, m, (node.end_to q h e).2))
            (record {
              left = omega (arith, g.edge, side t tiling g.beside g.is);
              right = omega (arith, g.edge, m);
              top =
                  omega (arith, (node.end_to q h e).0, g.top);
              bottom = omega (arith, (node.end_to q h e).0, g.bottom);
            }),
      ))

  -- a node ends at the right beside a line that goes on at the right
  pub ends_at_right : (q : Square) → IsOneOf q t.squares → Ended q → GoesOnRight t.squares q → (q.x + q.s ≡ node.right) × (v < length (square_groups t.squares))
  ends_at_right q h e g = (at (cases_lt (q.x + q.s) node.right), above_end q h e g.beside g.is g.bottom node.inner)
    where
      at : (q.x + q.s < node.right) ⊎ (node.right ≤ q.x + q.s) → q.x + q.s ≡ node.right
      at (inr m) = omega (arith, m, (node.end_to q h e).2)
      at (inl m) = absurd (omega (
        arith,
        (node.end_to q h e).0,
        g.top,
        node.under g.beside (q.x + q.s) g.is (omega (arith, (node.end_to q h e).1)) m
            (record {
              left = omega (arith, g.edge);
              right = omega (arith, g.edge, side t tiling g.beside g.is);
              top =
                  omega (arith, (node.end_to q h e).0, g.top);
              bottom = omega (arith, (node.end_to q h e).0, g.bottom);
            }),
      ))

  -- where two squares end side by side at one level, both end on the node of the first
  pub ends_beside : (q r : Square) → IsOneOf q t.squares → IsOneOf r t.squares → Ended q → q.x + q.s ≡ r.x → q.y + q.s ≡ r.y + r.s → Ended r
  ends_beside q r h k e edge level = node.end_from r r.x k (sym level ∙ (node.end_to q h e).0) (omega (arith, edge, (node.end_to q h e).1))
      (inside (cases_lt r.x node.right)) (omega arith) (omega (arith, side t tiling r k))
    where
      inside : (r.x < node.right) ⊎ (node.right ≤ r.x) → r.x < node.right
      inside (inl m) = m
      inside (inr m) = absurd (cases node.inner)
        where
          cases : ((v < length (square_groups t.squares)) × (node.level < t.height))
              ⊎ ((v ≡ length (square_groups t.squares)) × (node.level ≡ t.height) × (node.left ≡ 0) × (node.right ≡ t.width)) → ⊥
          cases (inr n) = omega (arith, n.3, m, side t tiling r k, right_within t tiling r k)
          cases (inl n) = from (hangs_below t tiling r r.x k (omega arith) (omega (arith, side t tiling r k))
              (omega (arith, level, (node.end_to q h e).0, n.1)))
            where
              from : Hangs t tiling r r.x → ⊥
              from z = by (cases_lt z.square.x r.x)
                where
                  top : z.square.y ≡ node.level
                  top = omega (arith, z.has, level, (node.end_to q h e).0)

                  at : r.x ≡ node.right
                  at = omega (arith, m, edge, (node.end_to q h e).2)

                  by : (z.square.x < r.x) ⊎ (r.x ≤ z.square.x) → ⊥
                  by (inr l) = node.beyond_right z.square z.is top (omega (arith, l, z.on.left, at))
                  by (inl l) = omega (
                    arith,
                    at,
                    z.on.right,
                    (node.hang_to z.square z.is (node.hang_from z.square (node.right - 1) z.is top (omega (arith, node.some))
                        (omega (arith, node.some)) (omega (arith, at, l)) (omega (arith, at, z.on.right)))).2,
                  )
