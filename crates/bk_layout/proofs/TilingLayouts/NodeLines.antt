-- The lines at both ends of a node are the same for what hangs from it and for what ends on it.
use Rattle.std.proofs.Common.{ap, arith, inl, inr, sym, ℕ, ◌+◌, ◌-◌, ◌<◌, ◌∙◌, ◌≡◌, ◌≤◌, ◌⊎◌}
use Rattle.std.proofs.lemmas.Bool.{cases_lt}
use Rattle.bk_tiling.specs.SquareGroups.{square_groups}
use Rattle.bk_tiling.specs.Tiling.{IsOneOf, IsTiling, Tiling}
use Rattle.bk_tiling.specs.declared.Square.{Square}
use Rattle.bk_net.specs.Diagram.{node_below}
use Rattle.bk_layout.proofs.TilingLayouts.Edges.{Hangs, bottom_within, hangs_below, same_left, same_right, side}
use Rattle.bk_layout.proofs.TilingLayouts.LineEnds.{Ends, end_skips}
use Rattle.bk_layout.proofs.TilingLayouts.LineNumbers.{number_same}
use Rattle.bk_layout.specs.TilingLayout.{line_end, line_number, node_above}
use Rattle.bk_layout.proofs.TilingLayouts.GroupNodes.{IsNode}

module _ (t : Tiling) (tiling : IsTiling t) (v : ℕ) (node : IsNode t v) where
  abbrev Hung : Square → Type 0
  Hung q = node_above (square_groups t.squares) q ≡ v

  abbrev Ended : Square → Type 0
  Ended q = node_below (square_groups t.squares) q ≡ v

  -- no line ends along the side of a square
  pub along_left : (q : Square) (c : ℕ) → IsOneOf q t.squares → q.y < c → c < q.y + q.s → Ends t.squares q.x c → ⊥
  along_left q c h lo hi e = let same : q ≡ e.right =
      same_left t tiling q e.right (c - 1) h e.right_in (sym e.right_edge) (omega arith) (omega arith)
      (omega (arith, e.right_bottom, side t tiling e.right e.right_in)) (omega (arith, e.right_bottom, lo)) in
      omega (arith, hi, e.right_bottom, ap (λ (s : Square). s.y + s.s) same)

  -- no line ends along the right edge of a square
  pub along_right : (q : Square) (c : ℕ) → IsOneOf q t.squares → q.y < c → c < q.y + q.s → Ends t.squares (q.x + q.s) c → ⊥
  along_right q c h lo hi e = let same : q ≡ e.left =
      same_right t tiling q e.left (c - 1) h e.left_in (sym e.left_edge) (omega arith) (omega arith)
      (omega (arith, e.left_bottom, side t tiling e.left e.left_in)) (omega (arith, e.left_bottom, lo)) in
      omega (arith, hi, e.left_bottom, ap (λ (s : Square). s.y + s.s) same)

  -- the line at the left of what ends goes on at the left of what hangs
  pub one_left_line : (q p : Square) → IsOneOf q t.squares → IsOneOf p t.squares → Ended q → Hung p → q.x ≡ node.left → p.x ≡ node.left
      → line_number t p.x p.y ≡ line_number t q.x q.y
  one_left_line q p h k e f a b = ap (λ (x : ℕ). line_number t x p.y) (b ∙ sym a)
      ∙ sym (number_same t q.x q.y p.y (ap (λ (n : ℕ). line_end t.squares q.x n q.y) fuel
      ∙ end_skips t.squares q.x q.s (t.height - p.y) q.y none_passed ∙ ap (line_end t.squares q.x (t.height - p.y)) (sym level)))
    where
      level : p.y ≡ q.y + q.s
      level = (node.hang_to p k f).0 ∙ sym (node.end_to q h e).0

      fuel : t.height - q.y ≡ q.s + (t.height - p.y)
      fuel = omega (arith, level, bottom_within t tiling q h)

      none_passed : (c : ℕ) → q.y < c → c ≤ q.y + q.s → Ends t.squares q.x c → ⊥
      none_passed c lo hi m = cases (cases_lt c (q.y + q.s))
        where
          cases : (c < q.y + q.s) ⊎ (q.y + q.s ≤ c) → ⊥
          cases (inl l) = along_left q c h lo l m
          cases (inr l) = from (hangs_below t tiling m.left (q.x - 1) m.left_in (omega (arith, m.left_edge, side t tiling m.left m.left_in))
              (omega (arith, m.left_edge, side t tiling m.left m.left_in))
              (omega (arith, m.left_bottom, hi, level, bottom_within t tiling p k, side t tiling p k)))
            where
              from : Hangs t tiling m.left (q.x - 1) → ⊥
              from z = by (cases_lt q.x (z.square.x + z.square.s))
                where
                  top : z.square.y ≡ node.level
                  top = omega (arith, z.has, m.left_bottom, l, hi, (node.end_to q h e).0)

                  some : 0 < q.x
                  some = omega (arith, m.left_edge, side t tiling m.left m.left_in)

                  by : (q.x < z.square.x + z.square.s) ⊎ (z.square.x + z.square.s ≤ q.x) → ⊥
                  by (inl n) = omega (
                    arith,
                    some,
                    a,
                    z.on.left,
                    (node.hang_to z.square z.is (node.hang_from z.square q.x z.is top (omega (arith, a)) (omega (arith, a, node.some))
                        (omega (arith, z.on.left)) n)).1,
                  )
                  by (inr n) = node.beyond_left z.square z.is top (omega (arith, n, z.on.right, a))

  -- at the right end of a node the line of what ends there goes on at what hangs there
  pub one_right_line : (q p : Square) → IsOneOf q t.squares → IsOneOf p t.squares → Ended q → Hung p → q.x + q.s ≡ node.right
      → p.x + p.s ≡ node.right → line_number t (p.x + p.s) p.y ≡ line_number t (q.x + q.s) q.y
  one_right_line q p h k e f a b = ap (λ (x : ℕ). line_number t x p.y) (b ∙ sym a)
      ∙ sym (number_same t (q.x + q.s) q.y p.y (ap (λ (n : ℕ). line_end t.squares (q.x + q.s) n q.y) fuel
      ∙ end_skips t.squares (q.x + q.s) q.s (t.height - p.y) q.y none_passed ∙ ap (line_end t.squares (q.x + q.s) (t.height - p.y)) (sym level)))
    where
      level : p.y ≡ q.y + q.s
      level = (node.hang_to p k f).0 ∙ sym (node.end_to q h e).0

      fuel : t.height - q.y ≡ q.s + (t.height - p.y)
      fuel = omega (arith, level, bottom_within t tiling q h)

      none_passed : (c : ℕ) → q.y < c → c ≤ q.y + q.s → Ends t.squares (q.x + q.s) c → ⊥
      none_passed c lo hi m = cases (cases_lt c (q.y + q.s))
        where
          cases : (c < q.y + q.s) ⊎ (q.y + q.s ≤ c) → ⊥
          cases (inl l) = along_right q c h lo l m
          cases (inr l) = from (hangs_below t tiling m.right (q.x + q.s) m.right_in (omega (arith, m.right_edge))
              (omega (arith, m.right_edge, side t tiling m.right m.right_in))
              (omega (arith, m.right_bottom, hi, level, bottom_within t tiling p k, side t tiling p k)))
            where
              from : Hangs t tiling m.right (q.x + q.s) → ⊥
              from z = by (cases_lt z.square.x (q.x + q.s))
                where
                  top : z.square.y ≡ node.level
                  top = omega (arith, z.has, m.right_bottom, l, hi, (node.end_to q h e).0)

                  by : (z.square.x < q.x + q.s) ⊎ (q.x + q.s ≤ z.square.x) → ⊥
                  by (inl n) = omega (
                    arith,
                    a,
                    z.on.right,
                    (node.hang_to z.square z.is (node.hang_from z.square (node.right - 1) z.is top (omega (arith, node.some))
                        (omega (arith, node.some)) (omega (arith, a, n)) (omega (arith, a, z.on.right)))).2,
                  )
                  by (inr n) = node.beyond_right z.square z.is top (omega (arith, n, z.on.left, a))
