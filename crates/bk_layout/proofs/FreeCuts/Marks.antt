-- Where a line touches two nodes, it goes down from the one to the other.
use Rattle.std.proofs.Common.{ap, arith, inl, inr, length, subst, sym, ℕ, ◌+◌, ◌-◌, ◌<◌, ◌∙◌, ◌≡◌, ◌≤◌, ◌⊎◌}
use Rattle.std.proofs.lemmas.Bool.{cases_lt}
use Rattle.bk_tiling.specs.SquareGroups.{square_groups}
use Rattle.bk_tiling.specs.Tiling.{IsOneOf, IsTiling, Tiling}
use Rattle.bk_tiling.specs.declared.Square.{Square}
use Rattle.bk_layout.proofs.TilingLayouts.Edges.{Hangs, bottom_within, hangs_below, right_within, side}
use Rattle.bk_layout.proofs.TilingLayouts.LineEnds.{Ends, end_skips, none_before, not_passed}
use Rattle.bk_layout.proofs.TilingLayouts.LineNumbers.{number_end, number_left, number_right, number_same}
use Rattle.bk_layout.proofs.TilingLayouts.NodeColumns.{level_within}
use Rattle.bk_layout.specs.TilingLayout.{line_end, line_number}
use Rattle.bk_layout.proofs.TilingLayouts.GroupNodes.{IsNode}
use Rattle.bk_layout.proofs.TilingLayouts.LineEdges.{IsBeside, IsEdge, IsMark, edge_along, edge_of_left, edge_of_right, not_across, not_along}

module _ (t : Tiling) (tiling : IsTiling t) where
  -- a line that touches two nodes
  module _ (f x u v : ℕ) (upper : IsNode t u) (lower : IsNode t v) (a : IsMark t f x u upper) (b : IsMark t f x v lower) where
    top_high : a.square.y ≤ upper.level
    top_high = cases a.at
      where
        cases : (a.square.y ≡ upper.level) ⊎ (a.square.y + a.square.s ≡ upper.level) → a.square.y ≤ upper.level
        cases (inl e) = omega (arith, e)
        cases (inr e) = omega (arith, e)

    bottom_low : lower.level ≤ b.square.y + b.square.s
    bottom_low = cases b.at
      where
        cases : (b.square.y ≡ lower.level) ⊎ (b.square.y + b.square.s ≡ lower.level) → lower.level ≤ b.square.y + b.square.s
        cases (inl e) = omega (arith, e)
        cases (inr e) = omega (arith, e)

    -- of an inner line, it ends at the second node's level or below
    ends_low : 0 < x → x < t.width → lower.level ≤ line_end t.squares x (t.height - a.square.y) a.square.y
    ends_low some wide = omega (
      arith,
      bottom_low,
      number_end t x a.square.y b.square.y some wide (a.line ∙ sym b.line),
      not_passed t.squares x (t.height - b.square.y) b.square.y (b.square.y + b.square.s)
          (omega (arith, bottom_within t tiling b.square b.is)) (λ c lo hi. not_along t tiling x c b.square b.is b.beside lo hi),
    )

    none_passed : (y c : ℕ) → 0 < x → x < t.width → y < lower.level → a.square.y < c → c ≤ y → Ends t.squares x c → ⊥
    none_passed y c some wide hi lo k e = none_before t.squares x (t.height - a.square.y) a.square.y c lo (omega (arith, ends_low some wide)) e

    -- an inner line that ends at the second node's level or below is the line at each level between the nodes
    pub passes : (y : ℕ) → upper.level ≤ y → y < lower.level → line_number t x y ≡ f
    passes y lo hi = cases (cases_lt 0 x) (cases_lt x t.width)
      where
        cases : (0 < x) ⊎ (x ≤ 0) → (x < t.width) ⊎ (t.width ≤ x) → line_number t x y ≡ f
        cases (inr h) k = number_left t x y (omega arith) ∙ sym (number_left t x a.square.y (omega arith)) ∙ a.line
        cases (inl h) (inr k) = number_right t x y h at ∙ sym (number_right t x a.square.y h at) ∙ a.line
          where
            at : x ≡ t.width
            at = omega (arith, k, a.to_right, upper.wide)
        cases (inl h) (inl k) = number_same t x y a.square.y
            (sym (ap (λ (n : ℕ). line_end t.squares x n a.square.y) fuel
            ∙ end_skips t.squares x (y - a.square.y) (t.height - y) a.square.y
            (λ c l m. none_passed y c h k hi l (omega (arith, m, top_high, lo))) ∙ ap (line_end t.squares x (t.height - y)) level)) ∙ a.line
          where
            fuel : t.height - a.square.y ≡ y - a.square.y + (t.height - y)
            fuel = omega (arith, top_high, lo, hi, level_within t tiling v lower)

            level : a.square.y + (y - a.square.y) ≡ y
            level = omega (arith, top_high, lo)

    -- no square lies across the line between two levels
    pub clear : (y : ℕ) (z : Square) → upper.level ≤ y → y < lower.level → IsOneOf z t.squares → z.x < x → x < z.x + z.s → z.y ≤ y → y < z.y + z.s → ⊥
    clear y z lo hi h left right top bottom = not_across t tiling x y (edge a.beside) z h left right top bottom
      where
        some : 0 < x
        some = omega (arith, left)

        wide : x < t.width
        wide = omega (arith, right, right_within t tiling z h)

        level : a.square.y + (y - a.square.y) ≡ y
        level = omega (arith, top_high, lo)

        from : IsEdge t x a.square.y → IsEdge t x y
        from e = subst (IsEdge t x) level (edge_along t tiling (y - a.square.y) x a.square.y e
            (λ c l m. none_passed y c some wide hi l (omega (arith, m, top_high, lo))))

        edge : IsBeside x a.square → IsEdge t x y
        edge (inl e) = from (edge_of_right t tiling x a.square.y a.square a.is e some (omega arith) (omega (arith, side t tiling a.square a.is)))
        edge (inr e) = from (edge_of_left t tiling x a.square.y a.square a.is e wide (omega arith) (omega (arith, side t tiling a.square a.is)))

  -- two nodes that meet end to end: one line passes between
  module _ (x u v : ℕ) (first : IsNode t u) (second : IsNode t v) (level : first.level ≡ second.level) (end : first.right ≡ x) (begin : second.left ≡ x) where
    not_ended : Ends t.squares x first.level → ⊥
    not_ended e = cases first.inner second.inner
      where
        cases : ((u < length (square_groups t.squares)) × (first.level < t.height))
            ⊎ ((u ≡ length (square_groups t.squares)) × (first.level ≡ t.height) × (first.left ≡ 0) × (first.right ≡ t.width))
            → ((v < length (square_groups t.squares)) × (second.level < t.height))
            ⊎ ((v ≡ length (square_groups t.squares)) × (second.level ≡ t.height) × (second.left ≡ 0) × (second.right ≡ t.width)) → ⊥
        cases (inr m) n = omega (arith, m.3, end, begin, second.some, second.wide)
        cases (inl m) n = from (hangs_below t tiling e.right x e.right_in (omega (arith, e.right_edge))
            (omega (arith, e.right_edge, side t tiling e.right e.right_in)) (omega (arith, e.right_bottom, m.1)))
          where
            from : Hangs t tiling e.right x → ⊥
            from z = by (cases_lt z.square.x x)
              where
                top : z.square.y ≡ first.level
                top = omega (arith, z.has, e.right_bottom)

                by : (z.square.x < x) ⊎ (x ≤ z.square.x) → ⊥
                by (inr h) = first.beyond_right z.square z.is top (omega (arith, h, z.on.left, end))
                by (inl h) = omega (
                  arith,
                  end,
                  z.on.right,
                  (first.hang_to z.square z.is (first.hang_from z.square (x - 1) z.is top (omega (arith, first.some, end))
                      (omega (arith, first.some, end)) (omega arith) (omega (arith, z.on.right)))).2,
                )

    -- where two nodes meet end to end, a mark's line is the one at their level
    pub number_there : (f w : ℕ) (node : IsNode t w) → node.level ≡ first.level → (a : IsMark t f x w node) → f ≡ line_number t x first.level
    number_there f w node same a = cases a.at
      where
        cases : (a.square.y ≡ node.level) ⊎ (a.square.y + a.square.s ≡ node.level) → f ≡ line_number t x first.level
        cases (inl e) = sym a.line ∙ ap (line_number t x) (e ∙ same)
        cases (inr e) = sym a.line ∙ number_same t x a.square.y first.level (ap (λ (n : ℕ). line_end t.squares x n a.square.y) fuel
            ∙ end_skips t.squares x a.square.s (t.height - first.level) a.square.y none ∙ ap (line_end t.squares x (t.height - first.level)) (e ∙ same))
          where
            fuel : t.height - a.square.y ≡ a.square.s + (t.height - first.level)
            fuel = omega (arith, e, same, bottom_within t tiling a.square a.is)

            none : (c : ℕ) → a.square.y < c → c ≤ a.square.y + a.square.s → Ends t.squares x c → ⊥
            none c lo hi k = by (cases_lt c (a.square.y + a.square.s))
              where
                by : (c < a.square.y + a.square.s) ⊎ (a.square.y + a.square.s ≤ c) → ⊥
                by (inl l) = not_along t tiling x c a.square a.is a.beside lo l k
                by (inr l) = let at : c ≡ first.level = omega (arith, hi, l, e, same) in not_ended (subst (Ends t.squares x) at k)
