-- Two lines of a simple tiling that touch two nodes, in any order: they have one square between, or are the walls.
use Rattle.std.proofs.Common.{ap, arith, inl, inr, length, refl, subst, sym, ℕ, ◌<◌, ◌∙◌, ◌≡◌, ◌≤◌, ◌⊎◌}
use Rattle.std.proofs.lemmas.Bool.{cases_lt}
use Rattle.bk_laws.proofs.Truth.{either-swap}
use Rattle.bk_tiling.specs.SquareGroups.{square_groups}
use Rattle.bk_tiling.specs.Tiling.{IsTiling, Tiling}
use Rattle.bk_simple.specs.Simple.{IsSimple}
use Rattle.bk_layout.proofs.FreeCuts.FramedLines.{ordered}
use Rattle.bk_layout.proofs.TilingLayouts.LineEdges.{IsMark, same_node}
use Rattle.bk_layout.proofs.FreeCuts.Marks.{number_there, passes}
use Rattle.bk_layout.specs.SimpleLayout.{AreOutermost, HasOneBetween}
use Rattle.bk_layout.specs.TilingLayout.{layout_of, line_number}
use Rattle.bk_layout.proofs.TilingLayouts.GroupNodes.{IsNode}

module _ (t : Tiling) (tiling : IsTiling t) (simple : IsSimple t) where
  lines_exchanged : (f g u v : ℕ) → HasOneBetween (layout_of t) g f u v ⊎ AreOutermost (layout_of t) g f u v
      → HasOneBetween (layout_of t) f g u v ⊎ AreOutermost (layout_of t) f g u v
  lines_exchanged f g u v (inl h) = inl (record {
    square = h.square;
    within = h.within;
    left = either-swap h.left;
    right = either-swap h.right;
    above =
        h.above;
    under = h.under;
  })
  lines_exchanged f g u v (inr h) = inr (record { lines = by h.lines; nodes = h.nodes })
    where
      by : ((g ≡ 0) × (f ≡ 1)) ⊎ ((g ≡ 1) × (f ≡ 0)) → ((f ≡ 0) × (g ≡ 1)) ⊎ ((f ≡ 1) × (g ≡ 0))
      by (inl k) = inr (k.1, k.0)
      by (inr k) = inl (k.1, k.0)

  -- two nodes that two lines touch may be exchanged: one square between, or the walls
  pub nodes_exchanged : (f g u v : ℕ) → HasOneBetween (layout_of t) f g v u ⊎ AreOutermost (layout_of t) f g v u
      → HasOneBetween (layout_of t) f g u v ⊎ AreOutermost (layout_of t) f g u v
  nodes_exchanged f g u v (inl h) = inl (record
      { square = h.square; within = h.within; left = h.left; right = h.right; above = either-swap h.above; under = either-swap h.under })
  nodes_exchanged f g u v (inr h) = inr (record { lines = h.lines; nodes = by h.nodes })
    where
      by : ((v ≡ 0) × (u ≡ length (square_groups t.squares))) ⊎ ((v ≡ length (square_groups t.squares)) × (u ≡ 0))
          → ((u ≡ 0) × (v ≡ length (square_groups t.squares))) ⊎ ((u ≡ length (square_groups t.squares)) × (v ≡ 0))
      by (inl k) = inr (k.1, k.0)
      by (inr k) = inl (k.1, k.0)

  -- two lines that touch two nodes of different levels have one square between, or are the walls, with the top and the bottom
  pub by_columns : (f g u v : ℕ) (upper : IsNode t u) (lower : IsNode t v) (x z : ℕ) → IsMark t f x u upper → IsMark t f x v lower
      → IsMark t g z u upper → IsMark t g z v lower → upper.level < lower.level → (f ≡ g → ⊥)
      → HasOneBetween (layout_of t) f g u v ⊎ AreOutermost (layout_of t) f g u v
  by_columns f g u v upper lower x z a b c d high differ = cases (cases_lt x z) (cases_lt z x)
    where
      cases : (x < z) ⊎ (z ≤ x) → (z < x) ⊎ (x ≤ z) → HasOneBetween (layout_of t) f g u v ⊎ AreOutermost (layout_of t) f g u v
      cases (inl h) k = ordered t tiling simple f g u v upper lower x z a b c d high h
      cases (inr h) (inl k) = lines_exchanged f g u v (ordered t tiling simple g f u v upper lower z x c d a b high k)
      cases (inr h) (inr k) = let same : x ≡ z = omega arith in absurd (differ (
          sym (passes t tiling f x u v upper lower a b upper.level (omega arith) high)
          ∙ ap (λ (n : ℕ). line_number t n upper.level) same
          ∙ passes t tiling g z u v upper lower c d upper.level (omega arith) high))

  -- lines in one column that touch two nodes of one level, of which the second doesn't begin before the first ends, are one
  one_line : (f g u v : ℕ) (first : IsNode t u) (second : IsNode t v) (x z : ℕ) → IsMark t f x u first → IsMark t f x v second
      → IsMark t g z u first → IsMark t g z v second → first.level ≡ second.level → z ≡ x → first.right ≤ second.left → f ≡ g
  one_line f g u v first second x z a b c d level same order = number_there t tiling x u v first second level end begin f u first refl a
      ∙ sym (number_there t tiling x u v first second level end begin g u first refl (subst (λ (i : ℕ). IsMark t g i u first) same c))
    where
      end : first.right ≡ x
      end = omega (arith, order, a.to_right, b.from_left)

      begin : second.left ≡ x
      begin = omega (arith, order, a.to_right, b.from_left)

  -- two nodes of one level that both lines touch are one, or the lines are
  pub level_nodes : (f g u v : ℕ) (first : IsNode t u) (second : IsNode t v) (x z : ℕ) → IsMark t f x u first → IsMark t f x v second
      → IsMark t g z u first → IsMark t g z v second → first.level ≡ second.level → (f ≡ g → ⊥) → (u ≡ v → ⊥) → ⊥
  level_nodes f g u v first second x z a b c d level lines nodes =
      cases (cases_lt x z) (cases_lt z x) (cases_lt second.left first.right) (cases_lt first.left second.right)
    where
      over : (i : ℕ) → first.left ≤ i → i < first.right → second.left ≤ i → i < second.right → ⊥
      over i p q r s = nodes (same_node t tiling u v i first second level p q r s)

      meeting : second.left < first.right → first.left < second.right → ⊥
      meeting p q = by (cases_lt first.left second.left)
        where
          by : (first.left < second.left) ⊎ (second.left ≤ first.left) → ⊥
          by (inl r) = over second.left (omega arith) p (omega arith) second.some
          by (inr r) = over first.left (omega arith) first.some r q

      cases : (x < z) ⊎ (z ≤ x) → (z < x) ⊎ (x ≤ z) → (second.left < first.right) ⊎ (first.right ≤ second.left)
          → (first.left < second.right) ⊎ (second.right ≤ first.left) → ⊥
      cases (inl h) k m n = over x a.from_left (omega (arith, h, c.to_right)) b.from_left (omega (arith, h, d.to_right))
      cases (inr h) (inl k) m n = over z c.from_left (omega (arith, k, a.to_right)) d.from_left (omega (arith, k, b.to_right))
      cases (inr h) (inr k) (inl m) (inl n) = meeting m n
      cases (inr h) (inr k) (inr m) n = lines (one_line f g u v first second x z a b c d level (omega (arith, h, k)) m)
      cases (inr h) (inr k) (inl m) (inr n) = lines (one_line f g v u second first x z b a d c (sym level) (omega (arith, h, k)) n)
