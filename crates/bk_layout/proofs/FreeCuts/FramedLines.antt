-- Two lines of a simple tiling that touch two nodes frame a rectangle, so they have one square between, or all.
use Rattle.std.proofs.Common.{arith, inl, inr, length, refl, subst, sym, ℕ, ◌+◌, ◌<◌, ◌∙◌, ◌≡◌, ◌⊎◌}
use Rattle.bk_laws.proofs.NumberOrder.{meeting_intervals-common}
use Rattle.bk_tiling.specs.SquareGroups.{square_groups}
use Rattle.bk_tiling.specs.Tiling.{IsTiling, Tiling}
use Rattle.bk_tiling.specs.declared.Square.{Square}
use Rattle.bk_simple.specs.Simple.{IsSimple}
use Rattle.bk_net.specs.Diagram.{node_below}
use Rattle.bk_layout.proofs.TilingLayouts.Edges.{side}
use Rattle.bk_layout.proofs.FreeCuts.Frames.{IsAll, IsFrame, IsOne, one_or_all}
use Rattle.bk_layout.proofs.TilingLayouts.LineNumbers.{number_left, number_right}
use Rattle.bk_layout.proofs.TilingLayouts.LineEdges.{IsMark, same_node}
use Rattle.bk_layout.proofs.FreeCuts.Marks.{clear, passes}
use Rattle.bk_layout.proofs.TilingLayouts.NodeColumns.{level_within}
use Rattle.bk_layout.proofs.TilingLayouts.TilingSquares.{HasNumber, has_number}
use Rattle.bk_layout.proofs.TilingLayouts.TilingSquares.{node_at}
use Rattle.bk_layout.specs.SimpleLayout.{AreOutermost, HasOneBetween}
use Rattle.bk_layout.specs.TilingLayout.{layout_of, line_number, node_above}
use Rattle.bk_layout.proofs.TilingLayouts.GroupNodes.{IsNode}

-- the second line further to the right, the second node further down
module _ (t : Tiling) (tiling : IsTiling t) (simple : IsSimple t) (f g u v : ℕ) (upper : IsNode t u) (lower : IsNode t v) (x z : ℕ)
    (a : IsMark t f x u upper) (b : IsMark t f x v lower) (c : IsMark t g z u upper) (d : IsMark t g z v lower)
    (high : upper.level < lower.level) (wide : x < z) where
  frame : IsFrame t x z upper.level lower.level
  frame = record {
    wide = wide;
    high = high;
    within_width = omega (arith, c.to_right, upper.wide);
    within_height = level_within t tiling v lower;
    at_left = λ q h l r m n. let y = meeting_intervals-common q.y (q.y + q.s) upper.level lower.level (omega (arith, side t tiling q h)) high m n in
        clear t tiling f x u v upper lower a b y.0 q y.3 y.4 h l r y.1 y.2;
    at_right = λ q h l r m n. let y = meeting_intervals-common q.y (q.y + q.s) upper.level lower.level (omega (arith, side t tiling q h)) high m n in
        clear t tiling g z u v upper lower c d y.0 q y.3 y.4 h l r y.1 y.2;
    at_top = λ q h l r m n. let i = meeting_intervals-common q.x (q.x + q.s) x z (omega (arith, side t tiling q h)) wide m n in
        omega (
          arith,
          l,
          upper.under q i.0 h (omega (arith, i.3, a.from_left)) (omega (arith, i.4, c.to_right))
              (record { left = i.1; right = i.2; top = omega (arith, l); bottom = r }),
        );
    at_bottom = λ q h l r m n. let i = meeting_intervals-common q.x (q.x + q.s) x z (omega (arith, side t tiling q h)) wide m n in
        omega (
          arith,
          l,
          lower.under q i.0 h (omega (arith, i.3, b.from_left)) (omega (arith, i.4, d.to_right))
              (record { left = i.1; right = i.2; top = omega (arith, l); bottom = r }),
        );
  }

  one_between : IsOne t tiling simple x z upper.level lower.level frame → HasOneBetween (layout_of t) f g u v
  one_between one = record {
    square = k.number;
    within = k.below;
    left = inl (subst (λ (q : Square). line_number t q.x q.y ≡ f) (sym k.is)
        (left_line ∙ passes t tiling f x u v upper lower a b upper.level (omega arith) high));
    right = inr (subst (λ (q : Square). line_number t (q.x + q.s) q.y ≡ g) (sym k.is)
        (right_line ∙ passes t tiling g z u v upper lower c d upper.level (omega arith) high));
    above = inl (subst (λ (q : Square). node_above (square_groups t.squares) q ≡ u) (sym k.is)
        (upper.hang_from one.square x one.is one.top_is a.from_left (omega (arith, wide, c.to_right)) (omega (arith, one.left_is))
        (omega (arith, one.right_is, wide))));
    under = inr (subst (λ (q : Square). node_below (square_groups t.squares) q ≡ v) (sym k.is)
        (lower.end_from one.square x one.is one.bottom_is b.from_left (omega (arith, wide, d.to_right)) (omega (arith, one.left_is))
        (omega (arith, one.right_is, wide))));
  }
    where
      k : HasNumber t tiling one.square
      k = has_number t tiling one.square one.is

      left_line : line_number t (one.square).x (one.square).y ≡ line_number t x upper.level
      left_line = λ i. line_number t (one.left_is i) (one.top_is i)

      right_line : line_number t ((one.square).x + (one.square).s) (one.square).y ≡ line_number t z upper.level
      right_line = λ i. line_number t (one.right_is i) (one.top_is i)

  outermost : IsAll t tiling simple x z upper.level lower.level frame → AreOutermost (layout_of t) f g u v
  outermost all = record { lines = inl (left, right); nodes = inl (top, bottom lower.inner) }
    where
      left : f ≡ 0
      left = sym a.line ∙ number_left t x a.square.y all.left_is

      right : g ≡ 1
      right = sym c.line ∙ number_right t z c.square.y (omega (arith, wide)) all.right_is

      first : IsNode t 0
      first = node_at t tiling 0 (omega arith)

      top : u ≡ 0
      top = same_node t tiling u 0 x upper first (all.top_is ∙ sym (first.top refl).0) a.from_left (omega (arith, wide, c.to_right))
          (omega (arith, (first.top refl).1)) (omega (arith, (first.top refl).2, wide, all.right_is))

      bottom : ((v < length (square_groups t.squares)) × (lower.level < t.height))
          ⊎ ((v ≡ length (square_groups t.squares)) × (lower.level ≡ t.height) × (lower.left ≡ 0) × (lower.right ≡ t.width))
          → v ≡ length (square_groups t.squares)
      bottom (inl m) = absurd (omega (arith, m.1, all.bottom_is))
      bottom (inr m) = m.0

  -- two lines, the second further to the right, and two nodes, the second further down, that they touch have one square between, or all
  pub ordered : HasOneBetween (layout_of t) f g u v ⊎ AreOutermost (layout_of t) f g u v
  ordered = cases (one_or_all t tiling simple x z upper.level lower.level frame)
    where
      cases : IsOne t tiling simple x z upper.level lower.level frame ⊎ IsAll t tiling simple x z upper.level lower.level frame
          → HasOneBetween (layout_of t) f g u v ⊎ AreOutermost (layout_of t) f g u v
      cases (inl one) = inl (one_between one)
      cases (inr all) = inr (outermost all)
