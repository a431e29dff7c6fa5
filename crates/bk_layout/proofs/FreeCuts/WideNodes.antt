-- In a simple layout no node but the top and the bottom reaches from wall to wall.
use Rattle.std.proofs.Common.{Some, ap, arith, inl, inr, length, slice_get, subst, suc, sym, zero, ℕ, ◌<◌, ◌∙◌, ◌≡◌, ◌⊎◌}
use Rattle.std.proofs.lemmas.Option.{slice_get_within}
use Rattle.bk_laws.proofs.ListPlaces.{get_some}
use Rattle.bk_layout.specs.Layout.{Fits, IsLast, Layout}
use Rattle.bk_layout.specs.SimpleLayout.{AreOutermost, HasOneBetween, IsSimpleLayout, Touches}
use Rattle.bk_layout.specs.FreeCuts.{AreOuterWalls}
use Rattle.bk_layout.proofs.FreeCuts.TouchingWalls.{top_left, top_right}

module _ (l : Layout) (fits : Fits l) (simple : IsSimpleLayout l) (walls : AreOuterWalls l) where
  -- a square from wall to wall is the only one that hangs from its node
  pub only_hanging : (v r : ℕ) → r < l.squares → l.above r ≡ v → l.left r ≡ 0 → l.right r ≡ 1 → length (l.hanging v) ≡ 1
  only_hanging v r h at left right = from (fits.lists.hangs r h)
    where
      by_place : (k : ℕ) → slice_get (l.hanging v) k ≡ Some r → length (l.hanging v) ≡ 1
      by_place (suc k) e = absurd (before (get_some (l.hanging v) k (omega (arith, slice_get_within (l.hanging v) (suc k) r e))))
        where
          before : (p : ℕ) × (slice_get (l.hanging v) k ≡ Some p) → ⊥
          before (p, f) = walls.not_before p (fits.lists.hanging_is v k p f).0 (fits.lines.between v p r (k, f, e) ∙ left)
      by_place zero e = cases (two (length (l.hanging v)) (slice_get_within (l.hanging v) 0 r e))
        where
          two : (n : ℕ) → 0 < n → (n ≡ 1) ⊎ (1 < n)
          two n some = grind arith

          behind : (p : ℕ) × (slice_get (l.hanging v) 1 ≡ Some p) → ⊥
          behind (p, f) = walls.not_beyond p (fits.lists.hanging_is v 1 p f).0 (sym (fits.lines.between v r p (0, e, f)) ∙ right)

          cases : (length (l.hanging v) ≡ 1) ⊎ (1 < length (l.hanging v)) → length (l.hanging v) ≡ 1
          cases (inl one) = one
          cases (inr more) = absurd (behind (get_some (l.hanging v) 1 more))

      from : (k : ℕ) × (slice_get (l.hanging (l.above r)) k ≡ Some r) → length (l.hanging v) ≡ 1
      from (k, e) = by_place k (subst (λ (u : ℕ). slice_get (l.hanging u) k ≡ Some r) at e)

  -- a square from wall to wall is the only one that ends on its node
  only_ending : (v p : ℕ) → p < l.squares → l.below p ≡ v → l.left p ≡ 0 → l.right p ≡ 1 → length (l.ending v) ≡ 1
  only_ending v p h at left right = subst (λ (u : ℕ). length (l.ending u) ≡ 1) at (from (fits.go_on.at_right_wall p h right))
    where
      from : IsLast (l.ending (l.below p)) p → length (l.ending (l.below p)) ≡ 1
      from (k, long, e) = omega (arith, long, fits.lists.ending_once (l.below p) k 0 p e (fits.go_on.at_left_wall p h left))

  -- one square between the walls and two nodes
  record IsAcross (u v : ℕ) : Type 0 where
    square : ℕ
    within : square < l.squares
    left : l.left square ≡ 0
    right : l.right square ≡ 1
    nodes : ((l.above square ≡ u) × (l.below square ≡ v)) ⊎ ((l.above square ≡ v) × (l.below square ≡ u))

  across : (u v : ℕ) → HasOneBetween l 0 1 u v → IsAcross u v
  across u v b = record { square = b.square; within = b.within; left = left b.left; right = right b.right; nodes = nodes b.above b.under }
    where
      left : (l.left b.square ≡ 0) ⊎ (l.left b.square ≡ 1) → l.left b.square ≡ 0
      left (inl e) = e
      left (inr e) = absurd (walls.not_beyond b.square b.within e)

      right : (l.right b.square ≡ 0) ⊎ (l.right b.square ≡ 1) → l.right b.square ≡ 1
      right (inl e) = absurd (walls.not_before b.square b.within e)
      right (inr e) = e

      down : l.above b.square ≡ l.below b.square → ⊥
      down e = omega (arith, fits.nodes.rises b.square b.within, ap fits.nodes.rank e)

      nodes : (l.above b.square ≡ u) ⊎ (l.above b.square ≡ v) → (l.below b.square ≡ u) ⊎ (l.below b.square ≡ v)
          → ((l.above b.square ≡ u) × (l.below b.square ≡ v)) ⊎ ((l.above b.square ≡ v) × (l.below b.square ≡ u))
      nodes (inl e) (inl f) = absurd (down (e ∙ sym f))
      nodes (inl e) (inr f) = inl (e, f)
      nodes (inr e) (inl f) = inr (e, f)
      nodes (inr e) (inr f) = absurd (down (e ∙ sym f))

  no_wall_twice : (n : ℕ) → n ≡ 0 → n ≡ 1 → ⊥
  no_wall_twice n e f = omega (arith, e, f)

  module _ (v : ℕ) (some : 0 < v) (low : v < l.bottom) (touch_left : Touches l 0 v) (touch_right : Touches l 1 v) where
    -- above a node between, from wall to wall, is one square
    pub one_above : length (l.ending v) ≡ 1
    one_above = cases (simple.parts 0 1 0 v (λ e. no_wall_twice 0 (omega arith) e) (λ e. omega (arith, e, some))
        (top_left l fits) touch_left (top_right l fits) touch_right)
      where
        by_nodes : (a : IsAcross 0 v) → ((l.above a.square ≡ 0) × (l.below a.square ≡ v))
            ⊎ ((l.above a.square ≡ v) × (l.below a.square ≡ 0)) → length (l.ending v) ≡ 1
        by_nodes a (inl (e, f)) = only_ending v a.square a.within f a.left a.right
        by_nodes a (inr (e, f)) = absurd (omega (arith, f, (fits.nodes.ends_below a.square a.within).0))

        outer : (u : ℕ) → ((u ≡ 0) × (v ≡ l.bottom)) ⊎ ((u ≡ l.bottom) × (v ≡ 0)) → ⊥
        outer u (inl (e, f)) = omega (arith, f, low)
        outer u (inr (e, f)) = omega (arith, f, some)

        cases : HasOneBetween l 0 1 0 v ⊎ AreOutermost l 0 1 0 v → length (l.ending v) ≡ 1
        cases (inl b) = let a = across 0 v b in by_nodes a a.nodes
        cases (inr o) = absurd (outer 0 o.nodes)

    -- below a node between, where the walls touch the bottom, is one square
    one_under : Touches l 0 l.bottom → Touches l 1 l.bottom → length (l.hanging v) ≡ 1
    one_under bottom_left bottom_right = cases
        (simple.parts 0 1 v l.bottom (λ e. no_wall_twice 0 (omega arith) e) (λ e. omega (arith, e, low)) touch_left bottom_left touch_right bottom_right)
      where
        by_nodes : (a : IsAcross v l.bottom) → ((l.above a.square ≡ v) × (l.below a.square ≡ l.bottom))
            ⊎ ((l.above a.square ≡ l.bottom) × (l.below a.square ≡ v)) → length (l.hanging v) ≡ 1
        by_nodes a (inl (e, f)) = only_hanging v a.square a.within e a.left a.right
        by_nodes a (inr (e, f)) = absurd (omega (arith, e, fits.nodes.hangs_above a.square a.within))

        outer : ((v ≡ 0) × (l.bottom ≡ l.bottom)) ⊎ ((v ≡ l.bottom) × (l.bottom ≡ 0)) → ⊥
        outer (inl (e, f)) = omega (arith, e, some)
        outer (inr (e, f)) = omega (arith, e, low)

        cases : HasOneBetween l 0 1 v l.bottom ⊎ AreOutermost l 0 1 v l.bottom → length (l.hanging v) ≡ 1
        cases (inl b) = let a = across v l.bottom b in by_nodes a a.nodes
        cases (inr o) = absurd (outer o.nodes)

    -- no node between the top and the bottom reaches from wall to wall
    pub no_wide_node : Touches l 0 l.bottom → Touches l 1 l.bottom → ⊥
    no_wide_node bottom_left bottom_right = simple.pairs v one_above (one_under bottom_left bottom_right)
