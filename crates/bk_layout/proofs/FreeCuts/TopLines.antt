-- In a simple layout of three squares or more no line but the walls goes down from the top to the bottom.
use Rattle.std.proofs.Common.{Some, ap, arith, inl, inr, max, slice_get, subst, suc, sym, zero, false, true, Bool, refl, ℕ, ◌+◌, ◌<◌, ◌∙◌, ◌≡◌, ◌≤◌, ◌⊎◌}
use Rattle.std.proofs.lemmas.Option.{same_Some, slice_get_within}
use Rattle.bk_laws.proofs.ListPlaces.{get_some}
use Rattle.bk_laws.proofs.NumberOrder.{le-same_or_less, le_suc-last_or_less, three_numbers-not_two}
use Rattle.bk_layout.specs.Layout.{AreNeighbours, Fits, IsFirst, IsLast, Layout}
use Rattle.bk_layout.specs.SimpleLayout.{AreOutermost, HasOneBetween, IsSimpleLayout, Touches}
use Rattle.bk_layout.specs.FreeCuts.{AreOuterWalls}
use Rattle.bk_layout.proofs.FreeCuts.TouchingWalls.{top_left, top_right}

-- the greatest value up to a number
abbrev most : (ℕ → ℕ) → ℕ → ℕ
most f zero = f 0
most f (suc b) = max (f (suc b)) (most f b)

at_most : (f : ℕ → ℕ) (b v : ℕ) → v ≤ b → f v ≤ most f b
at_most f zero v h = subst (λ (u : ℕ). f u ≤ f 0) (sym none) (omega arith)
  where
    none : v ≡ 0
    none = omega (arith, h)
at_most f (suc b) v h = cases (le_suc-last_or_less v b h) (at_most f b v)
  where
    cases : (v ≡ suc b) ⊎ (v ≤ b) → (v ≤ b → f v ≤ most f b) → f v ≤ max (f (suc b)) (most f b)
    cases (inl e) rest = omega (arith, ap f e)
    cases (inr k) rest = omega (arith, rest k)

module _ (l : Layout) (fits : Fits l) (simple : IsSimpleLayout l) (walls : AreOuterWalls l) where
  -- a square from the top to the bottom between two lines
  record IsDown (f g : ℕ) : Type 0 where
    square : ℕ
    within : square < l.squares
    left : l.left square ≡ f
    right : l.right square ≡ g
    top : l.above square ≡ 0
    bottom : l.below square ≡ l.bottom

  down : (f g : ℕ) → HasOneBetween l f g 0 l.bottom → ((q : ℕ) → q < l.squares → l.left q ≡ g → l.right q ≡ f → ⊥) → IsDown f g
  down f g b exchanged = record {
    square = b.square;
    within = b.within;
    left = (sides b.left b.right).0;
    right = (sides b.left b.right).1;
    top = (nodes b.above b.under).0;
    bottom = (nodes b.above b.under).1;
  }
    where
      sides : (l.left b.square ≡ f) ⊎ (l.left b.square ≡ g) → (l.right b.square ≡ f) ⊎ (l.right b.square ≡ g) → (l.left b.square ≡ f) × (l.right b.square ≡ g)
      sides (inl e) (inl h) = absurd (walls.apart b.square b.within (e ∙ sym h))
      sides (inl e) (inr h) = (e, h)
      sides (inr e) (inl h) = absurd (exchanged b.square b.within e h)
      sides (inr e) (inr h) = absurd (walls.apart b.square b.within (e ∙ sym h))

      nodes : (l.above b.square ≡ 0) ⊎ (l.above b.square ≡ l.bottom) → (l.below b.square ≡ 0) ⊎ (l.below b.square ≡ l.bottom)
          → (l.above b.square ≡ 0) × (l.below b.square ≡ l.bottom)
      nodes (inl e) (inr h) = (e, h)
      nodes e (inl h) = absurd (omega (arith, h, (fits.nodes.ends_below b.square b.within).0))
      nodes (inr e) h = absurd (omega (arith, e, fits.nodes.hangs_above b.square b.within))

  -- two squares side by side from the top to the bottom are all
  module _ (many : 3 ≤ l.squares) (f : ℕ) (a : IsDown 0 f) (b : IsDown f 1) where
    ends_there : (q : ℕ) → l.below q ≡ l.bottom → l.below q < l.bottom → ⊥
    ends_there q e h = omega (arith, e, h)

    flag : (p : Bool) → (p ≡ true → ⊥) → p ≡ false
    flag true n = absurd (n refl)
    flag false n = refl

    side_by_side : AreNeighbours (l.ending l.bottom) a.square b.square
    side_by_side = subst (λ (u : ℕ). AreNeighbours (l.ending u) a.square b.square) a.bottom
        (fits.go_on.meet a.square b.square a.within b.within (a.right ∙ sym b.left)
        (flag (l.goes_right a.square) (λ e. ends_there a.square a.bottom (fits.go_on.on_right a.square a.within e).1))
        (flag (l.goes_left b.square) (λ e. ends_there b.square b.bottom (fits.go_on.on_left b.square b.within e).1)))

    first : IsFirst (l.ending l.bottom) a.square
    first = subst (λ (u : ℕ). IsFirst (l.ending u) a.square) a.bottom (fits.go_on.at_left_wall a.square a.within a.left)

    last : IsLast (l.ending l.bottom) b.square
    last = subst (λ (u : ℕ). IsLast (l.ending u) b.square) b.bottom (fits.go_on.at_right_wall b.square b.within b.right)

    -- the two are all that ends on the bottom
    only_two : (z : ℕ) → z < l.squares → l.below z ≡ l.bottom → (z ≡ a.square) ⊎ (z ≡ b.square)
    only_two z h at = from (subst (λ (u : ℕ). (k : ℕ) × (slice_get (l.ending u) k ≡ Some z)) at (fits.lists.ends z h))
      where
        from : (k : ℕ) × (slice_get (l.ending l.bottom) k ≡ Some z) → (z ≡ a.square) ⊎ (z ≡ b.square)
        from (zero, e) = inl (same_Some z a.square (sym e ∙ first))
        from (suc k, e) = inr (same_Some z b.square (sym e ∙ (λ i. slice_get (l.ending l.bottom) (same i)) ∙ last.2))
          where
            at_one : suc side_by_side.0 ≡ last.0
            at_one = fits.lists.ending_once l.bottom (suc side_by_side.0) last.0 b.square side_by_side.2 last.2

            at_none : side_by_side.0 ≡ 0
            at_none = fits.lists.ending_once l.bottom side_by_side.0 0 a.square side_by_side.1 first

            same : suc k ≡ last.0
            same = omega (arith, slice_get_within (l.ending l.bottom) (suc k) z e, last.1, at_one, at_none)

    no_top : (z : ℕ) → (z ≡ a.square) ⊎ (z ≡ b.square) → l.above z ≡ 0
    no_top z (inl e) = ap l.above e ∙ a.top
    no_top z (inr e) = ap l.above e ∙ b.top

    -- so no node stands between
    none_between : (n v : ℕ) → most fits.nodes.rank l.bottom < fits.nodes.rank v + n → 0 < v → v < l.bottom → ⊥
    none_between zero v rank some low = omega (arith, rank, at_most fits.nodes.rank l.bottom v (omega (arith, low)))
    none_between (suc n) v rank some low = from (get_some (l.hanging v) 0 (fits.nodes.hanging_some v low)) (none_between n)
      where
        from : (z : ℕ) × (slice_get (l.hanging v) 0 ≡ Some z) → ((u : ℕ) → most fits.nodes.rank l.bottom < fits.nodes.rank u + n → 0 < u → u < l.bottom → ⊥) → ⊥
        from (z, e) rest = cases (le-same_or_less (l.below z) l.bottom (fits.nodes.ends_below z z_is.0).1)
          where
            z_is : (z < l.squares) × (l.above z ≡ v)
            z_is = fits.lists.hanging_is v 0 z e

            cases : (l.below z ≡ l.bottom) ⊎ (l.below z < l.bottom) → ⊥
            cases (inl f) = omega (arith, some, z_is.1, no_top z (only_two z z_is.0 f))
            cases (inr k) = rest (l.below z) (omega (arith, rank, fits.nodes.rises z z_is.0, ap fits.nodes.rank z_is.1)) (fits.nodes.ends_below z z_is.0).0 k

    only : (z : ℕ) → z < l.squares → (z ≡ a.square) ⊎ (z ≡ b.square)
    only z h = only_two z h (cases (le-same_or_less (l.below z) l.bottom (fits.nodes.ends_below z h).1))
      where
        cases : (l.below z ≡ l.bottom) ⊎ (l.below z < l.bottom) → l.below z ≡ l.bottom
        cases (inl e) = e
        cases (inr k) = absurd (none_between (suc (most fits.nodes.rank l.bottom)) (l.below z) (omega arith) (fits.nodes.ends_below z h).0 k)

    no_two : ⊥
    no_two = three_numbers-not_two a.square b.square (only 0 (omega (arith, many))) (only 1 (omega (arith, many))) (only 2 (omega (arith, many)))

  -- a line between two squares that hang from the top does not come to the bottom
  pub no_line_down : 3 ≤ l.squares → Touches l 0 l.bottom → Touches l 1 l.bottom → (p q z : ℕ) → AreNeighbours (l.hanging 0) p q
      → z < l.squares → l.below z ≡ l.bottom → l.left z ≡ l.left q → ⊥
  no_line_down many bottom_left bottom_right p q z (k, e, g) h at line =
      no_two many (l.left q) (down 0 (l.left q) at_left (λ x w c d. walls.not_before x w d)) (down (l.left q) 1 at_right (λ x w c d. walls.not_beyond x w c))
    where
      p_is : (p < l.squares) × (l.above p ≡ 0)
      p_is = fits.lists.hanging_is 0 k p e

      q_is : (q < l.squares) × (l.above q ≡ 0)
      q_is = fits.lists.hanging_is 0 (suc k) q g

      not_left : 0 ≡ l.left q → ⊥
      not_left f = walls.not_before p p_is.0 (fits.lines.between 0 p q (k, e, g) ∙ sym f)

      not_right : l.left q ≡ 1 → ⊥
      not_right f = walls.not_beyond q q_is.0 f

      nodes_apart : 0 ≡ l.bottom → ⊥
      nodes_apart f = omega (arith, f, fits.some)

      touch_top : Touches l (l.left q) 0
      touch_top = record { square = q; within = q_is.0; beside = inl refl; at = inl q_is.1 }

      touch_bottom : Touches l (l.left q) l.bottom
      touch_bottom = record { square = z; within = h; beside = inl line; at = inr at }

      one_of : (f g : ℕ) → ((f ≡ 0) × (g ≡ 1)) ⊎ ((f ≡ 1) × (g ≡ 0)) → (f ≡ 0 → g ≡ 1 → ⊥) → (f ≡ 1 → g ≡ 0 → ⊥) → ⊥
      one_of f g (inl c) m n = m c.0 c.1
      one_of f g (inr c) m n = n c.0 c.1

      at_left : HasOneBetween l 0 (l.left q) 0 l.bottom
      at_left = cases (simple.parts 0 (l.left q) 0 l.bottom not_left nodes_apart (top_left l fits) bottom_left touch_top touch_bottom)
        where
          cases : HasOneBetween l 0 (l.left q) 0 l.bottom ⊎ AreOutermost l 0 (l.left q) 0 l.bottom → HasOneBetween l 0 (l.left q) 0 l.bottom
          cases (inl c) = c
          cases (inr o) = absurd (one_of 0 (l.left q) o.lines (λ c d. not_right d) (λ c d. not_left (sym d)))

      at_right : HasOneBetween l (l.left q) 1 0 l.bottom
      at_right = cases (simple.parts (l.left q) 1 0 l.bottom not_right nodes_apart touch_top touch_bottom (top_right l fits) bottom_right)
        where
          cases : HasOneBetween l (l.left q) 1 0 l.bottom ⊎ AreOutermost l (l.left q) 1 0 l.bottom → HasOneBetween l (l.left q) 1 0 l.bottom
          cases (inl c) = c
          cases (inr o) = absurd (one_of (l.left q) 1 o.lines (λ c d. not_left (sym c)) (λ c d. not_right c))
