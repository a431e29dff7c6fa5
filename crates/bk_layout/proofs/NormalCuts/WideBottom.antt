-- In a simple layout of two squares or more no single square reaches from wall to wall at the bottom.
use Rattle.std.proofs.Common.{Some, ap, arith, inl, inr, length, slice_get, subst, suc, sym, zero, ℕ, ◌<◌, ◌∙◌, ◌≡◌, ◌≤◌, ◌⊎◌}
use Rattle.std.proofs.lemmas.Bool.{cases_eq}
use Rattle.bk_laws.proofs.ListPlaces.{get_some, slice_get-only_item}
use Rattle.bk_laws.proofs.NumberOrder.{zero_or_positive}
use Rattle.bk_layout.specs.Layout.{Fits, Layout}
use Rattle.bk_layout.specs.SimpleLayout.{IsSimpleLayout}
use Rattle.bk_layout.specs.FreeCuts.{AreOuterWalls}
use Rattle.bk_layout.proofs.FreeCuts.WideNodes.{one_above, only_hanging}

module _ (l : Layout) (fits : Fits l) (simple : IsSimpleLayout l) (walls : AreOuterWalls l)
    (many : 2 ≤ l.squares) (q : ℕ) (at_bottom : l.below q ≡ l.bottom) (within : q < l.squares) (left : l.left q ≡ 0) (right : l.right q ≡ 1) where
  -- where it hangs from the top, no other node stands between
  module _ (at_top : l.above q ≡ 0) where
    only_top : (p : ℕ) → p < l.squares → l.above p ≡ 0 → p ≡ q
    only_top p h at = from (fits.lists.hangs p h) (fits.lists.hangs q within)
      where
        one : length (l.hanging 0) ≡ 1
        one = only_hanging l fits simple walls 0 q within at_top left right

        from : (k : ℕ) × (slice_get (l.hanging (l.above p)) k ≡ Some p) → (j : ℕ) × (slice_get (l.hanging (l.above q)) j ≡ Some q) → p ≡ q
        from (k, e) (j, f) = on (get_some (l.hanging 0) 0 (omega (arith, one)))
          where
            on : (x : ℕ) × (slice_get (l.hanging 0) 0 ≡ Some x) → p ≡ q
            on (x, g) = slice_get-only_item (l.hanging 0) k x p one g (subst (λ (u : ℕ). slice_get (l.hanging u) k ≡ Some p) at e)
                ∙ sym (slice_get-only_item (l.hanging 0) j x q one g (subst (λ (u : ℕ). slice_get (l.hanging u) j ≡ Some q) at_top f))

    all_top : (n v : ℕ) → fits.nodes.rank v < n → v < l.bottom → v ≡ 0
    all_top zero v rank low = absurd (omega arith)
    all_top (suc n) v rank low = cases (cases_eq v 0) (all_top n)
      where
        positive : (v : ℕ) → (v ≡ 0 → ⊥) → 0 < v
        positive v n = grind arith

        from : (p : ℕ) × (slice_get (l.ending v) 0 ≡ Some p) → ((u : ℕ) → fits.nodes.rank u < n → u < l.bottom → u ≡ 0) → v ≡ 0
        from (p, e) rest = absurd (omega (arith, low, sym h.1, ap l.below same, at_bottom))
          where
            h : (p < l.squares) × (l.below p ≡ v)
            h = fits.lists.ending_is v 0 p e

            same : p ≡ q
            same = only_top p h.0 (rest (l.above p) (omega (arith, fits.nodes.rises p h.0, ap fits.nodes.rank h.1, rank)) (fits.nodes.hangs_above p h.0))

        cases : (v ≡ 0) ⊎ (v ≡ 0 → ⊥) → ((u : ℕ) → fits.nodes.rank u < n → u < l.bottom → u ≡ 0) → v ≡ 0
        cases (inl e) rest = e
        cases (inr e) rest = from (get_some (l.ending v) 0 (fits.nodes.ending_some v (positive v e) (omega (arith, low)))) rest

    only_one : ⊥
    only_one = omega (arith, each 0 (omega (arith, many)), each 1 (omega (arith, many)))
      where
        each : (p : ℕ) → p < l.squares → p ≡ q
        each p h = only_top p h (all_top (suc (fits.nodes.rank (l.above p))) (l.above p) (omega arith) (fits.nodes.hangs_above p h))

  -- no single square ends on the bottom, where there are two squares or more
  pub no_wide_bottom : ⊥
  no_wide_bottom = cases (zero_or_positive (l.above q))
    where
      cases : (l.above q ≡ 0) ⊎ (0 < l.above q) → ⊥
      cases (inl e) = only_one e
      cases (inr h) = simple.pairs (l.above q)
          (one_above l fits simple walls (l.above q) h (fits.nodes.hangs_above q within)
          (record { square = q; within = within; beside = inl left; at = inl (omega arith) })
          (record { square = q; within = within; beside = inr right; at = inl (omega arith) }))
          (only_hanging l fits simple walls (l.above q) q within (omega arith) left right)
