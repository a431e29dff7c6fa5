-- The walls of a layout touch the top, and each node on which squares end from wall to wall.
use Rattle.std.proofs.Common.{Some, arith, inl, inr, length, slice_get, suc, sym, zero, ℕ, ◌<◌, ◌≡◌}
use Rattle.bk_laws.proofs.ListPlaces.{get_some}
use Rattle.bk_layout.specs.Layout.{Fits, IsFirst, IsLast, Layout}
use Rattle.bk_layout.specs.SimpleLayout.{Touches}

module _ (l : Layout) (fits : Fits l) where
  -- the walls touch the top
  pub top_left : Touches l 0 0
  top_left = from (get_some (l.hanging 0) 0 (fits.nodes.hanging_some 0 fits.some))
    where
      from : (p : ℕ) × (slice_get (l.hanging 0) 0 ≡ Some p) → Touches l 0 0
      from (p, e) = let h = fits.lists.hanging_is 0 0 p e in record { square = p; within = h.0; beside = inl (fits.lines.top_left p e); at = inl h.1 }

  -- the right wall touches the top
  pub top_right : Touches l 1 0
  top_right = from (length (l.hanging 0)) refl_length (fits.nodes.hanging_some 0 fits.some)
    where
      refl_length : length (l.hanging 0) ≡ length (l.hanging 0)
      refl_length = omega arith

      from : (n : ℕ) → length (l.hanging 0) ≡ n → 0 < length (l.hanging 0) → Touches l 1 0
      from zero e some = absurd (omega (arith, e, some))
      from (suc k) e some = on (get_some (l.hanging 0) k (omega (arith, e)))
        where
          on : (p : ℕ) × (slice_get (l.hanging 0) k ≡ Some p) → Touches l 1 0
          on (p, f) = let h = fits.lists.hanging_is 0 k p f in
              record { square = p; within = h.0; beside = inr (fits.lines.top_right p (k, sym e, f)); at = inl h.1 }

  module _ (v : ℕ) (some : 0 < length (l.ending v)) (from_wall : (q : ℕ) → IsFirst (l.ending v) q → l.left q ≡ 0)
      (to_wall : (q : ℕ) → IsLast (l.ending v) q → l.right q ≡ 1) where
    -- the walls touch a node on which squares end from wall to wall
    pub ends_left : Touches l 0 v
    ends_left = from (get_some (l.ending v) 0 some)
      where
        from : (p : ℕ) × (slice_get (l.ending v) 0 ≡ Some p) → Touches l 0 v
        from (p, e) = let h = fits.lists.ending_is v 0 p e in record { square = p; within = h.0; beside = inl (from_wall p e); at = inr h.1 }

    -- the right wall touches a node on which squares end from wall to wall
    pub ends_right : Touches l 1 v
    ends_right = from (length (l.ending v)) refl_length
      where
        refl_length : length (l.ending v) ≡ length (l.ending v)
        refl_length = omega arith

        from : (n : ℕ) → length (l.ending v) ≡ n → Touches l 1 v
        from zero e = absurd (omega (arith, e, some))
        from (suc k) e = on (get_some (l.ending v) k (omega (arith, e)))
          where
            on : (p : ℕ) × (slice_get (l.ending v) k ≡ Some p) → Touches l 1 v
            on (p, f) = let h = fits.lists.ending_is v k p f in record { square = p; within = h.0; beside = inr (to_wall p (k, sym e, f)); at = inr h.1 }
