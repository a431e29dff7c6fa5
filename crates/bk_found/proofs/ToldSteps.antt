-- The longest squares in corners, with one square more.
use Rattle.std.specs.Prelude.{cond, max, nat_abs, pos, ◌&&◌, ◌||◌}
use Rattle.std.proofs.Common.{Bool, ap, arith, false, refl, slice_index_or, suc, sym, true, ℕ, ◌+◌, ◌∙◌, ◌≡◌}
use Rattle.bk_found.specs.ToldCorners.{AreLongestTold, Lines, contact_at, greatest_below, in_bottom_corner, in_left_corner, in_right_corner}
use Rattle.bk_found.specs.ToldCorners.{in_top_corner, side_in}
use Rattle.bk_found.specs.declared.corners.Contact.{Contact}
use Rattle.bk_found.specs.declared.corners.Longest.{Longest}

module _ (l : Lines) (k : ℕ) (old : Longest) (told : AreLongestTold l k old) where
  next : k + 1 ≡ suc k
  next = omega arith

  one : (corner : Contact → Bool) (a b : ℕ) → a ≡ greatest_below (side_in corner l) k → b ≡ max a (side_in corner l k)
      → b ≡ greatest_below (side_in corner l) (k + 1)
  one corner a b e f = f ∙ ap (λ (n : ℕ). max n (side_in corner l k)) e ∙ ap (greatest_below (side_in corner l)) (sym next)

  -- one that may lie in a corner
  pub told_more : (new : Longest) (c : Contact) (side : ℕ) → c ≡ contact_at l k → side ≡ nat_abs (slice_index_or l.currents k (pos 0))
      → new.top ≡ max old.top (cond (in_top_corner c) side 0) → new.bottom ≡ max old.bottom (cond (in_bottom_corner c) side 0)
      → new.left ≡ max old.left (cond (in_left_corner c) side 0) → new.right ≡ max old.right (cond (in_right_corner c) side 0)
      → AreLongestTold l (k + 1) new
  told_more new c side is side_is top bottom left right = record {
    top = one in_top_corner old.top new.top told.top (top ∙ (λ i. max old.top (cond (in_top_corner (is i)) (side_is i) 0)));
    bottom = one in_bottom_corner old.bottom new.bottom told.bottom (bottom ∙ (λ i. max old.bottom (cond (in_bottom_corner (is i)) (side_is i) 0)));
    left = one in_left_corner old.left new.left told.left (left ∙ (λ i. max old.left (cond (in_left_corner (is i)) (side_is i) 0)));
    right = one in_right_corner old.right new.right told.right (right ∙ (λ i. max old.right (cond (in_right_corner (is i)) (side_is i) 0)));
  }

  -- one that touches neither top nor bottom
  none : (corner : Contact → Bool) (a : ℕ) → a ≡ greatest_below (side_in corner l) k → corner (contact_at l k) ≡ false
      → a ≡ greatest_below (side_in corner l) (k + 1)
  none corner a e out = one corner a a e (zero_more ∙ ap (λ (b : Bool). max a (cond b (nat_abs (slice_index_or l.currents k (pos 0))) 0)) (sym out))
    where
      zero_more : a ≡ max a 0
      zero_more = omega arith

  and_false : (x : Bool) → (x && false) ≡ false
  and_false true = refl
  and_false false = refl

  -- a square that touches neither the top nor the bottom changes none of the longest corners
  pub told_none : (contact_at l k).top ≡ false → (contact_at l k).bottom ≡ false → AreLongestTold l (k + 1) old
  told_none top bottom = record {
    top = none in_top_corner old.top told.top (ap (λ (x : Bool). x && ((contact_at l k).left || (contact_at l k).right)) top);
    bottom = none in_bottom_corner old.bottom told.bottom (ap (λ (x : Bool). x && ((contact_at l k).left || (contact_at l k).right)) bottom);
    left = none in_left_corner old.left told.left ((λ i. (contact_at l k).left && (top i || bottom i)) ∙ and_false (contact_at l k).left);
    right = none in_right_corner old.right told.right ((λ i. (contact_at l k).right && (top i || bottom i)) ∙ and_false (contact_at l k).right);
  }
