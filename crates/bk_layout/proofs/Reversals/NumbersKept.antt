-- The numbers of a layout stay where squares are reversed: at the bottom and at the walls stand the same squares.
use Rattle.std.proofs.Common.{Bool, Some, ap, arith, cond, count_by, false, inl, inr, length, nat_eq, refl, slice_get, subst, suc, sym, true}
use Rattle.std.proofs.Common.{zero, ℕ, ◌+◌, ◌<◌, ◌∙◌, ◌↔◌, ◌≡◌, ◌≤◌, ◌⊎◌}
use Rattle.std.proofs.lemmas.Bool.{cases_Bool}
use Rattle.std.proofs.lemmas.List.Sums.{sum_by-cons}
use Rattle.bk_laws.proofs.NoneRepeated.{IsIn, no_longer}
use Rattle.bk_laws.proofs.Membership.{is_in-of_slice_get, none_repeated-of_unique_places, slice_get-of_is_in}
use Rattle.bk_laws.proofs.NumberTests.{nat_eq-same_of_iff}
use Rattle.bk_word.specs.Play.{numbers_from}
use Rattle.bk_layout.specs.Layout.{Fits, Layout}
use Rattle.bk_layout.proofs.NormalImages.LayoutCounts.{the_layout_has_the_counts}
use Rattle.bk_layout.specs.Normal.{AreNormal}
use Rattle.bk_layout.specs.LayoutCounts.{counts_of_layout}
use Rattle.bk_layout.specs.FreeCuts.{AreOuterWalls}
use Rattle.bk_layout.specs.Reversal.{IsUpToReversals}
use Rattle.bk_layout.specs.NormalLayout.{ANormalTilingHasANormalLayout, IsNormalLayout, ReversalsKeepCounts}

-- ---- lists and counts

-- a test that gives the same for each of the numbers counts the same
pub count_same : (p r : ℕ → Bool) (b n : ℕ) → ((q : ℕ) → b ≤ q → q < b + n → p q ≡ r q) → count_by p (numbers_from b n) ≡ count_by r (numbers_from b n)
count_same p r b zero each = refl
count_same p r b (suc n) each = omega (
  arith,
  sum_by-cons (λ q. cond {A = ℕ} (p q) 1 0) b (numbers_from (b + 1) n),
  sum_by-cons (λ q. cond {A = ℕ} (r q) 1 0) b (numbers_from (b + 1) n),
  ap (λ (x : Bool). cond {A = ℕ} x 1 0) (each b (omega arith) (omega arith)),
  count_same p r (b + 1) n (λ q lo hi. each q (omega arith) (omega arith)),
)

-- ---- the bottom

-- where all squares that end on the bottom of one layout do so in another, at least as many do
bottom_more : (l m : Layout) → Fits l → Fits m → l.squares ≡ m.squares → ((q : ℕ) → q < l.squares → l.below q ≡ l.bottom → m.below q ≡ m.bottom)
    → length (l.ending l.bottom) ≤ length (m.ending m.bottom)
bottom_more l m fits fits_m long each = no_longer (l.ending l.bottom) (m.ending m.bottom)
    (none_repeated-of_unique_places (l.ending l.bottom) (λ j k q e f. fits.lists.ending_once l.bottom j k q e f))
    (λ q h. at q (slice_get-of_is_in (l.ending l.bottom) q h))
  where
    at : (q : ℕ) → (k : ℕ) × (slice_get (l.ending l.bottom) k ≡ Some q) → IsIn q (m.ending m.bottom)
    at q (k, e) = there (fits_m.lists.ends q (omega (arith, is.0, long)))
      where
        is : (q < l.squares) × (l.below q ≡ l.bottom)
        is = fits.lists.ending_is l.bottom k q e

        there : (j : ℕ) × (slice_get (m.ending (m.below q)) j ≡ Some q) → IsIn q (m.ending m.bottom)
        there (j, f) = is_in-of_slice_get (m.ending m.bottom) j q (subst (λ (v : ℕ). slice_get (m.ending v) j ≡ Some q) (each q is.0 is.1) f)

module _ (l m : Layout) (fits : Fits l) (walls : AreOuterWalls l) (fits_m : Fits m) (walls_m : AreOuterWalls m) (same : IsUpToReversals l m) where
  low_m : (q : ℕ) → q < l.squares → q < m.squares
  low_m q low = omega (arith, low, same.squares)

  low_l : (q : ℕ) → q < m.squares → q < l.squares
  low_l q low = omega (arith, low, same.squares)

  -- no reversed square ends on the bottom, in neither layout
  bottom_over : (q : ℕ) → q < l.squares → l.below q ≡ l.bottom → m.below q ≡ m.bottom
  bottom_over q low e = on (cases_Bool (same.is_reversed q))
    where
      on : (same.is_reversed q ≡ true) ⊎ (same.is_reversed q ≡ false) → m.below q ≡ m.bottom
      on (inl t) = absurd (omega (arith, fits_m.nodes.hangs_above q (low_m q low), same.above_reversed q low t, e, same.bottom))
      on (inr t) = same.below_kept q low t ∙ e ∙ sym same.bottom

  bottom_back : (q : ℕ) → q < m.squares → m.below q ≡ m.bottom → l.below q ≡ l.bottom
  bottom_back q low_q e = on (cases_Bool (same.is_reversed q))
    where
      low : q < l.squares
      low = low_l q low_q

      on : (same.is_reversed q ≡ true) ⊎ (same.is_reversed q ≡ false) → l.below q ≡ l.bottom
      on (inl t) = absurd (omega (arith, fits.nodes.hangs_above q low, same.below_reversed q low t, e, same.bottom))
      on (inr t) = sym (same.below_kept q low t) ∙ e ∙ same.bottom

  -- ---- the walls

  -- a line of a square stays at a wall, if a reversed square has neither line there
  at_wall : (q wall : ℕ) {a b c d : ℕ} → (same.is_reversed q ≡ false → c ≡ a) → (same.is_reversed q ≡ true → c ≡ b) → (same.is_reversed q ≡ true → d ≡ a)
      → (b ≡ wall → ⊥) → (d ≡ wall → ⊥) → (c ≡ wall) ↔ (a ≡ wall)
  at_wall q wall {a} {b} {c} {d} kept reversed other no_b no_d = (back (cases_Bool (same.is_reversed q)), over (cases_Bool (same.is_reversed q)))
    where
      back : (same.is_reversed q ≡ true) ⊎ (same.is_reversed q ≡ false) → c ≡ wall → a ≡ wall
      back (inl t) e = absurd (no_b (sym (reversed t) ∙ e))
      back (inr t) e = sym (kept t) ∙ e

      over : (same.is_reversed q ≡ true) ⊎ (same.is_reversed q ≡ false) → a ≡ wall → c ≡ wall
      over (inl t) e = absurd (no_d (other t ∙ e))
      over (inr t) e = kept t ∙ e

  -- no reversed square stands at a wall, in neither layout
  pub at_left : (q : ℕ) → q < l.squares → (m.left q ≡ 0) ↔ (l.left q ≡ 0)
  at_left q low = at_wall q 0 (same.left_kept q low) (same.left_reversed q low) (same.right_reversed q low) (walls.not_before q low)
      (walls_m.not_before q (low_m q low))

  -- a square is at the right wall in one layout exactly if it is in the other
  pub at_right : (q : ℕ) → q < l.squares → (m.right q ≡ 1) ↔ (l.right q ≡ 1)
  at_right q low = at_wall q 1 (same.right_kept q low) (same.right_reversed q low) (same.left_reversed q low) (walls.not_beyond q low)
      (walls_m.not_beyond q (low_m q low))

  left_kept : (counts_of_layout m).left ≡ (counts_of_layout l).left
  left_kept = ap (λ (n : ℕ). count_by (λ q. nat_eq (m.left q) 0) (numbers_from 0 n)) same.squares
      ∙ count_same (λ q. nat_eq (m.left q) 0) (λ q. nat_eq (l.left q) 0) 0 l.squares
      (λ q lo hi. nat_eq-same_of_iff (m.left q) (l.left q) 0 (at_left q (omega (arith, hi))))

  right_kept : (counts_of_layout m).right ≡ (counts_of_layout l).right
  right_kept = ap (λ (n : ℕ). count_by (λ q. nat_eq (m.right q) 1) (numbers_from 0 n)) same.squares
      ∙ count_same (λ q. nat_eq (m.right q) 1) (λ q. nat_eq (l.right q) 1) 0 l.squares
      (λ q lo hi. nat_eq-same_of_iff (m.right q) (l.right q) 1 (at_right q (omega (arith, hi))))

-- the law: all counts stay
pub reversals_keep_counts : ReversalsKeepCounts
reversals_keep_counts l m fits walls fits_m walls_m same = record {
  counts = λ i. record {
    squares = same.squares i;
    moves = same.bottom i;
    top = length (same.top i);
    bottom = bottom i;
    left = left_kept l m fits walls fits_m walls_m same i;
    right = right_kept l m fits walls fits_m walls_m same i;
  };
  at_left = at_left l m fits walls fits_m walls_m same;
  at_right = at_right l m fits walls fits_m walls_m same;
}
  where
    bottom : length (m.ending m.bottom) ≡ length (l.ending l.bottom)
    bottom = omega (
      arith,
      bottom_more l m fits fits_m (sym same.squares) (bottom_over l m fits walls fits_m walls_m same),
      bottom_more m l fits_m fits same.squares (bottom_back l m fits walls fits_m walls_m same),
    )

-- the layout of a normal tiling is normal
pub a_normal_tiling_has_a_normal_layout : ANormalTilingHasANormalLayout
a_normal_tiling_has_a_normal_layout t tiling normal = subst AreNormal (sym (the_layout_has_the_counts t tiling)) normal

-- a layout that is a normal one up to reversals is normal
pub reversals_keep_normal : (l m : Layout) → Fits l → AreOuterWalls l → Fits m → AreOuterWalls m → IsUpToReversals l m → IsNormalLayout l → IsNormalLayout m
reversals_keep_normal l m fits walls fits_m walls_m same normal = subst AreNormal (sym (reversals_keep_counts l m fits walls fits_m walls_m same).counts) normal
