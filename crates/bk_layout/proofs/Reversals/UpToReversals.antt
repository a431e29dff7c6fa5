-- What is said of a layout without up and down, left and right, holds of one that is it up to reversed squares: that it has no
-- parts, and that the lines around its nodes are apart.
use Rattle.std.proofs.Common.{arith, false, inl, inr, sym, true, ℕ, ◌<◌, ◌∙◌, ◌≡◌, ◌⊎◌}
use Rattle.std.proofs.lemmas.Bool.{cases_Bool}
use Rattle.bk_laws.proofs.Truth.{either-swap}
use Rattle.bk_layout.specs.Layout.{Layout}
use Rattle.bk_layout.specs.SimpleLayout.{AreOutermost, HasNoParts, HasOneBetween, Touches}
use Rattle.bk_layout.specs.Reversal.{IsUpToReversals}
use Rattle.bk_layout.specs.NodeCorners.{AreCornersApart, IsAfter, IsBefore}

-- of the one or the other follows the one or the other
pub either : {A B C D : Type 0} → (A → C) → (B → D) → A ⊎ B → C ⊎ D
either f g (inl a) = inl (f a)
either f g (inr b) = inr (g b)

module _ (l m : Layout) (same : IsUpToReversals l m) where
  low_l : (x : ℕ) → x < m.squares → x < l.squares
  low_l x h = omega (arith, h, same.squares)

  touches_back : (f v : ℕ) → Touches m f v → Touches l f v
  touches_back f v t = on (cases_Bool (same.is_reversed t.square))
    where
      low : t.square < l.squares
      low = low_l t.square t.within

      on : (same.is_reversed t.square ≡ true) ⊎ (same.is_reversed t.square ≡ false) → Touches l f v
      on (inl e) = record {
        square = t.square;
        within = low;
        beside = either-swap (either (λ h. sym (same.left_reversed t.square low e) ∙ h) (λ h. sym (same.right_reversed t.square low e) ∙ h) t.beside);
        at = either-swap (either (λ h. sym (same.above_reversed t.square low e) ∙ h) (λ h. sym (same.below_reversed t.square low e) ∙ h) t.at);
      }
      on (inr e) = record {
        square = t.square;
        within = low;
        beside = either (λ h. sym (same.left_kept t.square low e) ∙ h) (λ h. sym (same.right_kept t.square low e) ∙ h) t.beside;
        at = either (λ h. sym (same.above_kept t.square low e) ∙ h) (λ h. sym (same.below_kept t.square low e) ∙ h) t.at;
      }

  between_over : (f g u v : ℕ) → HasOneBetween l f g u v → HasOneBetween m f g u v
  between_over f g u v b = on (cases_Bool (same.is_reversed b.square))
    where
      low : b.square < m.squares
      low = omega (arith, b.within, same.squares)

      here : {above below left right : ℕ} → m.above b.square ≡ above → m.below b.square ≡ below → m.left b.square ≡ left → m.right b.square ≡ right
          → (left ≡ f) ⊎ (left ≡ g) → (right ≡ f) ⊎ (right ≡ g) → (above ≡ u) ⊎ (above ≡ v) → (below ≡ u) ⊎ (below ≡ v) → HasOneBetween m f g u v
      here e h i j at_left at_right at_above at_below = record {
        square = b.square;
        within = low;
        left = either (λ k. i ∙ k) (λ k. i ∙ k) at_left;
        right = either (λ k. j ∙ k) (λ k. j ∙ k) at_right;
        above = either (λ k. e ∙ k) (λ k. e ∙ k) at_above;
        under = either (λ k. h ∙ k) (λ k. h ∙ k) at_below;
      }

      on : (same.is_reversed b.square ≡ true) ⊎ (same.is_reversed b.square ≡ false) → HasOneBetween m f g u v
      on (inl e) = here (same.above_reversed b.square b.within e) (same.below_reversed b.square b.within e) (same.left_reversed b.square b.within e)
          (same.right_reversed b.square b.within e) b.right b.left b.under b.above
      on (inr e) = here (same.above_kept b.square b.within e) (same.below_kept b.square b.within e) (same.left_kept b.square b.within e)
          (same.right_kept b.square b.within e) b.left b.right b.above b.under

  outermost_over : (f g u v : ℕ) → AreOutermost l f g u v → AreOutermost m f g u v
  outermost_over f g u v o = record {
    lines = o.lines;
    nodes = either (λ (h : (u ≡ 0) × (v ≡ l.bottom)). (h.0, h.1 ∙ sym same.bottom)) (λ (h : (u ≡ l.bottom) × (v ≡ 0)). (h.0 ∙ sym same.bottom, h.1)) o.nodes;
  }

  -- a layout that is one without parts up to reversed squares has no parts
  pub parts_over : HasNoParts l → HasNoParts m
  parts_over parts f g u v d e a b c k = either (between_over f g u v) (outermost_over f g u v)
      (parts f g u v d e (touches_back f u a) (touches_back f v b) (touches_back g u c) (touches_back g v k))

  -- a square below the node with one line, or above it with the other: so it is in both layouts, with p and r its lines
  corner_back : (v x f : ℕ) → x < l.squares → {p r p_l r_l : ℕ} → (same.is_reversed x ≡ false → (p ≡ p_l) × (r ≡ r_l))
      → (same.is_reversed x ≡ true → (p ≡ r_l) × (r ≡ p_l)) → ((m.below x ≡ v) × (p ≡ f)) ⊎ ((m.above x ≡ v) × (r ≡ f))
      → ((l.below x ≡ v) × (p_l ≡ f)) ⊎ ((l.above x ≡ v) × (r_l ≡ f))
  corner_back v x f low {p} {r} {p_l} {r_l} kept reversed b = on (cases_Bool (same.is_reversed x))
    where
      moved : {a c d e : ℕ} → a ≡ c → d ≡ e → (a ≡ v) × (d ≡ f) → (c ≡ v) × (e ≡ f)
      moved g h both = (sym g ∙ both.0, sym h ∙ both.1)

      on : (same.is_reversed x ≡ true) ⊎ (same.is_reversed x ≡ false) → ((l.below x ≡ v) × (p_l ≡ f)) ⊎ ((l.above x ≡ v) × (r_l ≡ f))
      on (inl e) = either-swap (either (moved (same.below_reversed x low e) (reversed e).0) (moved (same.above_reversed x low e) (reversed e).1) b)
      on (inr e) = either (moved (same.below_kept x low e) (kept e).0) (moved (same.above_kept x low e) (kept e).1) b

  before_back : (v x f : ℕ) → x < l.squares → IsBefore m v x f → IsBefore l v x f
  before_back v x f low = corner_back v x f low (λ e. (same.left_kept x low e, same.right_kept x low e))
      (λ e. (same.left_reversed x low e, same.right_reversed x low e))

  after_back : (v x f : ℕ) → x < l.squares → IsAfter m v x f → IsAfter l v x f
  after_back v x f low = corner_back v x f low (λ e. (same.right_kept x low e, same.left_kept x low e))
      (λ e. (same.right_reversed x low e, same.left_reversed x low e))

  -- the lines around its nodes are apart where they are in the other
  pub corners_over : AreCornersApart l → AreCornersApart m
  corners_over c = record {
    before = λ v x y f h k a b. c.before v x y f (low_l x h) (low_l y k) (before_back v x f (low_l x h) a) (before_back v y f (low_l y k) b);
    after = λ v x y f h k a b. c.after v x y f (low_l x h) (low_l y k) (after_back v x f (low_l x h) a) (after_back v y f (low_l y k) b);
  }
