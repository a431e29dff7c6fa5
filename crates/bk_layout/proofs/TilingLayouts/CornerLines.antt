-- Along a node no line stands twice, from the corners around it.
use Rattle.std.proofs.Common.{Some, ap, arith, inl, inr, length, refl, slice_get, subst, suc, sym, ℕ, ◌-◌, ◌<◌, ◌∙◌, ◌≡◌, ◌≤◌, ◌⊎◌}
use Rattle.std.proofs.lemmas.Bool.{cases_lt}
use Rattle.std.proofs.lemmas.Option.{slice_get_within}
use Rattle.bk_laws.proofs.ListPlaces.{get_some}
use Rattle.bk_word.specs.Word.{Word}
use Rattle.bk_layout.proofs.Sweeps.LayoutNet.{a_layout_has_a_free_word}
use Rattle.bk_layout.specs.Layout.{Fits, IsLast, Layout}
use Rattle.bk_layout.specs.LayoutLaws.{IsWordOfLayout}
use Rattle.bk_layout.specs.FreeCuts.{AreOuterWalls}
use Rattle.bk_layout.specs.SharedNodes.{AreLinesApart}
use Rattle.bk_layout.specs.NodeCorners.{AreCornersApart, DoEndsMeet}

module _ (l : Layout) (fits : Fits l) (walls : AreOuterWalls l) (corners : AreCornersApart l) (ends : DoEndsMeet l) where
  last_at_wall : (x : ℕ) → IsLast (l.ending l.bottom) x → l.right x ≡ 1
  last_at_wall x last = of (a_layout_has_a_free_word l fits)
    where
      of : (w : Word) × IsWordOfLayout l w → l.right x ≡ 1
      of (w, word) = word.end_to x last

  is_end : (v a x : ℕ) → slice_get (l.ending v) a ≡ Some x → (x < l.squares) × (l.below x ≡ v)
  is_end v a x e = fits.lists.ending_is v a x e

  one_place : (v a b x y : ℕ) → slice_get (l.ending v) a ≡ Some x → slice_get (l.ending v) b ≡ Some y → x ≡ y → a ≡ b
  one_place v a b x y e f i = fits.lists.ending_once v a b y (e ∙ ap (λ (n : ℕ). Some n) i) f

  lefts : (v a b x y : ℕ) → slice_get (l.ending v) a ≡ Some x → slice_get (l.ending v) b ≡ Some y → l.left x ≡ l.left y → a ≡ b
  lefts v a b x y e f i = one_place v a b x y e f
      (corners.before v x y (l.left y) (is_end v a x e).0 (is_end v b y f).0 (inl ((is_end v a x e).1, i)) (inl ((is_end v b y f).1, refl)))

  rights : (v a b x y : ℕ) → slice_get (l.ending v) a ≡ Some x → slice_get (l.ending v) b ≡ Some y → l.right x ≡ l.right y → a ≡ b
  rights v a b x y e f i = one_place v a b x y e f
      (corners.after v x y (l.right y) (is_end v a x e).0 (is_end v b y f).0 (inl ((is_end v a x e).1, i)) (inl ((is_end v b y f).1, refl)))

  order : (v a b x y : ℕ) → slice_get (l.ending v) a ≡ Some x → slice_get (l.ending v) b ≡ Some y → a ≤ b → l.left x ≡ l.right y → ⊥
  order v a b x y e f up i = cases (cases_lt (suc b) (length (l.ending v)))
    where
      below_x : (x < l.squares) × (l.below x ≡ v)
      below_x = is_end v a x e

      -- y stands last: the last that hangs from the node has the same line at its right, or the node is the bottom
      last : suc b ≡ length (l.ending v) → (v < l.bottom) ⊎ (l.bottom ≤ v) → ⊥
      last s (inl h) = with (get_some (l.hanging v) (length (l.hanging v) - 1) (omega (arith, fits.nodes.hanging_some v h)))
        where
          with : (z : ℕ) × (slice_get (l.hanging v) (length (l.hanging v) - 1) ≡ Some z) → ⊥
          with (z, g) = omega (arith, fits.nodes.rises x below_x.0, ap fits.nodes.rank (ap l.above one ∙ is_z.1 ∙ sym below_x.1))
            where
              is_z : (z < l.squares) × (l.above z ≡ v)
              is_z = fits.lists.hanging_is v (length (l.hanging v) - 1) z g

              one : x ≡ z
              one = corners.before v x z (l.right z) below_x.0 is_z.0
                  (inl (
                    below_x.1,
                    i ∙ sym (fits.lines.same_right v y z (b, s, f)
                        (length (l.hanging v) - 1, omega (arith, fits.nodes.hanging_some v h), g)),
                  )) (inr (is_z.1, refl))
      last s (inr h) = walls.not_beyond x below_x.0 (i ∙ last_at_wall y (subst (λ (w : ℕ). IsLast (l.ending w) y) bottom (b, s, f)))
        where
          bottom : v ≡ l.bottom
          bottom = omega (arith, h, (fits.nodes.ends_below x below_x.0).1, below_x.1)

      cases : (suc b < length (l.ending v)) ⊎ (length (l.ending v) ≤ suc b) → ⊥
      cases (inr h) = last (omega (arith, h, slice_get_within (l.ending v) b y f)) (cases_lt v l.bottom)
      cases (inl h) = with (get_some (l.ending v) (suc b) h)
        where
          with : (z : ℕ) × (slice_get (l.ending v) (suc b) ≡ Some z) → ⊥
          with (z, g) = omega (arith, up, lefts v a (suc b) x z e g (i ∙ ends v y z (b, f, g)))

  -- where the lines around each node are apart, no line stands twice along a node
  pub lines_from_corners : AreLinesApart l
  lines_from_corners = record { lefts = lefts; rights = rights; order = order }
