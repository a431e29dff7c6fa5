-- Reversing a square keeps a layout sound.
use Rattle.std.proofs.Common.{List, Some, ap, arith, inl, inr, length, refl, slice_get, subst, suc, sym, zero, ℕ, ◌<◌, ◌∙◌, ◌∷◌, ◌≡◌, ◌⊎◌}
use Rattle.std.proofs.lemmas.Bool.{cases_eq}
use Rattle.std.proofs.lemmas.Option.{same_Some}
use Rattle.bk_laws.proofs.ListPlaces.{get_some}
use Rattle.bk_layout.specs.Layout.{AreNeighbours, Fits, Layout}
use Rattle.bk_layout.specs.FreeCuts.{AreOuterWalls}
use Rattle.bk_layout.proofs.Lists.Pieces.{init_below, init_got, put_at, put_other}
use Rattle.bk_layout.proofs.Reversals.ReversedFits.{fits_then, no_twins_then, same_then}
use Rattle.bk_layout.specs.Reversal.{CanReverse, IsUpToReversals, put, reversed, without_last}
use Rattle.bk_layout.proofs.TilingLayouts.CornerLines.{lines_from_corners}
use Rattle.bk_layout.proofs.Reversals.UpToReversals.{corners_over, parts_over}
use Rattle.bk_layout.proofs.Reversals.NodesUpToReversals.{pairs_over}
use Rattle.bk_layout.specs.NodeCorners.{AReversedLayoutIsSound, DoEndsMeet}

module _ (l : Layout) (fits : Fits l) (q p r : ℕ) (can : CanReverse l q p r) where
  abbrev m : Layout
  m = reversed l q p r

  fits_m : Fits m
  fits_m = fits_then l fits q p r can

  u_not_v : l.above q ≡ l.below q → ⊥
  u_not_v e = omega (arith, can.rises q can.known, ap can.rank e)

  left_x : (x : ℕ) → (x ≡ q → ⊥) → m.left x ≡ l.left x
  left_x x n = put_other q (l.right q) l.left x n

  right_x : (x : ℕ) → (x ≡ q → ⊥) → m.right x ≡ l.right x
  right_x x n = put_other q (l.left q) l.right x n

  left_q : m.left q ≡ l.right q
  left_q = put_at q (l.right q) l.left q refl

  right_q : m.right q ≡ l.left q
  right_q = put_at q (l.left q) l.right q refl

  -- no square of the reversed layout stands beyond a wall
  pub walls_over : AreOuterWalls l → AreOuterWalls m
  walls_over walls = record { not_beyond = not_beyond; not_before = not_before; apart = apart_m }
    where
      -- the line at its right stands at the left of the next square under its node
      inner_right : l.right q ≡ 1 → ⊥
      inner_right e = with (get_some (l.hanging (l.above q)) 1 can.two)
        where
          with : (y : ℕ) × (slice_get (l.hanging (l.above q)) 1 ≡ Some y) → ⊥
          with (y, g) = walls.not_beyond y (fits.lists.hanging_is (l.above q) 1 y g).0 (sym (fits.lines.between (l.above q) q y (0, can.first, g)) ∙ e)

      inner_left : l.left q ≡ 0 → ⊥
      inner_left e = walls.not_before p can.before (can.beside ∙ e)

      at_or_not : {P : Type 0} (x : ℕ) → (x ≡ q → P) → ((x ≡ q → ⊥) → P) → P
      at_or_not {P} x at other = on (cases_eq x q)
        where
          on : (x ≡ q) ⊎ (x ≡ q → ⊥) → P
          on (inl i) = at i
          on (inr n) = other n

      not_beyond : (x : ℕ) → x < l.squares → m.left x ≡ 1 → ⊥
      not_beyond x low e = at_or_not x (λ i. inner_right (sym left_q ∙ ap m.left (sym i) ∙ e)) (λ n. walls.not_beyond x low (sym (left_x x n) ∙ e))

      not_before : (x : ℕ) → x < l.squares → m.right x ≡ 0 → ⊥
      not_before x low e = at_or_not x (λ i. inner_left (sym right_q ∙ ap m.right (sym i) ∙ e)) (λ n. walls.not_before x low (sym (right_x x n) ∙ e))

      apart_m : (x : ℕ) → x < l.squares → m.left x ≡ m.right x → ⊥
      apart_m x low e = at_or_not x (λ i. walls.apart q can.known (sym right_q ∙ ap m.right (sym i) ∙ sym e ∙ ap m.left i ∙ left_q))
          (λ n. walls.apart x low (sym (left_x x n) ∙ e ∙ right_x x n))

  ending_u : m.ending (l.above q) ≡ q ∷ l.ending (l.above q)
  ending_u = put_at (l.above q) (q ∷ l.ending (l.above q)) (put (l.below q) (without_last (l.ending (l.below q))) l.ending) (l.above q) refl

  ending_other : (w : ℕ) → (w ≡ l.above q → ⊥) → m.ending w ≡ put (l.below q) (without_last (l.ending (l.below q))) l.ending w
  ending_other w n = put_other (l.above q) (q ∷ l.ending (l.above q)) (put (l.below q) (without_last (l.ending (l.below q))) l.ending) w n

  -- neighbours of the reversed layout, but for q, are neighbours before
  back : (w x y : ℕ) → (w ≡ l.above q → ⊥) → AreNeighbours (m.ending w) x y → AreNeighbours (l.ending w) x y
  back w x y n (k, e, f) = on (cases_eq w (l.below q))
    where
      on : (w ≡ l.below q) ⊎ (w ≡ l.below q → ⊥) → AreNeighbours (l.ending w) x y
      on (inl i) = (
        k,
        shorter k (omega (arith, init_below (l.ending w) (suc k) y (at (suc k) y f)))
            ∙ at k x e,
        shorter (suc k) (init_below (l.ending w) (suc k) y (at (suc k) y f)) ∙ at (suc k) y f,
      )
        where
          list : m.ending w ≡ without_last (l.ending w)
          list = ending_other w n ∙ put_at (l.below q) (without_last (l.ending (l.below q))) l.ending w i ∙ ap (λ (z : ℕ). without_last (l.ending z)) (sym i)

          at : (j z : ℕ) → slice_get (m.ending w) j ≡ Some z → slice_get (without_last (l.ending w)) j ≡ Some z
          at j z g = ap (λ (xs : List ℕ). slice_get xs j) (sym list) ∙ g

          shorter : (j : ℕ) → suc j < length (l.ending w) → slice_get (l.ending w) j ≡ slice_get (without_last (l.ending w)) j
          shorter j h = sym (init_got (l.ending w) j h)
      on (inr o) = (k, ap (λ (xs : List ℕ). slice_get xs k) (sym list) ∙ e, ap (λ (xs : List ℕ). slice_get xs (suc k)) (sym list) ∙ f)
        where
          list : m.ending w ≡ l.ending w
          list = ending_other w n ∙ put_other (l.below q) (without_last (l.ending (l.below q))) l.ending w o

  -- squares that end side by side meet in it at one line
  pub ends_over : DoEndsMeet l → DoEndsMeet m
  ends_over ends w x y (k, e, f) = on (cases_eq w (l.above q))
    where
      other : (x ≡ q → ⊥) → (y ≡ q → ⊥) → AreNeighbours (l.ending w) x y → m.right x ≡ m.left y
      other a b n = right_x x a ∙ ends w x y n ∙ sym (left_x y b)

      -- q ends on the node above it only
      not_q : (w ≡ l.above q → ⊥) → (j z : ℕ) → slice_get (m.ending w) j ≡ Some z → z ≡ q → ⊥
      not_q n j z g i = n (sym (fits_m.lists.ending_is w j z g).1 ∙ ap m.below i ∙ put_at q (l.above q) l.below q refl)

      at_top : (j : ℕ) → j ≡ k → w ≡ l.above q → slice_get (q ∷ l.ending w) j ≡ Some x → slice_get (q ∷ l.ending w) (suc j) ≡ Some y → m.right x ≡ m.left y
      at_top zero s i g h = ap m.right (sym (same_Some q x g)) ∙ right_q
          ∙ fits.lines.same_left w y q h (subst (λ (z : ℕ). slice_get (l.hanging z) 0 ≡ Some q) (sym i) can.first) ∙ sym (left_x y (in_list 0 y h))
        where
          in_list : (j z : ℕ) → slice_get (l.ending w) j ≡ Some z → z ≡ q → ⊥
          in_list j z g d = u_not_v (sym i ∙ sym (fits.lists.ending_is w j z g).1 ∙ ap l.below d)
      at_top (suc j) s i g h = other (in_list j x g) (in_list (suc j) y h) (j, g, h)
        where
          in_list : (j z : ℕ) → slice_get (l.ending w) j ≡ Some z → z ≡ q → ⊥
          in_list j z g d = u_not_v (sym i ∙ sym (fits.lists.ending_is w j z g).1 ∙ ap l.below d)

      on : (w ≡ l.above q) ⊎ (w ≡ l.above q → ⊥) → m.right x ≡ m.left y
      on (inl i) = at_top k refl i (ap (λ (xs : List ℕ). slice_get xs k) (sym list) ∙ e) (ap (λ (xs : List ℕ). slice_get xs (suc k)) (sym list) ∙ f)
        where
          list : m.ending w ≡ q ∷ l.ending w
          list = ap m.ending i ∙ ending_u ∙ ap (λ (z : ℕ). q ∷ l.ending z) (sym i)
      on (inr n) = other (not_q n k x e) (not_q n (suc k) y f) (back w x y n (k, e, f))

-- a layout with a square reversed is sound where the layout is
pub a_reversed_layout_is_sound : AReversedLayoutIsSound
a_reversed_layout_is_sound n l q p r around can = record {
  sound = record {
    squares = around.sound.squares;
    fits = fits_then l around.sound.fits q p r can;
    simple = record {
      parts = parts_over l (reversed l q p r) same around.sound.simple.parts;
      twins = no_twins_then l around.sound.fits q p r can around.sound.simple.twins;
      pairs = pairs_over l (reversed l q p r) same around.sound.fits (fits_then l around.sound.fits q p r can) around.sound.simple.pairs;
    };
    walls = walls_over l around.sound.fits q p r can around.sound.walls;
    lines = lines_from_corners (reversed l q p r) (fits_then l around.sound.fits q p r can)
        (walls_over l around.sound.fits q p r can around.sound.walls) (corners_over l (reversed l q p r) same around.corners)
        (ends_over l around.sound.fits q p r can around.ends_meet);
  };
  corners = corners_over l (reversed l q p r) same around.corners;
  ends_meet = ends_over l around.sound.fits q p r can around.ends_meet;
}
  where
    same : IsUpToReversals l (reversed l q p r)
    same = same_then l around.sound.fits q p r can
