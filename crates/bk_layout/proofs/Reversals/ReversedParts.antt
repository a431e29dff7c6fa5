-- The parts of a layout with a square reversed: what ends and hangs last at its nodes, its lines, its nodes, and which lines go on.
use Rattle.bk_laws.proofs.ListPlaces.{slice_get-snoc_cases}
use Rattle.bk_layout.proofs.Lists.Pieces.{put_at, put_other}
use Rattle.bk_layout.proofs.Reversals.ReversedLists.{scene}
use Rattle.bk_layout.specs.Layout.{AreLines, AreNeighbours, AreNodes, DoLinesGoOn, Fits, IsFirst, IsLast, Layout}
use Rattle.bk_layout.specs.Reversal.{CanReverse, put}
use Rattle.std.proofs.Common.{Bool, List, Some, ap, arith, false, inl, inr, length, refl, slice_get, subst, suc, sym, true, zero, ℕ, ◌<◌, ◌∙◌, ◌≡◌, ◌≤◌, ◌⊎◌}
use Rattle.std.proofs.lemmas.Bool.{cases_eq}
use Rattle.std.proofs.lemmas.Option.{same_Some, slice_get_within}

module _ (l : Layout) (fits : Fits l) (q p r : ℕ) (can : CanReverse l q p r) where
  open (scene l fits q p r can) use {m, u, v, about, by_place}

  -- what ends last on u in the reversed layout ends last on it
  pub last_eu : (x : ℕ) → IsLast (m.ending u) x → IsLast (l.ending u) x
  last_eu x (zero, g, h) = absurd (omega (arith, g, by_place.length_eu, by_place.eu_some))
  last_eu x (suc k, g, h) = (k, omega (arith, g, by_place.length_eu), sym (by_place.get_eu k) ∙ h)

  -- what ends last on u in the layout ends last on it in the reversed one
  pub eu_last : (x : ℕ) → IsLast (l.ending u) x → IsLast (m.ending u) x
  eu_last x (k, g, h) = (suc k, omega (arith, g, by_place.length_eu), by_place.get_eu k ∙ h)

  -- what hangs last from u there hangs last from it, and not first
  pub last_hu : (x : ℕ) → IsLast (m.hanging u) x → (k : ℕ) × (suc (suc k) ≡ length (l.hanging u)) × (slice_get (l.hanging u) (suc k) ≡ Some x)
  last_hu x (k, g, h) = (k, omega (arith, g, by_place.length_hu), sym (by_place.get_hu k) ∙ h)

  -- what ends last on v there is p
  pub last_ev : (x : ℕ) → IsLast (m.ending v) x → x ≡ p
  last_ev x (k, g, h) =
      same_Some x p (sym h ∙ by_place.get_ev k (omega (arith, g, by_place.length_ev)) ∙ ap (slice_get (l.ending v)) place ∙ (about.p_beside).1)
    where
      place : k ≡ (about.p_beside).0
      place = omega (arith, by_place.q_place, (about.q_last).1, g, by_place.length_ev)

  -- p ends last on v there
  pub p_last : IsLast (m.ending v) p
  p_last = (
    (about.p_beside).0,
    omega (arith, by_place.q_place, (about.q_last).1, by_place.length_ev),
    by_place.get_ev (about.p_beside).0 (omega (arith, by_place.q_place, (about.q_last).1)) ∙ (about.p_beside).1,
  )

  -- what hangs last from v there is q
  pub last_hv : (x : ℕ) → IsLast (m.hanging v) x → x ≡ q
  last_hv x (k, g, h) = same_Some x q (sym h ∙ by_place.get_hv_new k (omega (arith, g, by_place.length_hv)))

  -- squares that hang side by side in the reversed layout have one line between them
  pub between : (w x y k : ℕ) → slice_get (m.hanging w) k ≡ Some x → slice_get (m.hanging w) (suc k) ≡ Some y → m.right x ≡ m.left y
  between w x y k e f = on (about.which w)
    where
      at_u : slice_get (m.hanging u) k ≡ Some x → slice_get (m.hanging u) (suc k) ≡ Some y → m.right x ≡ m.left y
      at_u g h = about.right_x x (by_place.not_hu k x (sym (by_place.get_hu k) ∙ g))
          ∙ fits.lines.between u x y (suc k, sym (by_place.get_hu k) ∙ g, sym (by_place.get_hu (suc k)) ∙ h)
          ∙ sym (about.left_x y (by_place.not_hu (suc k) y (sym (by_place.get_hu (suc k)) ∙ h)))

      at_v : slice_get (m.hanging v) k ≡ Some x → slice_get (m.hanging v) (suc k) ≡ Some y → m.right x ≡ m.left y
      at_v g h = about.right_x x (by_place.not_h v k x about.v_not_u old)
          ∙ ends (slice_get-snoc_cases (l.hanging v) q (suc k) y (ap (λ (xs : List ℕ). slice_get xs (suc k)) (sym about.hanging_v) ∙ h))
        where
          old : slice_get (l.hanging v) k ≡ Some x
          old = sym (by_place.get_hv k (omega (arith, by_place.length_hv, slice_get_within (m.hanging v) (suc k) y h))) ∙ g

          ends : ((suc k < length (l.hanging v)) × (slice_get (l.hanging v) (suc k) ≡ Some y)) ⊎ ((suc k ≡ length (l.hanging v)) × (q ≡ y))
              → l.right x ≡ m.left y
          ends (inl (low, i)) = fits.lines.between v x y (k, old, i) ∙ sym (about.left_x y (by_place.not_h v (suc k) y about.v_not_u i))
          ends (inr (i, j)) = fits.lines.same_right v q x about.q_last (k, i, old) ∙ sym about.left_q ∙ ap m.left j

      at_w : (w ≡ u → ⊥) → slice_get (l.hanging w) k ≡ Some x → slice_get (l.hanging w) (suc k) ≡ Some y → m.right x ≡ m.left y
      at_w a g h = about.right_x x (by_place.not_h w k x a g) ∙ fits.lines.between w x y (k, g, h) ∙ sym (about.left_x y (by_place.not_h w (suc k) y a h))

      on : (w ≡ u) ⊎ ((w ≡ v) ⊎ ((w ≡ u → ⊥) × (w ≡ v → ⊥))) → m.right x ≡ m.left y
      on (inl i) = at_u (ap (λ (z : ℕ). slice_get (m.hanging z) k) (sym i) ∙ e) (ap (λ (z : ℕ). slice_get (m.hanging z) (suc k)) (sym i) ∙ f)
      on (inr (inl i)) = at_v (ap (λ (z : ℕ). slice_get (m.hanging z) k) (sym i) ∙ e) (ap (λ (z : ℕ). slice_get (m.hanging z) (suc k)) (sym i) ∙ f)
      on (inr (inr (a, b))) = at_w a (ap (λ (xs : List ℕ). slice_get xs k) (sym (about.hanging_w w a b)) ∙ e)
          (ap (λ (xs : List ℕ). slice_get xs (suc k)) (sym (about.hanging_w w a b)) ∙ f)

  same_left : (w x y : ℕ) → IsFirst (m.ending w) x → IsFirst (m.hanging w) y → m.left y ≡ m.left x
  same_left w x y e f = on (about.which w)
    where
      at_u : IsFirst (m.ending u) x → IsFirst (m.hanging u) y → m.left y ≡ m.left x
      at_u g h = about.left_x y (by_place.not_hu 0 y next) ∙ sym (fits.lines.between u q y (0, can.first, next)) ∙ sym about.left_q
          ∙ ap m.left (same_Some q x (sym by_place.get_eu_new ∙ g))
        where
          next : slice_get (l.hanging u) 1 ≡ Some y
          next = sym (by_place.get_hu 0) ∙ h

      at_v : IsFirst (m.ending v) x → IsFirst (m.hanging v) y → m.left y ≡ m.left x
      at_v g h = about.left_x y (by_place.not_h v 0 y about.v_not_u hangs) ∙ fits.lines.same_left v x y ends hangs
          ∙ sym (about.left_x x (by_place.not_ev 0 x ends by_place.ev_two))
        where
          hangs : IsFirst (l.hanging v) y
          hangs = sym (by_place.get_hv 0 by_place.hv_some) ∙ h

          ends : IsFirst (l.ending v) x
          ends = sym (by_place.get_ev 0 by_place.ev_two) ∙ g

      at_w : (w ≡ u → ⊥) → (w ≡ v → ⊥) → IsFirst (l.ending w) x → IsFirst (l.hanging w) y → m.left y ≡ m.left x
      at_w a b g h = about.left_x y (by_place.not_h w 0 y a h) ∙ fits.lines.same_left w x y g h ∙ sym (about.left_x x (by_place.not_e w 0 x b g))

      on : (w ≡ u) ⊎ ((w ≡ v) ⊎ ((w ≡ u → ⊥) × (w ≡ v → ⊥))) → m.left y ≡ m.left x
      on (inl i) = at_u (ap (λ (z : ℕ). slice_get (m.ending z) 0) (sym i) ∙ e) (ap (λ (z : ℕ). slice_get (m.hanging z) 0) (sym i) ∙ f)
      on (inr (inl i)) = at_v (ap (λ (z : ℕ). slice_get (m.ending z) 0) (sym i) ∙ e) (ap (λ (z : ℕ). slice_get (m.hanging z) 0) (sym i) ∙ f)
      on (inr (inr (a, b))) = at_w a b (ap (λ (xs : List ℕ). slice_get xs 0) (sym (about.ending_w w a b)) ∙ e)
          (ap (λ (xs : List ℕ). slice_get xs 0) (sym (about.hanging_w w a b)) ∙ f)

  same_right : (w x y : ℕ) → IsLast (m.ending w) x → IsLast (m.hanging w) y → m.right y ≡ m.right x
  same_right w x y e f = on (about.which w)
    where
      at_u : IsLast (m.ending u) x → IsLast (m.hanging u) y → m.right y ≡ m.right x
      at_u g h = from (last_eu x g) (last_hu y h)
        where
          from : IsLast (l.ending u) x → (k : ℕ) × (suc (suc k) ≡ length (l.hanging u)) × (slice_get (l.hanging u) (suc k) ≡ Some y) → m.right y ≡ m.right x
          from (j, a, b) (k, c, d) = about.right_x y (by_place.not_hu k y d) ∙ fits.lines.same_right u x y (j, a, b) (suc k, c, d)
              ∙ sym (about.right_x x (by_place.not_e u j x about.u_not_v b))

      at_v : IsLast (m.ending v) x → IsLast (m.hanging v) y → m.right y ≡ m.right x
      at_v g h = ap m.right (last_hv y h) ∙ about.right_q ∙ sym can.beside ∙ sym (about.right_x p about.p_not_q)
          ∙ ap m.right (sym (last_ev x g))

      at_w : (w ≡ u → ⊥) → (w ≡ v → ⊥) → IsLast (l.ending w) x → IsLast (l.hanging w) y → m.right y ≡ m.right x
      at_w a b (j, g, h) (k, c, d) = about.right_x y (by_place.not_h w k y a d) ∙ fits.lines.same_right w x y (j, g, h) (k, c, d)
          ∙ sym (about.right_x x (by_place.not_e w j x b h))

      on : (w ≡ u) ⊎ ((w ≡ v) ⊎ ((w ≡ u → ⊥) × (w ≡ v → ⊥))) → m.right y ≡ m.right x
      on (inl i) = at_u (subst (λ (z : ℕ). IsLast (m.ending z) x) i e) (subst (λ (z : ℕ). IsLast (m.hanging z) y) i f)
      on (inr (inl i)) = at_v (subst (λ (z : ℕ). IsLast (m.ending z) x) i e) (subst (λ (z : ℕ). IsLast (m.hanging z) y) i f)
      on (inr (inr (a, b))) = at_w a b (subst (λ (xs : List ℕ). IsLast xs x) (about.ending_w w a b) e)
          (subst (λ (xs : List ℕ). IsLast xs y) (about.hanging_w w a b) f)

  zero_not_u : 0 ≡ u → ⊥
  zero_not_u e = omega (arith, e, can.later)

  zero_not_v : 0 ≡ v → ⊥
  zero_not_v e = omega (arith, e, about.v_some)

  -- from the top the same squares hang
  pub top_is : m.hanging 0 ≡ l.hanging 0
  top_is = about.hanging_w 0 zero_not_u zero_not_v

  -- the lines of the reversed layout are those of a layout
  pub lines_then : AreLines m
  lines_then = record {
    between = λ w x y n. between w x y n.0 n.1 n.2;
    same_left = λ w x y e f. same_left w x y e f;
    same_right = λ w x y e f. same_right w x y e f;
    top_left = λ x e. top_left x (ap (λ (xs : List ℕ). slice_get xs 0) (sym top_is) ∙ e);
    top_right = λ x e. top_right x (subst (λ (xs : List ℕ). IsLast xs x) top_is e);
  }
    where
      top_left : (x : ℕ) → IsFirst (l.hanging 0) x → m.left x ≡ 0
      top_left x e = about.left_x x (by_place.not_h 0 0 x zero_not_u e) ∙ fits.lines.top_left x e

      top_right : (x : ℕ) → IsLast (l.hanging 0) x → m.right x ≡ 1
      top_right x (k, g, h) = about.right_x x (by_place.not_h 0 k x zero_not_u h) ∙ fits.lines.top_right x (k, g, h)

  abbrev rank : ℕ → ℕ
  rank = put u (can.rank v) (put v (can.rank u) can.rank)

  rank_u : rank u ≡ can.rank v
  rank_u = put_at u (can.rank v) (put v (can.rank u) can.rank) u refl

  rank_v : rank v ≡ can.rank u
  rank_v = put_other u (can.rank v) (put v (can.rank u) can.rank) v about.v_not_u ∙ put_at v (can.rank u) can.rank v refl

  rank_w : (w : ℕ) → (w ≡ u → ⊥) → (w ≡ v → ⊥) → rank w ≡ can.rank w
  rank_w w a b = put_other u (can.rank v) (put v (can.rank u) can.rank) w a ∙ put_other v (can.rank u) can.rank w b

  rises : (x : ℕ) → x < l.squares → rank (m.above x) < rank (m.below x)
  rises x low = on (cases_eq x q)
    where
      kept : (x ≡ q → ⊥) → (l.above x ≡ u) ⊎ ((l.above x ≡ v) ⊎ ((l.above x ≡ u → ⊥) × (l.above x ≡ v → ⊥))) → (l.below x ≡ u)
          ⊎ ((l.below x ≡ v) ⊎ ((l.below x ≡ u → ⊥) × (l.below x ≡ v → ⊥))) → rank (l.above x) < rank (l.below x)
      kept n (inl a) (inl b) = absurd (omega (arith, can.rises x low, ap can.rank a, ap can.rank b))
      kept n (inl a) (inr (inl b)) = absurd (omega (arith, can.hangs_beside x low n a, ap can.rank b))
      kept n (inl a) (inr (inr (b, c))) = omega (arith, can.hangs_beside x low n a, ap rank a, rank_u, rank_w (l.below x) b c)
      kept n (inr (inl a)) (inl b) = absurd (omega (arith, can.rises x low, ap can.rank a, ap can.rank b, about.u_rank))
      kept n (inr (inl a)) (inr (inl b)) = absurd (omega (arith, can.rises x low, ap can.rank a, ap can.rank b))
      kept n (inr (inl a)) (inr (inr (b, c))) = omega (arith, can.rises x low, ap rank a, ap can.rank a, rank_v, about.u_rank, rank_w (l.below x) b c)
      kept n (inr (inr (a, d))) (inl b) = omega (arith, can.rises x low, ap rank b, ap can.rank b, rank_u, about.u_rank, rank_w (l.above x) a d)
      kept n (inr (inr (a, d))) (inr (inl b)) = omega (arith, can.ends_beside x low n b, ap rank b, rank_v, rank_w (l.above x) a d)
      kept n (inr (inr (a, d))) (inr (inr (b, c))) = omega (arith, can.rises x low, rank_w (l.above x) a d, rank_w (l.below x) b c)

      on : (x ≡ q) ⊎ (x ≡ q → ⊥) → rank (m.above x) < rank (m.below x)
      on (inl e) = omega (
        arith,
        about.u_rank,
        ap (λ (y : ℕ). rank (m.above y)) e,
        ap (λ (y : ℕ). rank (m.below y)) e,
        ap rank about.above_q,
        ap rank about.below_q,
        rank_u,
        rank_v,
      )
      on (inr e) = omega (arith, kept e (about.which (l.above x)) (about.which (l.below x)), ap rank (about.above_x x e), ap rank (about.below_x x e))

  -- the nodes of the reversed layout are those of a layout
  pub nodes_then : AreNodes m
  nodes_then = record {
    hangs_above = λ x h. hangs_above x h (cases_eq x q);
    ends_below = λ x h. ends_below x h (cases_eq x q);
    hanging_some = λ w h. hanging_some w h (about.which w);
    ending_some = λ w h g. ending_some w h g (about.which w);
    rank = rank;
    rises = λ x h. rises x h;
  }
    where
      hangs_above : (x : ℕ) → x < l.squares → (x ≡ q) ⊎ (x ≡ q → ⊥) → m.above x < l.bottom
      hangs_above x h (inl e) = omega (arith, ap m.above e, about.above_q, about.v_low)
      hangs_above x h (inr e) = omega (arith, about.above_x x e, fits.nodes.hangs_above x h)

      ends_below : (x : ℕ) → x < l.squares → (x ≡ q) ⊎ (x ≡ q → ⊥) → (0 < m.below x) × (m.below x ≤ l.bottom)
      ends_below x h (inl e) = (omega (arith, ap m.below e, about.below_q, can.later), omega (arith, ap m.below e, about.below_q, about.u_low))
      ends_below x h (inr e) = (
        omega (arith, about.below_x x e, (fits.nodes.ends_below x h).0),
        omega (arith, about.below_x x e, (fits.nodes.ends_below x h).1),
      )

      hanging_some : (w : ℕ) → w < l.bottom → (w ≡ u) ⊎ ((w ≡ v) ⊎ ((w ≡ u → ⊥) × (w ≡ v → ⊥))) → 0 < length (m.hanging w)
      hanging_some w h (inl e) = omega (arith, ap (λ (y : ℕ). length (m.hanging y)) e, by_place.length_hu, can.two)
      hanging_some w h (inr (inl e)) = omega (arith, ap (λ (y : ℕ). length (m.hanging y)) e, by_place.length_hv)
      hanging_some w h (inr (inr (a, b))) = omega (arith, ap (λ (xs : List ℕ). length xs) (about.hanging_w w a b), fits.nodes.hanging_some w h)

      ending_some : (w : ℕ) → 0 < w → w ≤ l.bottom → (w ≡ u) ⊎ ((w ≡ v) ⊎ ((w ≡ u → ⊥) × (w ≡ v → ⊥))) → 0 < length (m.ending w)
      ending_some w h g (inl e) = omega (arith, ap (λ (y : ℕ). length (m.ending y)) e, by_place.length_eu)
      ending_some w h g (inr (inl e)) = omega (arith, ap (λ (y : ℕ). length (m.ending y)) e, by_place.length_ev, by_place.ev_two)
      ending_some w h g (inr (inr (a, b))) = omega (arith, ap (λ (xs : List ℕ). length xs) (about.ending_w w a b), fits.nodes.ending_some w h g)

  -- the line at the left of q goes on in the reversed layout
  pub goes_left_q : m.goes_left q ≡ true
  goes_left_q = put_at q true (put r false l.goes_left) q refl

  goes_left_r : m.goes_left r ≡ false
  goes_left_r = put_other q true (put r false l.goes_left) r about.r_not_q ∙ put_at r false l.goes_left r refl

  -- at all squares but q and r the line at the left goes on in the reversed layout where it does in the layout
  pub goes_left_x : (x : ℕ) → (x ≡ q → ⊥) → (x ≡ r → ⊥) → m.goes_left x ≡ l.goes_left x
  goes_left_x x a b = put_other q true (put r false l.goes_left) x a ∙ put_other r false l.goes_left x b

  goes_right_q : m.goes_right q ≡ false
  goes_right_q = put_at q false (put p true l.goes_right) q refl

  -- the line at the right of p goes on in the reversed layout
  pub goes_right_p : m.goes_right p ≡ true
  goes_right_p = put_other q false (put p true l.goes_right) p about.p_not_q ∙ put_at p true l.goes_right p refl

  -- at all squares but q and p the line at the right goes on in the reversed layout where it does in the layout
  pub goes_right_x : (x : ℕ) → (x ≡ q → ⊥) → (x ≡ p → ⊥) → m.goes_right x ≡ l.goes_right x
  goes_right_x x a b = put_other q false (put p true l.goes_right) x a ∙ put_other p true l.goes_right x b

  -- a test is not both
  pub differ : {A : Type 0} (b : Bool) → b ≡ true → b ≡ false → A
  differ b e f = absurd (cc)

  -- the first that ends on u is r, the last on v is q
  first_is_r : (x : ℕ) → IsFirst (l.ending u) x → x ≡ r
  first_is_r x e = same_Some x r (sym e ∙ can.over)

  -- the last square that ends on v is q
  pub last_is_q : (x : ℕ) → IsLast (l.ending v) x → x ≡ q
  last_is_q x (k, g, h) = same_Some x q (sym h ∙ ap (slice_get (l.ending v)) place ∙ (about.q_last).2)
    where
      place : k ≡ (about.q_last).0
      place = omega (arith, g, (about.q_last).1)

  -- where the line at the left of a square goes on, it is the first that ends on its node
  pub on_left : (x : ℕ) → x < l.squares → m.goes_left x ≡ true → IsFirst (m.ending (m.below x)) x × (m.below x < l.bottom)
  on_left x low e = on (cases_eq x q) (cases_eq x r)
    where
      kept : (x ≡ q → ⊥) → (x ≡ r → ⊥) → IsFirst (l.ending (l.below x)) x × (l.below x < l.bottom) → IsFirst (m.ending (l.below x)) x × (l.below x < l.bottom)
      kept a b f = (at (about.which (l.below x)), f.1)
        where
          at : (l.below x ≡ u) ⊎ ((l.below x ≡ v) ⊎ ((l.below x ≡ u → ⊥) × (l.below x ≡ v → ⊥))) → IsFirst (m.ending (l.below x)) x
          at (inl i) = absurd (b (first_is_r x (subst (λ (z : ℕ). IsFirst (l.ending z) x) i f.0)))
          at (inr (inl i)) = subst (λ (z : ℕ). IsFirst (m.ending z) x) (sym i)
              (by_place.get_ev 0 by_place.ev_two ∙ subst (λ (z : ℕ). IsFirst (l.ending z) x) i f.0)
          at (inr (inr (c, d))) = subst (λ (xs : List ℕ). IsFirst xs x) (sym (about.ending_w (l.below x) c d)) f.0

      on : (x ≡ q) ⊎ (x ≡ q → ⊥) → (x ≡ r) ⊎ (x ≡ r → ⊥) → IsFirst (m.ending (m.below x)) x × (m.below x < l.bottom)
      on (inl i) j = subst (λ (z : ℕ). IsFirst (m.ending (m.below z)) z × (m.below z < l.bottom)) (sym i)
          (subst (λ (z : ℕ). IsFirst (m.ending z) q × (z < l.bottom)) (sym about.below_q) (by_place.get_eu_new, about.u_low))
      on (inr i) (inl j) = differ (m.goes_left x) e (ap m.goes_left j ∙ goes_left_r)
      on (inr i) (inr j) = subst (λ (z : ℕ). IsFirst (m.ending z) x × (z < l.bottom)) (sym (about.below_x x i))
          (kept i j (fits.go_on.on_left x low (sym (goes_left_x x i j) ∙ e)))

  -- where the line at the right of a square goes on, it is the last that ends on its node
  pub on_right : (x : ℕ) → x < l.squares → m.goes_right x ≡ true → IsLast (m.ending (m.below x)) x × (m.below x < l.bottom)
  on_right x low e = on (cases_eq x q) (cases_eq x p)
    where
      kept : (x ≡ q → ⊥) → IsLast (l.ending (l.below x)) x × (l.below x < l.bottom) → IsLast (m.ending (l.below x)) x × (l.below x < l.bottom)
      kept a f = (at (about.which (l.below x)), f.1)
        where
          at : (l.below x ≡ u) ⊎ ((l.below x ≡ v) ⊎ ((l.below x ≡ u → ⊥) × (l.below x ≡ v → ⊥))) → IsLast (m.ending (l.below x)) x
          at (inl i) = subst (λ (z : ℕ). IsLast (m.ending z) x) (sym i) ((eu_last) x (subst (λ (z : ℕ). IsLast (l.ending z) x) i f.0))
          at (inr (inl i)) = absurd (a (last_is_q x (subst (λ (z : ℕ). IsLast (l.ending z) x) i f.0)))
          at (inr (inr (c, d))) = subst (λ (xs : List ℕ). IsLast xs x) (sym (about.ending_w (l.below x) c d)) f.0

      at_p : IsLast (m.ending (m.below p)) p × (m.below p < l.bottom)
      at_p = subst (λ (z : ℕ). IsLast (m.ending z) p × (z < l.bottom)) (sym (about.below_x p about.p_not_q ∙ about.p_below))
          ((p_last), about.v_low)

      on : (x ≡ q) ⊎ (x ≡ q → ⊥) → (x ≡ p) ⊎ (x ≡ p → ⊥) → IsLast (m.ending (m.below x)) x × (m.below x < l.bottom)
      on (inl i) j = differ (m.goes_right x) e (ap m.goes_right i ∙ goes_right_q)
      on (inr i) (inl j) = subst (λ (z : ℕ). IsLast (m.ending (m.below z)) z × (m.below z < l.bottom)) (sym j) at_p
      on (inr i) (inr j) = subst (λ (z : ℕ). IsLast (m.ending z) x × (z < l.bottom)) (sym (about.below_x x i))
          (kept i (fits.go_on.on_right x low (sym (goes_right_x x i j) ∙ e)))

  -- the square at the left wall is the first that ends on its node
  pub at_left_wall : (x : ℕ) → x < l.squares → m.left x ≡ 0 → IsFirst (m.ending (m.below x)) x
  at_left_wall x low e = on (cases_eq x q)
    where
      q_away : l.left q ≡ 0 → ⊥
      q_away f = omega (arith, fits.lists.ending_once v 0 (suc (about.p_beside).0) q (fits.go_on.at_left_wall q can.known f) (about.p_beside).2)

      kept : l.left x ≡ 0 → IsFirst (l.ending (l.below x)) x → (l.below x ≡ u)
          ⊎ ((l.below x ≡ v) ⊎ ((l.below x ≡ u → ⊥) × (l.below x ≡ v → ⊥))) → IsFirst (m.ending (l.below x)) x
      kept wall f (inl i) = absurd (q_away (about.r_left ∙ ap l.left (sym (first_is_r x (subst (λ (z : ℕ). IsFirst (l.ending z) x) i f))) ∙ wall))
      kept wall f (inr (inl i)) = subst (λ (z : ℕ). IsFirst (m.ending z) x) (sym i)
          (by_place.get_ev 0 by_place.ev_two ∙ subst (λ (z : ℕ). IsFirst (l.ending z) x) i f)
      kept wall f (inr (inr (c, d))) = subst (λ (xs : List ℕ). IsFirst xs x) (sym (about.ending_w (l.below x) c d)) f

      on : (x ≡ q) ⊎ (x ≡ q → ⊥) → IsFirst (m.ending (m.below x)) x
      on (inl i) = subst (λ (z : ℕ). IsFirst (m.ending (m.below z)) z) (sym i)
          (subst (λ (z : ℕ). IsFirst (m.ending z) q) (sym about.below_q) by_place.get_eu_new)
      on (inr i) = subst (λ (z : ℕ). IsFirst (m.ending z) x) (sym (about.below_x x i))
          (kept (sym (about.left_x x i) ∙ e) (fits.go_on.at_left_wall x low (sym (about.left_x x i) ∙ e)) (about.which (l.below x)))

  -- the square at the right wall is the last that ends on its node
  pub at_right_wall : (x : ℕ) → x < l.squares → m.right x ≡ 1 → IsLast (m.ending (m.below x)) x
  at_right_wall x low e = on (cases_eq x q)
    where
      p_away : l.right p ≡ 1 → ⊥
      p_away f = about.p_not_q (last_is_q p (subst (λ (z : ℕ). IsLast (l.ending z) p) about.p_below (fits.go_on.at_right_wall p can.before f)))

      kept : (x ≡ q → ⊥) → IsLast (l.ending (l.below x)) x → (l.below x ≡ u)
          ⊎ ((l.below x ≡ v) ⊎ ((l.below x ≡ u → ⊥) × (l.below x ≡ v → ⊥))) → IsLast (m.ending (l.below x)) x
      kept a f (inl i) = subst (λ (z : ℕ). IsLast (m.ending z) x) (sym i) ((eu_last) x (subst (λ (z : ℕ). IsLast (l.ending z) x) i f))
      kept a f (inr (inl i)) = absurd (a (last_is_q x (subst (λ (z : ℕ). IsLast (l.ending z) x) i f)))
      kept a f (inr (inr (c, d))) = subst (λ (xs : List ℕ). IsLast xs x) (sym (about.ending_w (l.below x) c d)) f

      on : (x ≡ q) ⊎ (x ≡ q → ⊥) → IsLast (m.ending (m.below x)) x
      on (inl i) = absurd (p_away (can.beside ∙ sym about.right_q ∙ ap m.right (sym i) ∙ e))
      on (inr i) = subst (λ (z : ℕ). IsLast (m.ending z) x) (sym (about.below_x x i))
          (kept i (fits.go_on.at_right_wall x low (sym (about.right_x x i) ∙ e)) (about.which (l.below x)))

  -- a square whose right line is q's left line, with no further square below it at the left side of that line, is p
  pub only_p : (x : ℕ) → x < l.squares → l.right x ≡ l.left q → l.goes_right x ≡ false → x ≡ p
  only_p x low line e = on (fits.go_on.meet x q low can.known line e can.even_at_left)
    where
      on : AreNeighbours (l.ending (l.below x)) x q → x ≡ p
      on (k, g, h) = same_Some x p (sym here ∙ ap (slice_get (l.ending v)) place ∙ (about.p_beside).1)
        where
          node : l.below x ≡ v
          node = sym (fits.lists.ending_is (l.below x) (suc k) q h).1

          here : slice_get (l.ending v) k ≡ Some x
          here = ap (λ (z : ℕ). slice_get (l.ending z) k) (sym node) ∙ g

          next : suc k ≡ suc (about.p_beside).0
          next = fits.lists.ending_once v (suc k) (suc (about.p_beside).0) q (ap (λ (z : ℕ). slice_get (l.ending z) (suc k)) (sym node) ∙ h) (about.p_beside).2

          place : k ≡ (about.p_beside).0
          place = omega (arith, next)

  -- the square whose left line is the right line of p, and does not go on there, is q
  pub only_q : (y : ℕ) → y < l.squares → l.right p ≡ l.left y → l.goes_left y ≡ false → y ≡ q
  only_q y low line e = on (fits.go_on.meet p y can.before low line can.even_before e)
    where
      on : AreNeighbours (l.ending (l.below p)) p y → y ≡ q
      on (k, g, h) = same_Some y q (sym h ∙ ap (slice_get (l.ending (l.below p))) place ∙ (about.p_meets).2)
        where
          place : suc k ≡ suc (about.p_meets).0
          place = ap suc (fits.lists.ending_once (l.below p) k (about.p_meets).0 p g (about.p_meets).1)

  meet : (x y : ℕ) → x < l.squares → y < l.squares → m.right x ≡ m.left y → m.goes_right x ≡ false → m.goes_left y ≡ false
      → AreNeighbours (m.ending (m.below x)) x y
  meet x y low low_y line e f = on (cases_eq y q) (cases_eq x p) (cases_eq x q) (cases_eq y r)
    where
      kept : (y ≡ q → ⊥) → AreNeighbours (l.ending (l.below x)) x y → (l.below x ≡ u)
          ⊎ ((l.below x ≡ v) ⊎ ((l.below x ≡ u → ⊥) × (l.below x ≡ v → ⊥))) → AreNeighbours (m.ending (l.below x)) x y
      kept a n (inl i) = subst (λ (z : ℕ). AreNeighbours (m.ending z) x y) (sym i) (at (subst (λ (z : ℕ). AreNeighbours (l.ending z) x y) i n))
        where
          at : AreNeighbours (l.ending u) x y → AreNeighbours (m.ending u) x y
          at (k, g, h) = (suc k, by_place.get_eu k ∙ g, by_place.get_eu (suc k) ∙ h)
      kept a n (inr (inl i)) = subst (λ (z : ℕ). AreNeighbours (m.ending z) x y) (sym i) (at (subst (λ (z : ℕ). AreNeighbours (l.ending z) x y) i n))
        where
          at : AreNeighbours (l.ending v) x y → AreNeighbours (m.ending v) x y
          at (k, g, h) = (
            k,
            by_place.get_ev k (omega (arith, slice_get_within (l.ending v) (suc k) y h))
                ∙ g,
            by_place.get_ev (suc k) (inside (cases_eq (suc (suc k)) (length (l.ending v)))) ∙ h,
          )
            where
              inside : (suc (suc k) ≡ length (l.ending v)) ⊎ (suc (suc k) ≡ length (l.ending v) → ⊥) → suc (suc k) < length (l.ending v)
              inside (inl j) = absurd (a (last_is_q y (suc k, j, h)))
              inside (inr j) = less (suc (suc k)) (length (l.ending v)) (omega (arith, slice_get_within (l.ending v) (suc k) y h)) j
                where
                  less : (b c : ℕ) → b ≤ c → (b ≡ c → ⊥) → b < c
                  less b c g n = grind arith
      kept a n (inr (inr (c, d))) = subst (λ (xs : List ℕ). AreNeighbours xs x y) (sym (about.ending_w (l.below x) c d)) n

      at_q : y ≡ r → AreNeighbours (m.ending u) q y
      at_q i = (0, by_place.get_eu_new, by_place.get_eu 0 ∙ can.over ∙ ap (λ (z : ℕ). Some z) (sym i))

      on : (y ≡ q) ⊎ (y ≡ q → ⊥) → (x ≡ p) ⊎ (x ≡ p → ⊥) → (x ≡ q) ⊎ (x ≡ q → ⊥) → (y ≡ r) ⊎ (y ≡ r → ⊥) → AreNeighbours (m.ending (m.below x)) x y
      on (inl a) b c d = differ (m.goes_left y) (ap m.goes_left a ∙ goes_left_q) f
      on (inr a) (inl b) c d = differ (m.goes_right x) (ap m.goes_right b ∙ goes_right_p) e
      on (inr a) (inr b) (inl c) (inl d) = subst (λ (z : ℕ). AreNeighbours (m.ending (m.below z)) z y) (sym c)
          (subst (λ (z : ℕ). AreNeighbours (m.ending z) q y) (sym about.below_q) (at_q d))
      on (inr a) (inr b) (inl c) (inr d) = absurd
          (a (only_q y low_y (can.beside ∙ sym about.right_q ∙ ap m.right (sym c) ∙ line ∙ about.left_x y a) (sym (goes_left_x y a d) ∙ f)))
      on (inr a) (inr b) (inr c) (inl d) = absurd
          (b (only_p x low (sym (about.right_x x c) ∙ line ∙ about.left_x y a ∙ ap l.left d ∙ sym about.r_left) (sym (goes_right_x x c b)
          ∙ e)))
      on (inr a) (inr b) (inr c) (inr d) = subst (λ (z : ℕ). AreNeighbours (m.ending z) x y) (sym (about.below_x x c))
          (kept a (fits.go_on.meet x y low low_y (sym (about.right_x x c) ∙ line ∙ about.left_x y a) (sym (goes_right_x x c b) ∙ e)
          (sym (goes_left_x y a d) ∙ f)) (about.which (l.below x)))

  -- where lines go on in the reversed layout, further squares stand there
  pub go_on_then : DoLinesGoOn m
  go_on_then = record {
    on_left = λ x h e. on_left x h e;
    on_right = λ x h e. on_right x h e;
    at_left_wall = λ x h e. at_left_wall x h e;
    at_right_wall = λ x h e. at_right_wall x h e;
    meet = λ x y h g line e f. meet x y h g line e f;
  }
