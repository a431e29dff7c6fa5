-- A layout with a square reversed fits, and has no twins if the layout has none; the signs of its squares and the states
-- of its sweep are as before, but for two squares.
use Rattle.bk_laws.proofs.ListPlaces.{slice_get-snoc_cases}
use Rattle.bk_laws.proofs.NumberOrder.{zero_or_positive}
use Rattle.bk_laws.proofs.Occurrences.{times, times-head_differs, times_in}
use Rattle.bk_laws.proofs.TestsAsNumbers.{cond_count-nat_eq_other}
use Rattle.bk_layout.proofs.Lists.Drops.{Drops}
use Rattle.bk_layout.proofs.Lists.SquareLists.{lists_at}
use Rattle.bk_layout.proofs.Reversals.ReversedLists.{lists_then, scene}
use Rattle.bk_layout.proofs.Reversals.ReversedParts.{go_on_then, goes_left_x, goes_right_p, goes_right_x, last_is_q, lines_then, nodes_then, only_p}
use Rattle.bk_layout.proofs.Reversals.ReversedParts.{only_q, top_is}
use Rattle.bk_layout.proofs.Sweeps.Chains.{Chain, Known, Run, chain_known, known_first, known_last, last_from, sign}
use Rattle.bk_layout.proofs.Sweeps.Sweep.{State}
use Rattle.bk_layout.proofs.Sweeps.ValleySides.{AtLeft}
use Rattle.bk_layout.specs.Layout.{AreNeighbours, Fits, HasNoTwins, IsLast, Layout}
use Rattle.bk_layout.specs.Reversal.{CanReverse, IsUpToReversals}
use Rattle.bk_layout.specs.ReversalLaws.{AReversedLayoutFits}
use Rattle.bk_word.specs.Outline.{Outline}
use Rattle.bk_word.specs.declared.Sign.{Sign}
use Rattle.bk_word.specs.declared.Sign.TheVariants.{Above, Even, Under}
use Rattle.std.proofs.Common.{Bool, List, Some, [], ap, arith, cond, false, inl, inr, length, map, nat_eq, refl, slice_get, subst, suc, sym, true, zero, ℕ}
use Rattle.std.proofs.Common.{◌+◌, ◌<◌, ◌∙◌, ◌∷◌, ◌≡◌, ◌≤◌, ◌⊎◌}
use Rattle.std.proofs.lemmas.Bool.{cases_eq, eqb-false, eqb-true}
use Rattle.std.specs.List.{AllZip}
use Rattle.std.proofs.lemmas.Option.{same_Some, slice_get_within}

-- the last of some squares isn't one that is none of them
pub last_not : (w x : ℕ) (xs : List ℕ) → times w (x ∷ xs) ≡ 0 → last_from x xs ≡ w → ⊥
last_not w x [] t e = times-head_differs w x [] t e
last_not w x (y ∷ xs) t e = last_not w y xs (omega (arith, t)) e

module _ (l : Layout) (fits : Fits l) (q p r : ℕ) (can : CanReverse l q p r) where
  open (scene l fits q p r can) use {m, u, v, about, by_place}

  -- the reversed layout fits
  pub fits_then : Fits m
  fits_then = record {
    some = fits.some;
    lists = (lists_then l fits q p r can);
    nodes = (nodes_then l fits q p r can);
    lines =
        (lines_then l fits q p r can);
    go_on = (go_on_then l fits q p r can);
  }

  -- the reversed layout is the layout up to reversals
  pub same_then : IsUpToReversals l m
  same_then = record {
    is_reversed = λ x. nat_eq x q;
    squares = refl;
    bottom = refl;
    top = (top_is l fits q p r can);
    above_kept = λ x h e. about.above_x x (eqb-false x q e);
    below_kept = λ x h e. about.below_x x (eqb-false x q e);
    left_kept = λ x h e. about.left_x x (eqb-false x q e);
    right_kept = λ x h e. about.right_x x (eqb-false x q e);
    above_reversed = λ x h e. subst (λ (z : ℕ). m.above z ≡ l.below z) (sym (eqb-true x q e)) about.above_q;
    below_reversed = λ x h e. subst (λ (z : ℕ). m.below z ≡ l.above z) (sym (eqb-true x q e)) about.below_q;
    left_reversed = λ x h e. subst (λ (z : ℕ). m.left z ≡ l.right z) (sym (eqb-true x q e)) about.left_q;
    right_reversed = λ x h e. subst (λ (z : ℕ). m.right z ≡ l.left z) (sym (eqb-true x q e)) about.right_q;
    later = λ x h e. subst (λ (z : ℕ). 0 < l.above z) (sym (eqb-true x q e)) can.later;
  }

  -- ---- no twins

  -- reversing keeps a layout without twins
  pub no_twins_then : HasNoTwins l → HasNoTwins m
  no_twins_then single w x y (j, e, f) (k, g, h) = on (cases_eq x q) (cases_eq y q)
    where
      node : m.above x ≡ w
      node = ((lists_then l fits q p r can).hanging_is w j x e).1

      first_q : x ≡ q → ⊥
      first_q i = omega (
        arith,
        slice_get_within (m.hanging v) (suc j) y next,
        by_place.length_hv,
        (lists_then l fits q p r can).hanging_once v j (length (l.hanging v)) q here (by_place.get_hv_new (length (l.hanging v)) refl),
      )
        where
          at : w ≡ v
          at = sym node ∙ ap m.above i ∙ about.above_q

          here : slice_get (m.hanging v) j ≡ Some q
          here = ap (λ (z : ℕ). slice_get (m.hanging z) j) (sym at) ∙ e ∙ ap (λ (z : ℕ). Some z) i

          next : slice_get (m.hanging v) (suc j) ≡ Some y
          next = ap (λ (z : ℕ). slice_get (m.hanging z) (suc j)) (sym at) ∙ f

      second_q : (x ≡ q → ⊥) → y ≡ q → ⊥
      second_q n i = omega (arith, can.rises x low, ap can.rank over, ap can.rank under, about.u_rank)
        where
          low : x < l.squares
          low = ((lists_then l fits q p r can).hanging_is w j x e).0

          over : l.above x ≡ v
          over = sym (about.above_x x n) ∙ node ∙ sym ((lists_then l fits q p r can).hanging_is w (suc j) y f).1 ∙ ap m.above i ∙ about.above_q

          under : l.below x ≡ u
          under = sym (about.below_x x n) ∙ sym ((lists_then l fits q p r can).ending_is (m.below x) (suc k) y h).1 ∙ ap m.below i ∙ about.below_q

      hung : (x ≡ q → ⊥) → (y ≡ q → ⊥) → (w ≡ u) ⊎ ((w ≡ v) ⊎ ((w ≡ u → ⊥) × (w ≡ v → ⊥))) → AreNeighbours (l.hanging w) x y
      hung a b (inl i) = subst (λ (z : ℕ). AreNeighbours (l.hanging z) x y) (sym i) (
        suc j,
        sym (by_place.get_hu j) ∙ ap (λ (z : ℕ). slice_get (m.hanging z) j) (sym i) ∙ e,
        sym (by_place.get_hu (suc j))
            ∙ ap (λ (z : ℕ). slice_get (m.hanging z) (suc j)) (sym i) ∙ f,
      )
      hung a b (inr (inl i)) = subst (λ (z : ℕ). AreNeighbours (l.hanging z) x y) (sym i) (j, first, second)
        where
          next : slice_get (m.hanging v) (suc j) ≡ Some y
          next = ap (λ (z : ℕ). slice_get (m.hanging z) (suc j)) (sym i) ∙ f

          first : slice_get (l.hanging v) j ≡ Some x
          first = sym (by_place.get_hv j (omega (arith, slice_get_within (m.hanging v) (suc j) y next, by_place.length_hv)))
              ∙ ap (λ (z : ℕ). slice_get (m.hanging z) j) (sym i) ∙ e

          ends : ((suc j < length (l.hanging v)) × (slice_get (l.hanging v) (suc j) ≡ Some y)) ⊎ ((suc j ≡ length (l.hanging v)) × (q ≡ y))
              → slice_get (l.hanging v) (suc j) ≡ Some y
          ends (inl (low, c)) = c
          ends (inr (c, d)) = absurd (b (sym d))

          second : slice_get (l.hanging v) (suc j) ≡ Some y
          second = ends (slice_get-snoc_cases (l.hanging v) q (suc j) y (ap (λ (xs : List ℕ). slice_get xs (suc j)) (sym about.hanging_v) ∙ next))
      hung a b (inr (inr (c, d))) = (
        j,
        ap (λ (xs : List ℕ). slice_get xs j) (sym (about.hanging_w w c d))
            ∙ e,
        ap (λ (xs : List ℕ). slice_get xs (suc j)) (sym (about.hanging_w w c d)) ∙ f,
      )

      at_u : (x ≡ q → ⊥) → (i : ℕ) → slice_get (m.ending u) i ≡ Some x → slice_get (m.ending u) (suc i) ≡ Some y → AreNeighbours (l.ending u) x y
      at_u a zero c d = absurd (a (same_Some x q (sym c ∙ by_place.get_eu_new)))
      at_u a (suc i) c d = (i, sym (by_place.get_eu i) ∙ c, sym (by_place.get_eu (suc i)) ∙ d)

      ended : (x ≡ q → ⊥) → (l.below x ≡ u) ⊎ ((l.below x ≡ v) ⊎ ((l.below x ≡ u → ⊥) × (l.below x ≡ v → ⊥)))
          → AreNeighbours (m.ending (l.below x)) x y → AreNeighbours (l.ending (l.below x)) x y
      ended a (inl i) n = subst (λ (z : ℕ). AreNeighbours (l.ending z) x y) (sym i) (from (subst (λ (z : ℕ). AreNeighbours (m.ending z) x y) i n))
        where
          from : AreNeighbours (m.ending u) x y → AreNeighbours (l.ending u) x y
          from (i, c, d) = at_u a i c d
      ended a (inr (inl i)) n = subst (λ (z : ℕ). AreNeighbours (l.ending z) x y) (sym i) (from (subst (λ (z : ℕ). AreNeighbours (m.ending z) x y) i n))
        where
          from : AreNeighbours (m.ending v) x y → AreNeighbours (l.ending v) x y
          from (i, c, d) = (i, sym (by_place.get_ev i (by_place.below_ev i x c)) ∙ c, sym (by_place.get_ev (suc i) (by_place.below_ev (suc i) y d)) ∙ d)
      ended a (inr (inr (c, d))) n = subst (λ (xs : List ℕ). AreNeighbours xs x y) (about.ending_w (l.below x) c d) n

      on : (x ≡ q) ⊎ (x ≡ q → ⊥) → (y ≡ q) ⊎ (y ≡ q → ⊥) → ⊥
      on (inl a) b = first_q a
      on (inr a) (inl b) = second_q a b
      on (inr a) (inr b) = single w x y (hung a b (about.which w))
          (ended a (about.which (l.below x)) (subst (λ (z : ℕ). AreNeighbours (m.ending z) x y) (about.below_x x a) (k, g, h)))

  neighbours_then : (x y : ℕ) → (x ≡ q → ⊥) → (y ≡ q → ⊥) → AreNeighbours (l.ending (l.below x)) x y → AreNeighbours (m.ending (m.below x)) x y
  neighbours_then x y b a n = subst (λ (z : ℕ). AreNeighbours (m.ending z) x y) (sym (about.below_x x b)) (on (about.which (l.below x)))
    where
      at_u : AreNeighbours (l.ending u) x y → AreNeighbours (m.ending u) x y
      at_u (k, g, h) = (suc k, by_place.get_eu k ∙ g, by_place.get_eu (suc k) ∙ h)

      less : (b c : ℕ) → b ≤ c → (b ≡ c → ⊥) → b < c
      less b c g n = grind arith

      at_v : AreNeighbours (l.ending v) x y → AreNeighbours (m.ending v) x y
      at_v (k, g, h) = (
        k,
        by_place.get_ev k (omega (arith, slice_get_within (l.ending v) (suc k) y h))
            ∙ g,
        by_place.get_ev (suc k) (less (suc (suc k)) (length (l.ending v)) (omega (arith, slice_get_within (l.ending v) (suc k) y h))
            (λ j. a ((last_is_q l fits q p r can) y (suc k, j, h)))) ∙ h,
      )

      on : (l.below x ≡ u) ⊎ ((l.below x ≡ v) ⊎ ((l.below x ≡ u → ⊥) × (l.below x ≡ v → ⊥))) → AreNeighbours (m.ending (l.below x)) x y
      on (inl i) = subst (λ (z : ℕ). AreNeighbours (m.ending z) x y) (sym i) (at_u (subst (λ (z : ℕ). AreNeighbours (l.ending z) x y) i n))
      on (inr (inl i)) = subst (λ (z : ℕ). AreNeighbours (m.ending z) x y) (sym i) (at_v (subst (λ (z : ℕ). AreNeighbours (l.ending z) x y) i n))
      on (inr (inr (c, d))) = subst (λ (xs : List ℕ). AreNeighbours xs x y) (sym (about.ending_w (l.below x) c d)) n

  run_then : (x : ℕ) (xs : List ℕ) → Run l x xs → times q (x ∷ xs) ≡ 0 → Run m x xs
  run_then x [] run t = tt
  run_then x (y ∷ xs) run t =
      (neighbours_then x y (times-head_differs q x (y ∷ xs) t) (times-head_differs q y xs (omega (arith, t))) run.0, run_then y xs run.1 (omega (arith, t)))

  known_then : (x : ℕ) (xs : List ℕ) → Known l x xs → Known m x xs
  known_then x [] k = k
  known_then x (y ∷ xs) k = (k.0, known_then y xs k.1)

  -- signs between the same squares
  pub sign_moved : (x y : ℕ) → (x ≡ q → ⊥) → (x ≡ p → ⊥) → (y ≡ q → ⊥) → x < l.squares → l.right x ≡ l.left y → sign m x y ≡ sign l x y
  sign_moved x y a b c low line = on (cases_eq y r)
    where
      goes : (g : Bool) → l.goes_right x ≡ g → y ≡ r → sign m x y ≡ sign l x y
      goes true e f = ap (λ (g : Bool). cond {A = Sign} g Above (cond (m.goes_left y) Under Even)) ((goes_right_x l fits q p r can) x a b ∙ e)
          ∙ sym (ap (λ (g : Bool). cond {A = Sign} g Above (cond (l.goes_left y) Under Even)) e)
      goes false e f = absurd (b ((only_p l fits q p r can) x low (line ∙ ap l.left f ∙ sym about.r_left) e))

      on : (y ≡ r) ⊎ (y ≡ r → ⊥) → sign m x y ≡ sign l x y
      on (inl f) = goes (l.goes_right x) refl f
      on (inr f) = λ i. cond ((goes_right_x l fits q p r can) x a b i) Above (cond ((goes_left_x l fits q p r can) y c f i) Under Even)

  -- the sign at the right of p is under in the layout
  pub sign_before : (y : ℕ) → (y ≡ q → ⊥) → y < l.squares → l.right p ≡ l.left y → sign l p y ≡ Under
  sign_before y a low line = goes (l.goes_left y) refl
    where
      goes : (g : Bool) → l.goes_left y ≡ g → sign l p y ≡ Under
      goes true e = λ i. cond (can.even_before i) Above (cond (e i) Under Even)
      goes false e = absurd (a ((only_q l fits q p r can) y low line e))

  -- the sign at the right of p is above in the reversed layout
  pub sign_then : (y : ℕ) → sign m p y ≡ Above
  sign_then y = ap (λ (g : Bool). cond {A = Sign} g Above (cond (m.goes_left y) Under Even)) (goes_right_p l fits q p r can)

  -- open squares without p and q have the same signs in both layouts
  pub chain_then : (g : List Sign) (segments : List (List ℕ)) → Chain l g segments → times_in q segments ≡ 0 → times_in p segments ≡ 0 → Chain m g segments
  chain_then g [] c a b = absurd c
  chain_then g ([] ∷ segments) c a b = absurd c
  chain_then [] ((x ∷ xs) ∷ []) c a b = (
    known_then x xs c.0,
    run_then x xs c.1 (omega (arith, a)),
    about.right_x (last_from x xs) (last_not q x xs (omega (arith, a))) ∙ c.2,
  )
  chain_then [] ((x ∷ xs) ∷ s ∷ segments) c a b = absurd c
  chain_then (h ∷ g) ((x ∷ xs) ∷ []) c a b = absurd c
  chain_then (h ∷ g) ((x ∷ xs) ∷ [] ∷ segments) c a b = absurd c
  chain_then (h ∷ g) ((x ∷ xs) ∷ (y ∷ ys) ∷ segments) c a b = (
    known_then x xs c.0,
    run_then x xs c.1 (omega (arith, a)),
    (
      about.right_x (last_from x xs) (last_not q x xs (omega (arith, a))) ∙ c.2.0 ∙ sym (about.left_x y (times-head_differs q y ys (omega (arith, a)))),
      c.2.1 ∙ sym (sign_moved (last_from x xs) y (last_not q x xs (omega (arith, a))) (last_not p x xs (omega (arith, b)))
          (times-head_differs q y ys (omega (arith, a))) (known_last l x xs c.0) c.2.0),
    ),
    chain_then g ((y ∷ ys) ∷ segments) c.3 (omega (arith, a)) (omega (arith, b)),
  )

  -- p stands last in its segment
  last_is_p : (x : ℕ) (xs : List ℕ) → Run l x xs → times q (x ∷ xs) ≡ 0 → 0 < times p (x ∷ xs) → last_from x xs ≡ p
  last_is_p x [] run a b = on (cases_eq p x)
    where
      on : (p ≡ x) ⊎ (p ≡ x → ⊥) → x ≡ p
      on (inl e) = sym e
      on (inr e) = absurd (omega (arith, b, cond_count-nat_eq_other p x e))
  last_is_p x (y ∷ xs) run a b = on (cases_eq p x) (λ t. last_is_p y xs run.1 (omega (arith, a)) t)
    where
      next : p ≡ x → AreNeighbours (l.ending (l.below p)) p y → y ≡ q
      next e (k, g, h) = same_Some y q (sym h ∙ ap (slice_get (l.ending (l.below p)))
          (ap suc (fits.lists.ending_once (l.below p) k (about.p_meets).0 p g (about.p_meets).1)) ∙ (about.p_meets).2)

      on : (p ≡ x) ⊎ (p ≡ x → ⊥) → (0 < times p (y ∷ xs) → last_from y xs ≡ p) → last_from y xs ≡ p
      on (inl e) rest =
          absurd (times-head_differs q y xs (omega (arith, a)) (next e (subst (λ (z : ℕ). AreNeighbours (l.ending (l.below z)) z y) (sym e) run.0)))
      on (inr e) rest = rest (omega (arith, b, cond_count-nat_eq_other p x e))

  -- two chains of one list of squares have one list of signs, but for the sign at the right of p
  pub same_signs : (g h : List Sign) (segments : List (List ℕ)) → Chain l g segments → Chain m h segments → times_in q segments ≡ 0
      → times_in p segments ≡ 0 → h ≡ g
  same_signs g h [] c d a b = absurd c
  same_signs g h ([] ∷ segments) c d a b = absurd c
  same_signs [] [] ((x ∷ xs) ∷ []) c d a b = refl
  same_signs [] (j ∷ h) ((x ∷ xs) ∷ []) c d a b = absurd d
  same_signs (i ∷ g) h ((x ∷ xs) ∷ []) c d a b = absurd c
  same_signs [] h ((x ∷ xs) ∷ s ∷ segments) c d a b = absurd c
  same_signs (i ∷ g) [] ((x ∷ xs) ∷ s ∷ segments) c d a b = absurd d
  same_signs (i ∷ g) (j ∷ h) ((x ∷ xs) ∷ [] ∷ segments) c d a b = absurd c
  same_signs (i ∷ g) (j ∷ h) ((x ∷ xs) ∷ (y ∷ ys) ∷ segments) c d a b =
      let one : j ≡ i = d.2.1 ∙ sign_moved (last_from x xs) y (last_not q x xs (omega (arith, a))) (last_not p x xs (omega (arith, b)))
      (times-head_differs q y ys (omega (arith, a))) (known_last l x xs c.0) c.2.0 ∙ sym c.2.1 in
      let rest : h ≡ g = same_signs g h ((y ∷ ys) ∷ segments) c.3 d.3 (omega (arith, a)) (omega (arith, b)) in
      λ k. one k ∷ rest k

  chain_head_known : (g : List Sign) (x : ℕ) (xs : List ℕ) (segments : List (List ℕ)) → Chain l g ((x ∷ xs) ∷ segments) → x < l.squares
  chain_head_known g x xs segments c = known_first l x xs (chain_known l g x xs segments c)

  -- with p among them the signs of the reversed layout drop
  pub dropped_signs : (g h : List Sign) (segments : List (List ℕ)) → Chain l g segments → Chain m h segments → times_in q segments ≡ 0
      → 0 < times_in p segments → Drops h g
  dropped_signs g h [] c d a b = absurd c
  dropped_signs g h ([] ∷ segments) c d a b = absurd c
  dropped_signs (i ∷ g) h ((x ∷ xs) ∷ []) c d a b = absurd c
  dropped_signs [] h ((x ∷ xs) ∷ s ∷ segments) c d a b = absurd c
  dropped_signs [] h ((x ∷ xs) ∷ []) c d a b = absurd (p_away (ap l.right (sym (last_is_p x xs c.1 (omega (arith, a)) (omega (arith, b)))) ∙ c.2))
    where
      p_away : l.right p ≡ 1 → ⊥
      p_away f = about.p_not_q ((last_is_q l fits q p r can) p
          (subst (λ (z : ℕ). IsLast (l.ending z) p) about.p_below (fits.go_on.at_right_wall p can.before f)))
  dropped_signs (i ∷ g) [] ((x ∷ xs) ∷ s ∷ segments) c d a b = absurd d
  dropped_signs (i ∷ g) (j ∷ h) ((x ∷ xs) ∷ [] ∷ segments) c d a b = absurd c
  dropped_signs (i ∷ g) (j ∷ h) ((x ∷ xs) ∷ (y ∷ ys) ∷ segments) c d a b =
      on (zero_or_positive (times p (x ∷ xs))) (λ t. dropped_signs g h ((y ∷ ys) ∷ segments) c.3 d.3 (omega (arith, a)) t)
    where
      on : (times p (x ∷ xs) ≡ 0) ⊎ (0 < times p (x ∷ xs)) → (0 < times_in p ((y ∷ ys) ∷ segments) → Drops h g) → Drops (j ∷ h) (i ∷ g)
      on (inl e) rest = inr (
        d.2.1 ∙ sign_moved (last_from x xs) y (last_not q x xs (omega (arith, a))) (last_not p x xs e)
            (times-head_differs q y ys (omega (arith, a))) (known_last l x xs c.0) c.2.0 ∙ sym c.2.1,
        rest (omega (arith, b, e)),
      )
      on (inr e) rest = let is : last_from x xs ≡ p = last_is_p x xs c.1 (omega (arith, a)) e in
          inl (
            d.2.1 ∙ ap (λ (z : ℕ). sign m z y) is ∙ sign_then y,
            c.2.1 ∙ ap (λ (z : ℕ). sign l z y) is ∙ sign_before y (times-head_differs q y ys (omega (arith, a)))
                (chain_head_known g y ys segments c.3) (ap l.right (sym is) ∙ c.2.0),
          )

  hung_moved : (done xs ks : List ℕ) → AllZip (λ x k. slice_get done k ≡ Some (l.above x)) xs ks → times q xs ≡ 0
      → AllZip (λ x k. slice_get done k ≡ Some (m.above x)) xs ks
  hung_moved done [] [] z t = tt
  hung_moved done [] (k ∷ ks) z t = absurd z
  hung_moved done (x ∷ xs) [] z t = absurd z
  hung_moved done (x ∷ xs) (k ∷ ks) z t = (
    z.0 ∙ ap (λ (w : ℕ). Some w) (sym (about.above_x x (times-head_differs q x xs t))),
    hung_moved done xs ks z.1 (omega (arith, t)),
  )

  ending_moved : (done : List ℕ) → times u done ≡ 0 → times v done ≡ 0 → map l.ending done ≡ map m.ending done
  ending_moved [] a b = refl
  ending_moved (w ∷ done) a b = λ i. sym (about.ending_w w (times-head_differs u w done a)
      (times-head_differs v w done b)) i ∷ ending_moved done (omega (arith, a)) (omega (arith, b)) i

  wall_moved : (segments : List (List ℕ)) → AtLeft l segments → times_in q segments ≡ 0 → AtLeft m segments
  wall_moved [] a t = absurd a
  wall_moved ([] ∷ segments) a t = absurd a
  wall_moved ((x ∷ xs) ∷ segments) a t = about.left_x x (times-head_differs q x xs (omega (arith, t))) ∙ a

  -- a state of the sweep before p and q are laid and v is closed is one of the reversed layout's sweep
  pub state_moved : (o : Outline) (st : State l o) → times q st.laid ≡ 0 → times p st.laid ≡ 0 → times v st.done ≡ 0 → (s : State m o)
      × (s.laid ≡ st.laid) × (s.done ≡ st.done)
  state_moved o st no_q no_p no_v = (
    record {
      laid = st.laid;
      done = st.done;
      shaped = st.shaped;
      numbered = st.numbered;
      long = st.long;
      chain = (chain_then) o.signs (lists_at st.laid o.segments) st.chain q_closed p_closed;
      wall = wall_moved (lists_at st.laid o.segments) st.wall q_closed;
      closed = st.closed ∙ ending_moved st.done no_u no_v;
      hung = hung_moved st.done st.laid o.hung st.hung no_q;
      laid_times = λ x h. laid x h (cases_eq x q);
      open_times = λ x h. opened x h (cases_eq x q);
      done_once = st.done_once;
      top = st.top;
      begun = st.begun;
      laid_low = st.laid_low;
      done_low = st.done_low;
    },
    refl,
    refl,
  )
    where
      no_u : times u st.done ≡ 0
      no_u = omega (arith, no_q, st.laid_times q can.known)

      q_closed : times_in q (lists_at st.laid o.segments) ≡ 0
      q_closed = omega (arith, no_u, st.open_times q can.known)

      p_closed : times_in p (lists_at st.laid o.segments) ≡ 0
      p_closed = omega (arith, no_p, st.laid_times p can.before, st.open_times p can.before)

      laid : (x : ℕ) → x < l.squares → (x ≡ q) ⊎ (x ≡ q → ⊥) → times x st.laid ≡ times (m.above x) st.done
      laid x h (inl e) = omega (arith, ap (λ (z : ℕ). times z st.laid) e, no_q, ap (λ (z : ℕ). times z st.done) (ap m.above e ∙ about.above_q), no_v)
      laid x h (inr e) = omega (arith, st.laid_times x h, ap (λ (z : ℕ). times z st.done) (about.above_x x e))

      opened : (x : ℕ) → x < l.squares → (x ≡ q) ⊎ (x ≡ q → ⊥)
          → times_in x (lists_at st.laid o.segments) + times (m.below x) st.done ≡ times (m.above x) st.done
      opened x h (inl e) = omega (
        arith,
        ap (λ (z : ℕ). times_in z (lists_at st.laid o.segments)) e,
        q_closed,
        ap (λ (z : ℕ). times z st.done) (ap m.above e ∙ about.above_q),
        ap (λ (z : ℕ). times z st.done) (ap m.below e ∙ about.below_q),
        no_v,
        no_u,
      )
      opened x h (inr e) = omega (
        arith,
        st.open_times x h,
        ap (λ (z : ℕ). times z st.done) (about.above_x x e),
        ap (λ (z : ℕ). times z st.done) (about.below_x x e),
      )

-- the law
pub a_reversed_layout_fits : AReversedLayoutFits
a_reversed_layout_fits l fits q p r can = record { fits = fits_then l fits q p r can; same = same_then l fits q p r can }
