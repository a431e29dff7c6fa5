-- A layout without pairs has none up to reversed squares: a node with one square above and one below has two squares.
use Rattle.std.proofs.Common.{List, Some, [], ap, arith, false, inl, inr, length, refl, slice_get, sym, true, ℕ, ◌<◌, ◌∙◌, ◌∷◌, ◌≡◌, ◌⊎◌}
use Rattle.std.proofs.lemmas.Bool.{cases_Bool}
use Rattle.std.proofs.lemmas.Option.{same_Some, slice_get_within}
use Rattle.bk_laws.proofs.ListPlaces.{get_some}
use Rattle.bk_laws.proofs.Truth.{either-swap}
use Rattle.bk_layout.proofs.Lists.NodeLists.{Sorted, ending_sorted, hanging_sorted, sorted_is, sorted_once}
use Rattle.bk_layout.specs.Layout.{Fits, Layout}
use Rattle.bk_layout.specs.SimpleLayout.{HasNoPairs}
use Rattle.bk_layout.specs.Reversal.{IsUpToReversals}
use Rattle.bk_layout.proofs.Reversals.UpToReversals.{either}

third : (a b x y z : ℕ) → (x ≡ a) ⊎ (x ≡ b) → (y ≡ a) ⊎ (y ≡ b) → (z ≡ a) ⊎ (z ≡ b) → (x ≡ y → ⊥) → (z ≡ x) ⊎ (z ≡ y)
third a b x y z (inl e) (inl f) h n = absurd (n (e ∙ sym f))
third a b x y z (inr e) (inr f) h n = absurd (n (e ∙ sym f))
third a b x y z (inl e) (inr f) (inl h) n = inl (h ∙ sym e)
third a b x y z (inl e) (inr f) (inr h) n = inr (h ∙ sym f)
third a b x y z (inr e) (inl f) (inl h) n = inr (h ∙ sym f)
third a b x y z (inr e) (inl f) (inr h) n = inl (h ∙ sym e)

-- a list of one number has no other
only_one : (xs : List ℕ) (k x a : ℕ) → length xs ≡ 1 → slice_get xs k ≡ Some x → slice_get xs 0 ≡ Some a → x ≡ a
only_one xs k x a one got first = same_Some x a (sym (ap (slice_get xs) place ∙ got) ∙ first)
  where
    place : 0 ≡ k
    place = omega (arith, slice_get_within xs k x got, one)

-- at a node with two squares in all, and some at its other side, no two stand at one side
no_two : (n : ℕ) (here there : ℕ → ℕ) (hs ks : ℕ → List ℕ) → Sorted n here hs → Sorted n there ks → (v a b : ℕ)
    → ((x : ℕ) → x < n → here x ≡ v → there x ≡ v → ⊥) → ((x : ℕ) → x < n → (here x ≡ v) ⊎ (there x ≡ v) → (x ≡ a) ⊎ (x ≡ b))
    → 0 < length (ks v) → (x y : ℕ) → slice_get (hs v) 0 ≡ Some x → slice_get (hs v) 1 ≡ Some y → ⊥
no_two n here there hs ks s t v a b apart only some x y e f = with
    (third a b x y z.0 (only x is_x.0 (inl is_x.1)) (only y is_y.0 (inl is_y.1)) (only z.0 is_z.0 (inr is_z.1)) differ)
  where
    z : (z : ℕ) × (slice_get (ks v) 0 ≡ Some z)
    z = get_some (ks v) 0 some

    is_x : (x < n) × (here x ≡ v)
    is_x = sorted_is n here hs s v 0 x e

    is_y : (y < n) × (here y ≡ v)
    is_y = sorted_is n here hs s v 1 y f

    is_z : (z.0 < n) × (there z.0 ≡ v)
    is_z = sorted_is n there ks t v 0 z.0 z.1

    differ : x ≡ y → ⊥
    differ i = omega (arith, sorted_once n here hs s v 0 1 y (e ∙ ap (λ (n : ℕ). Some n) i) f)

    with : (z.0 ≡ x) ⊎ (z.0 ≡ y) → ⊥
    with (inl i) = apart x is_x.0 is_x.1 (ap there (sym i) ∙ is_z.1)
    with (inr i) = apart y is_y.0 is_y.1 (ap there (sym i) ∙ is_z.1)

module _ (l m : Layout) (same : IsUpToReversals l m) where
  -- a square at a node stays there
  at_over : (v x : ℕ) → x < l.squares → (l.above x ≡ v) ⊎ (l.below x ≡ v) → (m.above x ≡ v) ⊎ (m.below x ≡ v)
  at_over v x low b = on (cases_Bool (same.is_reversed x))
    where
      on : (same.is_reversed x ≡ true) ⊎ (same.is_reversed x ≡ false) → (m.above x ≡ v) ⊎ (m.below x ≡ v)
      on (inl e) = either-swap (either (λ h. same.below_reversed x low e ∙ h) (λ h. same.above_reversed x low e ∙ h) b)
      on (inr e) = either (λ h. same.above_kept x low e ∙ h) (λ h. same.below_kept x low e ∙ h) b

  -- a node with one square above and one below has two squares, so it had one on each side before
  module _ (fits : Fits l) (fits_m : Fits m) where
    apart : (x v : ℕ) → x < l.squares → l.above x ≡ v → l.below x ≡ v → ⊥
    apart x v low e f = omega (arith, fits.nodes.rises x low, ap fits.nodes.rank (e ∙ sym f))

    -- a layout has no pairs if the layout that it is up to reversals has none
    pub pairs_over : HasNoPairs l → HasNoPairs m
    pairs_over pairs v one_end one_hang = from (get_some (m.ending v) 0 (omega (arith, one_end))) (get_some (m.hanging v) 0 (omega (arith, one_hang)))
      where
        from : (a : ℕ) × (slice_get (m.ending v) 0 ≡ Some a) → (b : ℕ) × (slice_get (m.hanging v) 0 ≡ Some b) → ⊥
        from (a, got_a) (b, got_b) = pairs v (one (l.ending v) some_end (λ x y e f. no_two_end x y e f))
            (one (l.hanging v) some_hang (λ x y e f. no_two_hang x y e f))
          where
            is_a : (a < m.squares) × (m.below a ≡ v)
            is_a = fits_m.lists.ending_is v 0 a got_a

            is_b : (b < m.squares) × (m.above b ≡ v)
            is_b = fits_m.lists.hanging_is v 0 b got_b

            deep : 0 < v
            deep = omega (arith, (fits_m.nodes.ends_below a is_a.0).0, is_a.1)

            inner : v < l.bottom
            inner = omega (arith, fits_m.nodes.hangs_above b is_b.0, is_b.1, same.bottom)

            some_end : 0 < length (l.ending v)
            some_end = fits.nodes.ending_some v deep (omega (arith, inner))

            some_hang : 0 < length (l.hanging v)
            some_hang = fits.nodes.hanging_some v inner

            only : (x : ℕ) → x < m.squares → (m.above x ≡ v) ⊎ (m.below x ≡ v) → (x ≡ a) ⊎ (x ≡ b)
            only x low (inl e) = let g = fits_m.lists.hangs x low in
                inr (only_one (m.hanging v) g.0 x b one_hang (ap (λ (w : ℕ). slice_get (m.hanging w) g.0) (sym e) ∙ g.1) got_b)
            only x low (inr e) = let g = fits_m.lists.ends x low in
                inl (only_one (m.ending v) g.0 x a one_end (ap (λ (w : ℕ). slice_get (m.ending w) g.0) (sym e) ∙ g.1) got_a)

            only_l : (x : ℕ) → x < l.squares → (l.above x ≡ v) ⊎ (l.below x ≡ v) → (x ≡ a) ⊎ (x ≡ b)
            only_l x low h = only x (omega (arith, low, same.squares)) (at_over v x low h)

            no_two_end : (x y : ℕ) → slice_get (l.ending v) 0 ≡ Some x → slice_get (l.ending v) 1 ≡ Some y → ⊥
            no_two_end = no_two l.squares l.below l.above l.ending l.hanging (ending_sorted l fits.lists) (hanging_sorted l fits.lists) v a b
                (λ x low e f. apart x v low f e) (λ x low h. only_l x low (either-swap h)) some_hang

            no_two_hang : (x y : ℕ) → slice_get (l.hanging v) 0 ≡ Some x → slice_get (l.hanging v) 1 ≡ Some y → ⊥
            no_two_hang = no_two l.squares l.above l.below l.hanging l.ending (hanging_sorted l fits.lists) (ending_sorted l fits.lists) v a b
                (λ x low e f. apart x v low e f) only_l some_end

            one : (xs : List ℕ) → 0 < length xs → ((x y : ℕ) → slice_get xs 0 ≡ Some x → slice_get xs 1 ≡ Some y → ⊥) → length xs ≡ 1
            one [] some none = absurd (omega arith)
            one (x ∷ []) some none = refl
            one (x ∷ y ∷ xs) some none = absurd (none x y refl refl)
