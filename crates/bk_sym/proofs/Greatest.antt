-- The greatest of the images, found one by one.
use Rattle.std.specs.Cmp.Lexicographic.{nat_list_cmp_total, slice_cmp}
use Rattle.std.specs.Ordering.{is_le, nat_cmp, ordering_reverse}
use Rattle.std.specs.declared.cmp.Ordering.{Ordering}
use Rattle.std.specs.declared.cmp.Ordering.TheVariants.{Equal, Greater, Less}
use Rattle.std.proofs.Common.{List, ap, arith, drop, get_or, inl, inr, refl, subst, sym, ℕ, ◌+◌, ◌<◌, ◌∙◌, ◌≡◌, ◌≤◌, ◌⊎◌}
use Rattle.std.proofs.lemmas.Bool.{cases_lt}
use Rattle.std.proofs.lemmas.Cmp.{tied_itself}
use Rattle.bk_laws.proofs.Orderings.{slice_cmp-transitive}
use Rattle.bk_code.specs.Code.{code_of, flat}
use Rattle.bk_tiling.specs.Tiling.{IsTiling, Tiling}
use Rattle.bk_sym.proofs.Composing.{image-Same}
use Rattle.bk_sym.specs.Canonical.{IsAtMost, IsCanonicalOf, IsGreatestImage, IsGreatestOf, Lies, scaled_down_tiling}
use Rattle.bk_sym.specs.Image.{image}
use Rattle.bk_sym.specs.Turns.{turns}
use Rattle.bk_sym.specs.declared.Turn.{Turn}
use Rattle.bk_sym.specs.declared.Turn.TheVariants.{FlipX, FlipY, Half, Same, Swap, SwapFlipX, SwapFlipY, SwapHalf}

-- each tiling is at most itself
pub at_most-refl : (t : Tiling) → IsAtMost t t
at_most-refl t = ap is_le (tied_itself nat_list_cmp_total (flat (code_of t)))

-- of two tilings one is at most the other
pub at_most-total : (t u : Tiling) → ¬ (IsAtMost t u) → IsAtMost u t
at_most-total t u later = cases (slice_cmp nat_cmp (flat (code_of t)) (flat (code_of u))) refl
  where
    cases : (r : Ordering) → slice_cmp nat_cmp (flat (code_of t)) (flat (code_of u)) ≡ r → IsAtMost u t
    cases Less e = absurd (later (ap is_le e))
    cases Equal e = absurd (later (ap is_le e))
    cases Greater e = ap is_le (nat_list_cmp_total.antisymm (flat (code_of u)) (flat (code_of t)) ∙ ap ordering_reverse e)

-- of three tilings in order the first is at most the third
pub at_most-trans : (t u v : Tiling) → IsAtMost t u → IsAtMost u v → IsAtMost t v
at_most-trans t u v = slice_cmp-transitive (flat (code_of t)) (flat (code_of u)) (flat (code_of v))

-- no image by one of the first k turns has a greater flat list than c
abbrev pub NoneGreater : Tiling → List Turn → ℕ → Tiling → Type 0
NoneGreater t turns k c = (j : ℕ) → j < k → Lies (image (get_or turns j Same) t) → IsAtMost (image (get_or turns j Same) t) c

-- none of the first images is greater, nor is the next one
pub none_greater-more : (t : Tiling) (turns : List Turn) (k : ℕ) (c : Tiling) → NoneGreater t turns k c
    → (Lies (image (get_or turns k Same) t) → IsAtMost (image (get_or turns k Same) t) c) → NoneGreater t turns (k + 1) c
none_greater-more t turns k c before here j below = cases (cases_lt j k)
  where
    cases : (j < k) ⊎ (k ≤ j) → Lies (image (get_or turns j Same) t) → IsAtMost (image (get_or turns j Same) t) c
    cases (inl h) = before j h
    cases (inr h) = let e : k ≡ j = omega arith in subst (λ n. Lies (image (get_or turns n Same) t) → IsAtMost (image (get_or turns n Same) t) c) e here

-- where no image that lies is greater, c is the greatest
pub greatest_from : (t c : Tiling) → NoneGreater t turns 8 c → IsGreatestImage t c
greatest_from t c none Same = none 0 (omega arith)
greatest_from t c none FlipX = none 1 (omega arith)
greatest_from t c none FlipY = none 2 (omega arith)
greatest_from t c none Half = none 3 (omega arith)
greatest_from t c none Swap = none 4 (omega arith)
greatest_from t c none SwapFlipX = none 5 (omega arith)
greatest_from t c none SwapFlipY = none 6 (omega arith)
greatest_from t c none SwapHalf = none 7 (omega arith)

-- where the flat list of a tiling is at most that of c, and no image by another turn is greater, c is the greatest
pub greatest_of_others : (t c : Tiling) → IsTiling t → IsAtMost t c → NoneGreater t (drop 1 turns) 7 c → IsGreatestImage t c
greatest_of_others t c tiling most none Same = λ _. subst (λ (u : Tiling). IsAtMost u c) (sym (image-Same t tiling)) most
greatest_of_others t c tiling most none FlipX = none 0 (omega arith)
greatest_of_others t c tiling most none FlipY = none 1 (omega arith)
greatest_of_others t c tiling most none Half = none 2 (omega arith)
greatest_of_others t c tiling most none Swap = none 3 (omega arith)
greatest_of_others t c tiling most none SwapFlipX = none 4 (omega arith)
greatest_of_others t c tiling most none SwapFlipY = none 5 (omega arith)
greatest_of_others t c tiling most none SwapHalf = none 6 (omega arith)

-- what is known of the greatest image so far
pub record IsGreatestSoFar (t : Tiling) (first : Turn) (turns : List Turn) (k : ℕ) (c : Tiling) : Type 0 where
  pub turn : Turn
  pub image_of : c ≡ image turn t
  pub lying : Lies c
  pub from_first : IsAtMost (image first t) c
  pub none_greater : NoneGreater t turns k c

-- the greatest so far or the next image, whichever is greater, is the greatest with that one
pub so_far-more : (t : Tiling) (first : Turn) (turns : List Turn) (k : ℕ) (c b new : Tiling) → IsGreatestSoFar t first turns k c
    → b ≡ image (get_or turns k Same) t → Lies (image (get_or turns k Same) t) → (new ≡ c) ⊎ (new ≡ b) → IsAtMost c new → IsAtMost b new
    → IsGreatestSoFar t first turns (k + 1) new
so_far-more t first turns k c b new far is lies one over_c over_b = from one
  where
    most : NoneGreater t turns (k + 1) new
    most = none_greater-more t turns k new (λ j below h. at_most-trans (image (get_or turns j Same) t) c new (far.none_greater j below h) over_c)
        (λ h. subst (λ (u : Tiling). IsAtMost u new) is over_b)

    over_first : IsAtMost (image first t) new
    over_first = at_most-trans (image first t) c new far.from_first over_c

    from : (new ≡ c) ⊎ (new ≡ b) → IsGreatestSoFar t first turns (k + 1) new
    from (inl e) = record { turn = far.turn; image_of = e ∙ far.image_of; lying = subst Lies (sym e) far.lying; from_first = over_first; none_greater = most }
    from (inr e) = record {
      turn = get_or turns k Same;
      image_of = e ∙ is;
      lying = subst Lies (sym (e ∙ is)) lies;
      from_first = over_first;
      none_greater = most;
    }

-- where the next image isn't greater, the greatest so far stays
pub so_far-same : (t : Tiling) (first : Turn) (turns : List Turn) (k : ℕ) (c new : Tiling) → IsGreatestSoFar t first turns k c
    → (Lies (image (get_or turns k Same) t) → IsAtMost (image (get_or turns k Same) t) c) → new ≡ c → IsGreatestSoFar t first turns (k + 1) new
so_far-same t first turns k c new far here e = subst (IsGreatestSoFar t first turns (k + 1)) (sym e) (record {
  turn = far.turn;
  image_of = far.image_of;
  lying = far.lying;
  from_first = far.from_first;
  none_greater = none_greater-more t turns k c far.none_greater here;
})

-- a first image that lies is the greatest of itself alone
pub so_far-none : (t : Tiling) (first : Turn) (turns : List Turn) (c : Tiling) → c ≡ image first t → Lies (image first t) → IsGreatestSoFar t first turns 0 c
so_far-none t first turns c is lies = record {
  turn = first;
  image_of = is;
  lying = subst Lies (sym is) lies;
  from_first = subst (λ (u : Tiling). IsAtMost (image first t) u) (sym is) (at_most-refl (image first t));
  none_greater = λ j below. absurd (omega arith);
}

-- the greatest of itself and of all images is the greatest
pub greatest_of : (t c : Tiling) (first : Turn) → IsGreatestSoFar t first turns 8 c → IsGreatestOf t c
greatest_of t c first far = record { turn = far.turn; image_of = far.image_of; lying = far.lying; greatest = greatest_from t c far.none_greater }

-- the greatest of all images in lowest terms is the canonical tiling
pub canonical_of : (t s c : Tiling) → s ≡ scaled_down_tiling t → IsGreatestOf s c → IsCanonicalOf t c
canonical_of t s c small g = record {
  turn = g.turn;
  image_of = g.image_of ∙ ap (image g.turn) small;
  lying = g.lying;
  greatest = subst (λ (u : Tiling). IsGreatestImage u c) small g.greatest;
}

-- the greatest of all images of a tiling in lowest terms is its canonical tiling
pub canonical_from : (t s c : Tiling) (first : Turn) → s ≡ scaled_down_tiling t → IsGreatestSoFar s first turns 8 c → IsCanonicalOf t c
canonical_from t s c first small far = canonical_of t s c small (greatest_of s c first far)
