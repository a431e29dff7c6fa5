-- What stands at the left of a valley begins its node; and sums over the squares that end there.
use Rattle.std.proofs.Common.{List, Some, [], ap, arith, false, inl, inr, length, refl, slice_get, sym, true, ℕ}
use Rattle.std.proofs.Common.{◌++◌, ◌+◌, ◌<◌, ◌∙◌, ◌∷◌, ◌≡◌, ◌≤◌, ◌⊎◌}
use Rattle.std.proofs.lemmas.Bool.{both_ways, cases_eq}
use Rattle.bk_laws.proofs.Occurrences.{times}
use Rattle.bk_laws.proofs.TestsAsNumbers.{cond_count-nat_eq_other, cond_count-nat_eq_same}
use Rattle.bk_word.specs.Outline.{valley_place}
use Rattle.bk_word.specs.declared.Sign.{Sign}
use Rattle.bk_word.specs.declared.Sign.TheVariants.{Above, Even, Under}
use Rattle.bk_word_net.proofs.Outlines.ValleyCut.{AllPart}
use Rattle.bk_layout.proofs.Sweeps.Chains.{Chain, Known, Meet, Run, chain_known, known_first}
use Rattle.bk_layout.proofs.Sweeps.Chains.{even_test, last_from, singles}
use Rattle.bk_layout.proofs.Sweeps.ValleySides.{AtLeft}
use Rattle.bk_layout.proofs.Sweeps.WholeRuns.{above_right, under_left}
use Rattle.bk_layout.specs.Layout.{AreNeighbours, Fits, IsFirst, Layout}

-- ---- what stands at the left of a valley begins its node

-- the first segment begins with the first square that ends on its node
abbrev HeadFirst : Layout → List (List ℕ) → Type 0
HeadFirst l [] = ⊥
HeadFirst l ([] ∷ segments) = ⊥
HeadFirst l ((x ∷ xs) ∷ segments) = IsFirst (l.ending (l.below x)) x

-- the segment at the left wall begins so
pub at_head : (l : Layout) → Fits l → (g : List Sign) (segments : List (List ℕ)) → Chain l g segments → AtLeft l segments → HeadFirst l segments
at_head l fits g [] c a = absurd a
at_head l fits g ([] ∷ segments) c a = absurd a
at_head l fits g ((x ∷ xs) ∷ segments) c a = fits.go_on.at_left_wall x (known_first l x xs (chain_known l g x xs segments c)) a

-- if the first segment begins with the first square that ends on its node, so does each one up to the valley
pub first_there : (l : Layout) → Fits l → (front : List (List ℕ)) (g : List Sign) (x : ℕ) (xs : List ℕ) (rest : List (List ℕ)) → AllPart g
    → length front ≤ valley_place g → Chain l g (front ++ (x ∷ xs) ∷ rest) → HeadFirst l (front ++ (x ∷ xs) ∷ rest) → IsFirst (l.ending (l.below x)) x
first_there l fits [] g x xs rest part place c f = f
first_there l fits ([] ∷ front) g x xs rest part place c f = absurd f
first_there l fits ((y ∷ ys) ∷ front) [] x xs rest part place c f = absurd (omega (arith, place))
first_there l fits ((y ∷ ys) ∷ front) (Above ∷ g) x xs rest part place c f = absurd (omega (arith, place))
first_there l fits ((y ∷ ys) ∷ front) (Even ∷ g) x xs rest part place c f = absurd (both_ways false refl part.0)
first_there l fits ((y ∷ ys) ∷ []) (Under ∷ g) x xs rest part place c f =
    first_there l fits [] g x xs rest part.1 (omega arith) c.3
    (fits.go_on.on_left x (known_first l x xs (chain_known l g x xs rest c.3)) (under_left l (last_from y ys) x c.2.1).1).0
first_there l fits ((y ∷ ys) ∷ [] ∷ front) (Under ∷ g) x xs rest part place c f = absurd c
first_there l fits ((y ∷ ys) ∷ (z ∷ zs) ∷ front) (Under ∷ g) x xs rest part place c f =
    first_there l fits ((z ∷ zs) ∷ front) g x xs rest part.1 (omega (arith, place)) c.3
    (fits.go_on.on_left z (known_first l z zs (chain_known l g z zs (front ++ (x ∷ xs) ∷ rest) c.3)) (under_left l (last_from y ys) z c.2.1).1).0

-- ---- the two signs

-- a segment before a square q that stands even beside it, while the line at the right of q goes on
pub record TwoSigns (l : Layout) (s : List ℕ) (q : ℕ) : Type 0 where
  pub x : ℕ
  pub xs : List ℕ
  pub is : s ≡ x ∷ xs
  pub known : Known l x xs
  pub run : Run l x xs
  pub meet : Meet l Even (last_from x xs) q
  pub before_goes : l.goes_right (last_from x xs) ≡ false
  pub goes_left : l.goes_left q ≡ false
  pub goes_right : l.goes_right q ≡ true

-- the signs even and above at the left of a move say that its first square ends level with the one beside it
pub two_signs : (l : Layout) (s : List ℕ) (g a : List Sign) (q : ℕ) (more : List ℕ) (rest : List (List ℕ))
    → Chain l (g ++ a) (s ∷ (q ∷ []) ∷ (singles more ++ rest)) → slice_get g 0 ≡ Some Even → slice_get g 1 ≡ Some Above → 0 < length more → TwoSigns l s q
two_signs l s [] a q more rest c e f two = absurd (cc)
two_signs l s (g ∷ []) a q more rest c e f two = absurd (cc)
two_signs l s (g ∷ h ∷ gs) a q [] rest c e f two = absurd (omega arith)
two_signs l [] (g ∷ h ∷ gs) a q (y ∷ more) rest c e f two = absurd c
two_signs l (x ∷ xs) (g ∷ h ∷ gs) a q (y ∷ more) rest c e f two = record {
  x = x;
  xs = xs;
  is = refl;
  known = c.0;
  run = c.1;
  meet = (c.2.0, sym even ∙ c.2.1);
  before_goes = (even_test (l.goes_right (last_from x xs)) (l.goes_left q) (sym even ∙ c.2.1)).0;
  goes_left = (even_test (l.goes_right (last_from x xs)) (l.goes_left q) (sym even ∙ c.2.1)).1;
  goes_right = above_right l q y (sym over ∙ c.3.2.1);
}
  where
    even : g ≡ Even
    even = cc

    over : h ≡ Above
    over = cc

-- a run of neighbours at a node with one more at its end
pub run_end : (l : Layout) (x : ℕ) (xs : List ℕ) (q : ℕ) → Run l x xs → AreNeighbours (l.ending (l.below (last_from x xs))) (last_from x xs) q
    → Run l x (xs ++ (q ∷ []))
run_end l x [] q run n = (n, tt)
run_end l x (y ∷ xs) q run n = (run.0, run_end l y xs q run.1 n)

-- the last square of a run stands in it
pub last_once : (x : ℕ) (xs : List ℕ) → 0 < times (last_from x xs) (x ∷ xs)
last_once x [] = omega (arith, cond_count-nat_eq_same x x refl)
last_once x (y ∷ xs) = omega (arith, last_once y xs)

-- ---- a bound of ranks

-- the sum of ranks
abbrev pub total : (ℕ → ℕ) → List ℕ → ℕ
total f [] = 0
total f (x ∷ xs) = f x + total f xs

-- a rank is at most the sum in which it stands
pub in_total : (f : ℕ → ℕ) (w : ℕ) (xs : List ℕ) → 0 < times w xs → f w ≤ total f xs
in_total f w [] h = absurd (omega arith)
in_total f w (x ∷ xs) h = on (cases_eq w x) (in_total f w xs)
  where
    on : (w ≡ x) ⊎ (w ≡ x → ⊥) → (0 < times w xs → f w ≤ total f xs) → f w ≤ f x + total f xs
    on (inl e) rest = omega (arith, ap f e)
    on (inr e) rest = omega (arith, rest (omega (arith, h, cond_count-nat_eq_other w x e)))
