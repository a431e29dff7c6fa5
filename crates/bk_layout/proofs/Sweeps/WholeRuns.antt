-- A run from the first square that ends on a node to the last is all that ends there; and what hangs from a node.
use Rattle.std.proofs.Common.{Bool, List, Some, [], ap, arith, cond, drop, false, length, refl, slice_get, subst, suc, sym, true, ℕ, ◌<◌, ◌∙◌, ◌∷◌, ◌≡◌}
use Rattle.bk_laws.proofs.ListParts.{drop-whole}
use Rattle.bk_laws.proofs.ListPlaces.{drop-cons_slice_get}
use Rattle.bk_word.specs.declared.Sign.TheVariants.{Above, Even, Under}
use Rattle.bk_layout.proofs.Sweeps.Chains.{Known, Linked, Run, last_from, sign}
use Rattle.bk_layout.specs.Layout.{AreLists, AreNeighbours, Fits, IsFirst, IsLast, Layout}

-- the last square of a run stands at the last place
pub last_is : (q : ℕ) (qs : List ℕ) → slice_get (q ∷ qs) (length qs) ≡ Some (last_from q qs)
last_is q [] = refl
last_is q (r ∷ qs) = last_is r qs

-- the last square of a run is the last of its list
pub is_last : (q : ℕ) (qs : List ℕ) → IsLast (q ∷ qs) (last_from q qs)
is_last q qs = (length qs, refl, last_is q qs)

-- a run stays on its node
pub run_below : (l : Layout) → AreLists l → (q : ℕ) (qs : List ℕ) → Run l q qs → l.below (last_from q qs) ≡ l.below q
run_below l lists q [] run = refl
run_below l lists q (r ∷ qs) run = run_below l lists r qs run.1 ∙ (lists.ending_is (l.below q) (suc run.0.0) r run.0.2).1

run_from : (l : Layout) → AreLists l → (v q : ℕ) (qs : List ℕ) (k : ℕ) → l.below q ≡ v → slice_get (l.ending v) k ≡ Some q → Run l q qs
    → IsLast (l.ending v) (last_from q qs) → drop k (l.ending v) ≡ q ∷ qs
run_from l lists v q [] k e at run (j, end, last) = drop-cons_slice_get (l.ending v) k q at
    ∙ ap (λ (xs : List ℕ). q ∷ xs) (drop-whole (l.ending v) (suc k) (omega (arith, lists.ending_once v j k q last at)))
run_from l lists v q (r ∷ qs) k e at run last = drop-cons_slice_get (l.ending v) k q at
    ∙ ap (λ (xs : List ℕ). q ∷ xs) (run_from l lists v r qs (suc k) (lists.ending_is v (suc n.0) r n.2).1 next run.1 last)
  where
    n : AreNeighbours (l.ending v) q r
    n = subst (λ (u : ℕ). AreNeighbours (l.ending u) q r) e run.0

    same : n.0 ≡ k
    same = lists.ending_once v n.0 k q n.1 at

    next : slice_get (l.ending v) (suc k) ≡ Some r
    next = subst (λ (j : ℕ). slice_get (l.ending v) (suc j) ≡ Some r) same n.2

-- the run is all that ends on its node
pub whole_run : (l : Layout) → AreLists l → (q : ℕ) (qs : List ℕ) → Run l q qs → IsFirst (l.ending (l.below q)) q
    → IsLast (l.ending (l.below (last_from q qs))) (last_from q qs) → l.ending (l.below q) ≡ q ∷ qs
whole_run l lists q qs run first last = run_from l lists (l.below q) q qs 0 refl first run
    (subst (λ (u : ℕ). IsLast (l.ending u) (last_from q qs)) (run_below l lists q qs run) last)

-- ---- what hangs from a node

known_by : (l : Layout) (q : ℕ) (qs : List ℕ) → ((k x : ℕ) → slice_get (q ∷ qs) k ≡ Some x → x < l.squares) → Known l q qs
known_by l q [] f = f 0 q refl
known_by l q (r ∷ qs) f = (f 0 q refl, known_by l r qs (λ k x e. f (suc k) x e))

linked_by : (l : Layout) (qs : List ℕ) → ((q r : ℕ) → AreNeighbours qs q r → l.right q ≡ l.left r) → Linked l qs
linked_by l [] f = tt
linked_by l (q ∷ []) f = tt
linked_by l (q ∷ r ∷ qs) f = (f q r (0, refl, refl), linked_by l (r ∷ qs) (λ a b n. f a b (suc n.0, n.1, n.2)))

-- what hangs from a node, as a first square and more, side by side
pub record Hung (l : Layout) (v : ℕ) : Type 0 where
  pub first : ℕ
  pub more : List ℕ
  pub is : l.hanging v ≡ first ∷ more
  pub known : Known l first more
  pub linked : Linked l (first ∷ more)

-- from each node but the bottom some squares hang so
pub hung_from : (l : Layout) → Fits l → (v : ℕ) → v < l.bottom → Hung l v
hung_from l fits v h = from (l.hanging v) refl
  where
    from : (qs : List ℕ) → l.hanging v ≡ qs → Hung l v
    from [] e = absurd (omega (arith, ap length e, fits.nodes.hanging_some v h))
    from (p ∷ ps) e = record {
      first = p;
      more = ps;
      is = e;
      known = known_by l p ps (λ k x at. (fits.lists.hanging_is v k x (ap (λ (xs : List ℕ). slice_get xs k) e ∙ at)).0);
      linked = linked_by l (p ∷ ps) (λ q r n. fits.lines.between v q r (subst (λ (xs : List ℕ). AreNeighbours xs q r) (sym e) n));
    }

-- ---- the sides of a valley

above_test : (a b : Bool) → Above ≡ cond a Above (cond b Under Even) → a ≡ true
above_test true b e = refl
above_test false true e = absurd (cc)
above_test false false e = absurd (cc)

under_test : (a b : Bool) → Under ≡ cond a Above (cond b Under Even) → (a ≡ false) × (b ≡ true)
under_test true b e = absurd (cc)
under_test false true e = (refl, refl)
under_test false false e = absurd (cc)

-- the sign above says that the line goes on below the left square
pub above_right : (l : Layout) (q r : ℕ) → Above ≡ sign l q r → l.goes_right q ≡ true
above_right l q r e = above_test (l.goes_right q) (l.goes_left r) e

-- the sign under says that it goes on below the right square alone
pub under_left : (l : Layout) (q r : ℕ) → Under ≡ sign l q r → (l.goes_right q ≡ false) × (l.goes_left r ≡ true)
under_left l q r e = under_test (l.goes_right q) (l.goes_left r) e
