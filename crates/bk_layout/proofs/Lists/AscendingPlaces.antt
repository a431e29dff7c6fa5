-- Numbers in the order of what a key gives for them, by their places.
use Rattle.std.proofs.Common.{Bool, List, Some, [], ap, arith, filter, inl, inr, length, slice_get, subst, suc, sym, true, zero, ℕ, ◌<◌, ◌∙◌, ◌∷◌}
use Rattle.std.proofs.Common.{◌≡◌, ◌≤◌, ◌⊎◌}
use Rattle.std.proofs.lemmas.Bool.{cases_lt}
use Rattle.std.proofs.lemmas.Option.{slice_get_within}
use Rattle.bk_laws.proofs.ListPlaces.{get_some}
use Rattle.bk_word.specs.Play.{numbers_from}
use Rattle.bk_layout.specs.Layout.{AreNeighbours, IsFirst, IsLast}
use Rattle.bk_layout.specs.TilingLayout.{sorted_by}
use Rattle.bk_layout.proofs.Lists.Ascending.{Ascends, filter_from, filter_to, get_in, in_get, in_numbers, numbers_in, once_from, sorted_ascends}
use Rattle.bk_layout.proofs.Lists.Ascending.{sorted_from, sorted_to}

-- ---- places in an ascending list

by_place : (f : ℕ → ℕ) (xs : List ℕ) → Ascends f xs → (j k q r : ℕ) → j < k → slice_get xs j ≡ Some q → slice_get xs k ≡ Some r → f q < f r
by_place f [] a j k q r h d e = absurd (cc)
by_place f (x ∷ xs) a j zero q r h d e = absurd (omega arith)
by_place f (x ∷ xs) a zero (suc k) q r h d e = let same : x ≡ q = cc in omega (arith, ap f same, a.0 r (in_get xs k r e))
by_place f (x ∷ xs) a (suc j) (suc k) q r h d e = by_place f xs a.1 j k q r (omega arith) d e

-- what is known of the numbers below n that pass a test, by a key that tells them apart
module _ (f : ℕ → ℕ) (p : ℕ → Bool) (n : ℕ) (one : (q r : ℕ) → q < n → r < n → p q ≡ true → p r ≡ true → f q ≡ f r → q ≡ r) where
  ascends : Ascends f (sorted_by f (filter p (numbers_from 0 n)))
  ascends = sorted_ascends f (filter p (numbers_from 0 n)) (once_from f p n 0 n (omega arith) one)

  -- what stands in the sorted list is below the bound and passes the test
  pub stands_in : (k q : ℕ) → slice_get (sorted_by f (filter p (numbers_from 0 n))) k ≡ Some q → (q < n) × (p q ≡ true)
  stands_in k q e = let h = filter_from p (numbers_from 0 n) q
      (sorted_from f (filter p (numbers_from 0 n)) q (in_get (sorted_by f (filter p (numbers_from 0 n))) k q e)) in
      (omega (arith, (in_numbers 0 n q h.0).1), h.1)

  -- each number below the bound that passes the test stands in the sorted list
  pub has_place : (q : ℕ) → q < n → p q ≡ true → (k : ℕ) × (slice_get (sorted_by f (filter p (numbers_from 0 n))) k ≡ Some q)
  has_place q h e = get_in (sorted_by f (filter p (numbers_from 0 n))) q
      (sorted_to f (filter p (numbers_from 0 n)) q (filter_to p (numbers_from 0 n) q (numbers_in 0 n q (omega arith) (omega arith)) e))

  -- the key rises along the list
  pub in_order : (j k q r : ℕ) → slice_get (sorted_by f (filter p (numbers_from 0 n))) j ≡ Some q
      → slice_get (sorted_by f (filter p (numbers_from 0 n))) k ≡ Some r → j < k → f q < f r
  in_order j k q r d e h = by_place f (sorted_by f (filter p (numbers_from 0 n))) ascends j k q r h d e

  -- no number stands twice
  pub once : (j k q : ℕ) → slice_get (sorted_by f (filter p (numbers_from 0 n))) j ≡ Some q
      → slice_get (sorted_by f (filter p (numbers_from 0 n))) k ≡ Some q → j ≡ k
  once j k q d e = cases (cases_lt j k) (cases_lt k j)
    where
      cases : (j < k) ⊎ (k ≤ j) → (k < j) ⊎ (j ≤ k) → j ≡ k
      cases (inl h) m = absurd (omega (arith, in_order j k q q d e h))
      cases (inr h) (inl m) = absurd (omega (arith, in_order k j q q e d m))
      cases (inr h) (inr m) = omega arith

  -- the list of a test that some number passes is not empty
  pub some : (q : ℕ) → q < n → p q ≡ true → 0 < length (sorted_by f (filter p (numbers_from 0 n)))
  some q h e = let k = has_place q h e in omega (arith, slice_get_within (sorted_by f (filter p (numbers_from 0 n))) k.0 q k.1)

  -- the first number has the least key
  pub first_from : (q : ℕ) → IsFirst (sorted_by f (filter p (numbers_from 0 n))) q → (r : ℕ) → r < n → p r ≡ true → f q ≤ f r
  first_from q e r h g = from (has_place r h g)
    where
      from : (k : ℕ) × (slice_get (sorted_by f (filter p (numbers_from 0 n))) k ≡ Some r) → f q ≤ f r
      from (zero, d) = let same : Some q ≡ Some r = sym e ∙ d in let is : q ≡ r = cc in omega (arith, ap f is)
      from (suc k, d) = omega (arith, in_order 0 (suc k) q r e d (omega arith))

  -- the number of the least key is the first
  pub first_to : (q : ℕ) → q < n → p q ≡ true → ((r : ℕ) → r < n → p r ≡ true → f q ≤ f r) → IsFirst (sorted_by f (filter p (numbers_from 0 n))) q
  first_to q h g least = from (has_place q h g)
    where
      from : (k : ℕ) × (slice_get (sorted_by f (filter p (numbers_from 0 n))) k ≡ Some q) → IsFirst (sorted_by f (filter p (numbers_from 0 n))) q
      from (zero, d) = d
      from (suc k, d) = let r = get_some (sorted_by f (filter p (numbers_from 0 n))) 0
          (omega (arith, slice_get_within (sorted_by f (filter p (numbers_from 0 n))) (suc k) q d)) in
          absurd (omega (arith, in_order 0 (suc k) r.0 q r.1 d (omega arith), least r.0 (stands_in 0 r.0 r.1).0 (stands_in 0 r.0 r.1).1))

  -- the last number has the greatest key
  pub last_from : (q : ℕ) → IsLast (sorted_by f (filter p (numbers_from 0 n))) q → (r : ℕ) → r < n → p r ≡ true → f r ≤ f q
  last_from q (l, end, e) r h g = from (has_place r h g)
    where
      from : (k : ℕ) × (slice_get (sorted_by f (filter p (numbers_from 0 n))) k ≡ Some r) → f r ≤ f q
      from (k, d) = cases (cases_lt k l)
        where
          cases : (k < l) ⊎ (l ≤ k) → f r ≤ f q
          cases (inl m) = omega (arith, in_order k l r q d e m)
          cases (inr m) = let at : k ≡ l = omega (arith, slice_get_within (sorted_by f (filter p (numbers_from 0 n))) k r d, end) in
              let same : Some r ≡ Some q = sym d ∙ ap (slice_get (sorted_by f (filter p (numbers_from 0 n)))) at
              ∙ e in let is : r ≡ q = cc in omega (arith, ap f is)

  -- the number of the greatest key is the last
  pub last_to : (q : ℕ) → q < n → p q ≡ true → ((r : ℕ) → r < n → p r ≡ true → f r ≤ f q) → IsLast (sorted_by f (filter p (numbers_from 0 n))) q
  last_to q h g most = from (has_place q h g)
    where
      from : (k : ℕ) × (slice_get (sorted_by f (filter p (numbers_from 0 n))) k ≡ Some q) → IsLast (sorted_by f (filter p (numbers_from 0 n))) q
      from (k, d) = cases (cases_lt (suc k) (length (sorted_by f (filter p (numbers_from 0 n)))))
        where
          cases : (suc k < length (sorted_by f (filter p (numbers_from 0 n))))
              ⊎ (length (sorted_by f (filter p (numbers_from 0 n))) ≤ suc k) → IsLast (sorted_by f (filter p (numbers_from 0 n))) q
          cases (inr m) = (k, omega (arith, slice_get_within (sorted_by f (filter p (numbers_from 0 n))) k q d), d)
          cases (inl m) = let r = get_some (sorted_by f (filter p (numbers_from 0 n))) (suc k) m in
              absurd (omega (arith, in_order k (suc k) q r.0 d r.1 (omega arith), most r.0 (stands_in (suc k) r.0 r.1).0 (stands_in (suc k) r.0 r.1).1))

  -- two numbers between whose keys there is no other
  pub record AreNext (q r : ℕ) : Type 0 where
    pub first_in : (q < n) × (p q ≡ true)
    pub second_in : (r < n) × (p r ≡ true)
    pub less : f q < f r
    pub between : (w : ℕ) → w < n → p w ≡ true → (f w ≤ f q) ⊎ (f r ≤ f w)

  -- neighbours of the list are next by their keys
  pub next_from : (q r : ℕ) → AreNeighbours (sorted_by f (filter p (numbers_from 0 n))) q r → AreNext q r
  next_from q r (k, d, e) = record {
    first_in = stands_in k q d;
    second_in = stands_in (suc k) r e;
    less =
        in_order k (suc k) q r d e (omega arith);
    between = λ w h g. from w (has_place w h g);
  }
    where
      from : (w : ℕ) → (j : ℕ) × (slice_get (sorted_by f (filter p (numbers_from 0 n))) j ≡ Some w) → (f w ≤ f q) ⊎ (f r ≤ f w)
      from w (j, g) = cases (cases_lt j k) (cases_lt (suc k) j) (cases_lt k j)
        where
          cases : (j < k) ⊎ (k ≤ j) → (suc k < j) ⊎ (j ≤ suc k) → (k < j) ⊎ (j ≤ k) → (f w ≤ f q) ⊎ (f r ≤ f w)
          cases (inl h) m l = inl (omega (arith, in_order j k w q g d h))
          cases (inr h) (inl m) l = inr (omega (arith, in_order (suc k) j r w e g m))
          cases (inr h) (inr m) (inl l) = let at : j ≡ suc k = omega arith in let same : Some w ≡ Some r = sym g
              ∙ ap (slice_get (sorted_by f (filter p (numbers_from 0 n)))) at ∙ e in let is : w ≡ r = cc in inr (omega (arith, ap f is))
          cases (inr h) (inr m) (inr l) = let at : j ≡ k = omega arith in let same : Some w ≡ Some q = sym g
              ∙ ap (slice_get (sorted_by f (filter p (numbers_from 0 n)))) at ∙ d in let is : w ≡ q = cc in inl (omega (arith, ap f is))

  -- numbers that are next by their keys are neighbours in the sorted list
  pub next_to : (q r : ℕ) → AreNext q r → AreNeighbours (sorted_by f (filter p (numbers_from 0 n))) q r
  next_to q r next = from (has_place q next.first_in.0 next.first_in.1) (has_place r next.second_in.0 next.second_in.1)
    where
      from : (k : ℕ) × (slice_get (sorted_by f (filter p (numbers_from 0 n))) k ≡ Some q) → (j : ℕ)
          × (slice_get (sorted_by f (filter p (numbers_from 0 n))) j ≡ Some r) → AreNeighbours (sorted_by f (filter p (numbers_from 0 n))) q r
      from (k, d) (j, e) = cases (cases_lt k j) (cases_lt (suc k) j)
        where
          cases : (k < j) ⊎ (j ≤ k) → (suc k < j) ⊎ (j ≤ suc k) → AreNeighbours (sorted_by f (filter p (numbers_from 0 n))) q r
          cases (inl h) (inr m) = let at : j ≡ suc k = omega arith in
              (k, d, subst (λ (i : ℕ). slice_get (sorted_by f (filter p (numbers_from 0 n))) i ≡ Some r) at e)
          cases (inl h) (inl m) = absurd (between
              (get_some (sorted_by f (filter p (numbers_from 0 n))) (suc k)
              (omega (arith, m, slice_get_within (sorted_by f (filter p (numbers_from 0 n))) j r e))))
            where
              between : (w : ℕ) × (slice_get (sorted_by f (filter p (numbers_from 0 n))) (suc k) ≡ Some w) → ⊥
              between (w, g) = past (next.between w (stands_in (suc k) w g).0 (stands_in (suc k) w g).1)
                where
                  past : (f w ≤ f q) ⊎ (f r ≤ f w) → ⊥
                  past (inl l) = omega (arith, l, in_order k (suc k) q w d g (omega arith))
                  past (inr l) = omega (arith, l, in_order (suc k) j w r g e m)
          cases (inr h) m = absurd (later (cases_lt j k))
            where
              later : (j < k) ⊎ (k ≤ j) → ⊥
              later (inl l) = omega (arith, next.less, in_order j k r q e d l)
              later (inr l) = let at : j ≡ k = omega arith in let same : Some r ≡ Some q = sym e
                  ∙ ap (slice_get (sorted_by f (filter p (numbers_from 0 n)))) at ∙ d in let is : r ≡ q = cc in omega (arith, next.less, ap f is)
