-- Numbers that don't descend: one of each brought to the front, and numbers looked up.
use Rattle.std.proofs.Common.{Contains, Err, List, MatchResult, Ok, Result, [], ap, arith, drop, get_or, inl, inr, length, nat_cmp, set}
use Rattle.std.proofs.Common.{slice_index, subst, suc, sym, take, zero, ℕ}
use Rattle.std.proofs.Common.{◌++◌, ◌+◌, ◌-◌, ◌<◌, ◌≢◌, ◌∙◌, ◌∷◌, ◌≡◌, ◌≤◌, ◌⊎◌, ◌↔◌}
use Rattle.std.specs.List.Sorted.{IsBinarySearchResult, IsNonDecreasing}
use Rattle.std.proofs.lemmas.List.Sorted.{searched}
use Rattle.std.proofs.Math.ListN.{length-set}
use Rattle.std.proofs.Math.Seq.{take-suc-set}
use Rattle.std.proofs.lemmas.List.{get_or-set_other, get_or-take, get_or_default, length-take-le, take_more}
use Rattle.std.proofs.lemmas.List.Elements.{All-contains, All-from_recursion, All-get_or, Contains-append_left, Contains-push, Contains-push_cases}
use Rattle.std.proofs.lemmas.List.Elements.{recursion_from_All}
use Rattle.bk_packed.specs.KeptNumbers.{AreAscendingNumbers, IsPlaceOf}
use Rattle.bk_packed.proofs.AscendingNumbers.{All, all_join, all_map, all_of_each_contained, from_place, less_before}

-- of each number among so many first ones one is brought to the front, and those behind are as they were
pub record IsBrought (old now : List ℕ) (count i : ℕ) : Type 0 where
  pub few : count ≤ i
  pub long : length now ≡ length old
  pub rest : (k : ℕ) → i ≤ k → slice_index now k ≡ slice_index old k
  pub ascending : AreAscendingNumbers (take count now)
  pub same : (x : ℕ) → Contains (take count now) x ↔ Contains (take i old) x

-- ascending numbers with a greater one behind them
pub ascends_behind : (xs : List ℕ) (x : ℕ) → AreAscendingNumbers xs → All (λ y. y < x) xs → AreAscendingNumbers (xs ++ x ∷ [])
ascends_behind [] x asc below = (tt, tt)
ascends_behind (y ∷ ys) x asc below = (all_join (λ z. y < z) ys (x ∷ []) asc.0 (below.0, tt), ascends_behind ys x asc.1 below.1)

-- of ascending numbers the last is the greatest
last_greatest : (xs : List ℕ) (x : ℕ) → AreAscendingNumbers (xs ++ x ∷ []) → All (λ y. y < x) xs
last_greatest [] x asc = tt
last_greatest (y ∷ ys) x asc = (
  All-contains (λ z. y < z) (ys ++ x ∷ []) x (All-from_recursion (λ z. y < z) (ys ++ x ∷ []) asc.0) (Contains-push ys x),
  last_greatest ys x asc.1,
)

-- of ascending numbers those before a place are no greater than the one there
none_greater : (old : List ℕ) (i : ℕ) → IsNonDecreasing old → i < length old → All (λ y. y ≤ slice_index old i) (take i old)
none_greater old i up low = recursion_from_All (λ y. y ≤ slice_index old i) (take i old) each
  where
    each : (k d : ℕ) → k < length (take i old) → get_or (take i old) k d ≤ slice_index old i
    each k d few =
        let within : k < i = omega (arith, few, length-take-le i old (omega arith)) in
        omega (arith, get_or-take i old k d within, up k i d (omega arith) low, get_or_default old i d 0 low)

-- one number more is looked at
module _ (old now : List ℕ) (count i : ℕ) (b : IsBrought old now count i) (up : IsNonDecreasing old) (low : i < length old) where
  next : take (i + 1) old ≡ take i old ++ slice_index old i ∷ []
  next = take_more old i 0 low

  below_or_same : All (λ y. y ≤ slice_index old i) (take count now)
  below_or_same = all_of_each_contained (λ y. y ≤ slice_index old i) (take count now) (λ y h. All-contains (λ z. z ≤ slice_index old i) (take i old) y
      (All-from_recursion (λ z. z ≤ slice_index old i) (take i old) (none_greater old i up low)) ((b.same y).0 h))

  -- one number more is looked at that is there already
  pub brought_again : Contains (take count now) (slice_index old i) → IsBrought old now count (i + 1)
  brought_again has = record {
    few = omega (arith, b.few);
    long = b.long;
    rest = λ k h. b.rest k (omega arith);
    ascending = b.ascending;
    same = λ x. (
      λ h. subst (λ l. Contains l x) (sym next) (Contains-append_left (take i old) (slice_index old i ∷ []) x ((b.same x).0 h)),
      λ h. which x (Contains-push_cases (take i old) (slice_index old i) x (subst (λ l. Contains l x) next h)),
    );
  }
    where
      which : (x : ℕ) → Contains (take i old) x ⊎ (slice_index old i ≡ x) → Contains (take count now) x
      which x (inl h) = (b.same x).1 h
      which x (inr e) = subst (Contains (take count now)) e has

  -- one number more is looked at that is greater than those that are there, and goes behind them
  pub brought_more : All (λ y. y < slice_index old i) (take count now) → IsBrought old (set now count (slice_index old i)) (count + 1) (i + 1)
  brought_more below = record {
    few = omega (arith, b.few);
    long = length-set now count (slice_index old i) ∙ b.long;
    rest = λ k h. (let other : k ≢ count = omega (arith, b.few) in get_or-set_other now count k (slice_index old i) 0 other) ∙ b.rest k (omega arith);
    ascending = subst AreAscendingNumbers (sym front) (ascends_behind (take count now) (slice_index old i) b.ascending below);
    same = λ x. (
      λ h. subst (λ l. Contains l x) (sym next) (in_old x (Contains-push_cases (take count now) (slice_index old i) x (subst (λ l. Contains l x) front h))),
      λ h. subst (λ l. Contains l x) (sym front) (in_now x (Contains-push_cases (take i old) (slice_index old i) x (subst (λ l. Contains l x) next h))),
    );
  }
    where
      front : take (count + 1) (set now count (slice_index old i)) ≡ take count now ++ slice_index old i ∷ []
      front = let e : count + 1 ≡ suc count = omega arith in
          ap (λ k. take k (set now count (slice_index old i))) e ∙ take-suc-set now count (slice_index old i) (omega (arith, b.few, b.long))

      in_old : (x : ℕ) → Contains (take count now) x ⊎ (slice_index old i ≡ x) → Contains (take i old ++ slice_index old i ∷ []) x
      in_old x (inl h) = Contains-append_left (take i old) (slice_index old i ∷ []) x ((b.same x).0 h)
      in_old x (inr e) = subst (Contains (take i old ++ slice_index old i ∷ [])) e (Contains-push (take i old) (slice_index old i))

      in_now : (x : ℕ) → Contains (take i old) x ⊎ (slice_index old i ≡ x) → Contains (take count now ++ slice_index old i ∷ []) x
      in_now x (inl h) = Contains-append_left (take count now) (slice_index old i ∷ []) x ((b.same x).1 h)
      in_now x (inr e) = subst (Contains (take count now ++ slice_index old i ∷ [])) e (Contains-push (take count now) (slice_index old i))

  last : 0 < count → take count now ≡ take (count - 1) now ++ slice_index now (count - 1) ∷ []
  last some = let e : count ≡ count - 1 + 1 = omega arith in
      ap (λ k. take k now) e ∙ take_more now (count - 1) 0 (omega (arith, b.few, b.long))

  -- where none is there it is greater than all
  pub brought_first : count ≡ 0 → IsBrought old (set now count (slice_index old i)) (count + 1) (i + 1)
  brought_first none = brought_more (subst (λ k. All (λ y. y < slice_index old i) (take k now)) (sym none) tt)

  -- a number brought that is greater than the last one is put behind it
  pub brought_greater : 0 < count → slice_index now (count - 1) < slice_index old i → IsBrought old (set now count (slice_index old i)) (count + 1) (i + 1)
  brought_greater some more = brought_more (subst (All (λ y. y < slice_index old i)) (sym (last some))
      (all_join (λ y. y < slice_index old i) (take (count - 1) now) (slice_index now (count - 1) ∷ [])
      (all_map (λ y. y < slice_index now (count - 1)) (λ y. y < slice_index old i) (take (count - 1) now) (λ y h. omega (arith, h, more))
      (last_greatest (take (count - 1) now) (slice_index now (count - 1)) (subst AreAscendingNumbers (last some) b.ascending))) (more, tt)))

  -- one number more is looked at that isn't greater than those that are there: it is the last of them
  pub brought_equal : 0 < count → slice_index old i ≤ slice_index now (count - 1) → IsBrought old now count (i + 1)
  brought_equal some few = brought_again (subst (λ l. Contains l (slice_index old i)) (sym (last some))
      (subst (Contains (take (count - 1) now ++ slice_index now (count - 1) ∷ [])) same (Contains-push (take (count - 1) now) (slice_index now (count - 1)))))
    where
      there : Contains (take count now) (slice_index now (count - 1))
      there = subst (λ l. Contains l (slice_index now (count - 1))) (sym (last some)) (Contains-push (take (count - 1) now) (slice_index now (count - 1)))

      same : slice_index now (count - 1) ≡ slice_index old i
      same = let h = All-contains (λ z. z ≤ slice_index old i) (take count now) (slice_index now (count - 1))
          (All-from_recursion (λ z. z ≤ slice_index old i) (take count now) below_or_same) there in omega (arith, h, few)

-- ---- ascending numbers looked up

-- ascending numbers don't descend
pub ascending_up : (xs : List ℕ) → AreAscendingNumbers xs → (i j : ℕ) → i ≤ j → j < length xs → slice_index xs i ≤ slice_index xs j
ascending_up [] asc i j h low = absurd (omega arith)
ascending_up (x ∷ xs) asc zero zero h low = omega arith
ascending_up (x ∷ xs) asc zero (suc j) h low =
    let k = All-get_or (λ y. x < y) xs j 0 (omega arith) (All-from_recursion (λ y. x < y) xs asc.0) in omega (arith, k)
ascending_up (x ∷ xs) asc (suc i) zero h low = absurd (omega arith)
ascending_up (x ∷ xs) asc (suc i) (suc j) h low = ascending_up xs asc.1 i j (omega arith) (omega arith)

-- a place before which all are smaller, and from which on none is
pub place_between : (xs : List ℕ) (x place : ℕ) → place ≤ length xs → ((k : ℕ) → k < place → slice_index xs k < x)
    → ((k : ℕ) → place ≤ k → k < length xs → x ≤ slice_index xs k) → IsPlaceOf xs x place
place_between [] x zero within before from = record { within = within; before = tt; from = tt }
place_between [] x (suc place) within before from = absurd (omega arith)
place_between (y ∷ ys) x zero within before from =
    let p = place_between ys x zero (omega arith) (λ k h. absurd (omega arith)) (λ k h low. from (suc k) (omega arith) (omega arith)) in
    record { within = within; before = tt; from = (from zero (omega arith) (omega arith), all_of p.from) }
  where
    all_of : All (λ z. x ≤ z) (drop zero ys) → All (λ z. x ≤ z) ys
    all_of h = h
place_between (y ∷ ys) x (suc place) within before from =
    let p = place_between ys x place (omega arith) (λ k h. before (suc k) (omega arith)) (λ k h low. from (suc k) (omega arith) (omega arith)) in
    record { within = within; before = (before zero (omega arith), p.before); from = p.from }

place_known : (xs : List ℕ) (x : ℕ) (r : Result ℕ ℕ) → AreAscendingNumbers xs → MatchResult r (λ i. (i < length xs) × (slice_index xs i ≡ x))
    (λ i. (i ≤ length xs) × ((k : ℕ) → k < i → slice_index xs k < x) × ((k : ℕ) → i ≤ k → k < length xs → x < slice_index xs k))
    → MatchResult r (IsPlaceOf xs x) (IsPlaceOf xs x)
place_known xs x (Ok i) asc h = record {
  within = omega (arith, h.0);
  before = subst (λ y. All (λ z. z < y) (take i xs)) h.1 (less_before xs i asc h.0);
  from = subst (λ y. All (λ z. y ≤ z) (drop i xs)) h.1 (from_place xs i asc);
}
place_known xs x (Err i) asc h = place_between xs x i h.0 h.1 (λ k from low. omega (arith, h.2 k from low))

-- where a search among ascending numbers ends, whether it found the number or not, is the number's place
pub place_searched : (xs : List ℕ) (x : ℕ) (r : Result ℕ ℕ) → AreAscendingNumbers xs → IsBinarySearchResult (λ y. nat_cmp y x) xs r
    → MatchResult r (IsPlaceOf xs x) (IsPlaceOf xs x)
place_searched xs x r asc found = place_known xs x r asc (searched xs x r found (ascending_up xs asc))

-- ---- what a step of the loop leaves

-- one of each of the first numbers, and one more behind them
pub step_more : (old now then : List ℕ) (count many i number : ℕ) → IsBrought old now count i → IsNonDecreasing old → i < length old
    → number ≡ slice_index now i → then ≡ set now count number → many ≡ count + 1 → (count ≡ 0) ⊎ ((0 < count) × (slice_index now (count - 1) < number))
    → IsBrought old then many (i + 1)
step_more old now then count many i number b up low is e f cases =
    subst (λ k. IsBrought old then k (i + 1)) (sym f) (subst (λ l. IsBrought old l (count + 1) (i + 1)) (sym (e ∙ ap (set now count) same)) (which cases))
  where
    same : number ≡ slice_index old i
    same = is ∙ b.rest i (omega arith)

    which : (count ≡ 0) ⊎ ((0 < count) × (slice_index now (count - 1) < number)) → IsBrought old (set now count (slice_index old i)) (count + 1) (i + 1)
    which (inl none) = brought_first old now count i b up low none
    which (inr (some, less)) = brought_greater old now count i b up low some (omega (arith, less, same))

-- one number more is looked at that is the same as one before, and is there already
pub step_same : (old now then : List ℕ) (count many i number : ℕ) → IsBrought old now count i → IsNonDecreasing old → i < length old
    → number ≡ slice_index now i → then ≡ now → many ≡ count → 0 < count → number ≤ slice_index now (count - 1) → IsBrought old then many (i + 1)
step_same old now then count many i number b up low is e f some few =
    subst (λ k. IsBrought old then k (i + 1)) (sym f) (subst (λ l. IsBrought old l count (i + 1)) (sym e)
    (brought_equal old now count i b up low some (omega (arith, few, is, b.rest i (omega arith)))))
