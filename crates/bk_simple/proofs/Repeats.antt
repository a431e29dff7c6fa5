-- A number that stands twice in a list, and the ascending list of the same numbers.
use Rattle.std.specs.List.Sorted.{IsNonDecreasing, IsPermutation}
use Rattle.std.specs.Prelude.{Bool, IfNone, IfSome, IsNone, None, Option, Some, ◌↔◌, List, [], cond, count_by, get_or, length, slice_index, suc}
use Rattle.std.specs.Prelude.{ℕ, ◌+◌, ◌<◌, ◌==◌, ◌∷◌, ◌≡◌, ◌≤◌, ◌⊎◌, refl, true, false}
use Rattle.std.proofs.Common.{ap, arith, inl, inr, sym, ◌∙◌}
use Rattle.std.proofs.lemmas.Bool.{cases_Bool, cases_lt, eq-eqb, eqb-true}
use Rattle.std.proofs.lemmas.List.Sorted.{sum_by-IsPermutation}
use Rattle.std.proofs.lemmas.List.Sums.{sum_by-cons}
use Rattle.bk_laws.proofs.Counts.{count_two, count_by-map}
use Rattle.bk_tiling.specs.Tiling.{Tiling, sides_of}
use Rattle.bk_tiling.specs.declared.Square.{Square}
use Rattle.bk_simple.specs.Neighbours.{IsFirstTwice, NoneTwice}
use Rattle.bk_simple.specs.Simple.{IsLeastRepeated, IsPerfect, IsRepeated}

-- two places of one element
pub record IsTwice {X : Type 0} (p : X → Bool) (xs : List X) (d : X) : Type 0 where
  pub first : ℕ
  pub second : ℕ
  pub apart : first < second
  pub below : second < length xs
  pub one : p (get_or xs first d) ≡ true
  pub other : p (get_or xs second d) ≡ true

record IsOnce {X : Type 0} (p : X → Bool) (xs : List X) (d : X) : Type 0 where
  pub place : ℕ
  pub below : place < length xs
  pub one : p (get_or xs place d) ≡ true

once_from_count : {X : Type 0} (p : X → Bool) (xs : List X) (d : X) → 1 ≤ count_by p xs → IsOnce p xs d
once_from_count p [] d some = absurd (omega arith)
once_from_count p (x ∷ xs) d some = step (cases_Bool (p x)) (once_from_count p xs d)
  where
    step : (p x ≡ true) ⊎ (p x ≡ false) → (1 ≤ count_by p xs → IsOnce p xs d) → IsOnce p (x ∷ xs) d
    step (inl e) rest = record { place = 0; below = omega arith; one = e }
    step (inr e) rest =
        let none_here : ◌≡◌ {A = ℕ} (cond (p x) 1 0) 0 = ap (λ b. cond b 1 0) e in
        let r : IsOnce p xs d = rest (omega (arith, some, none_here, sum_by-cons (λ y. cond (p y) 1 0) x xs)) in
        record { place = suc r.place; below = omega (arith, r.below); one = r.one }

-- what is counted twice stands at two places
pub twice_from_count : {X : Type 0} (p : X → Bool) (xs : List X) (d : X) → 2 ≤ count_by p xs → IsTwice p xs d
twice_from_count p [] d some = absurd (omega arith)
twice_from_count p (x ∷ xs) d some = step (cases_Bool (p x)) (twice_from_count p xs d)
  where
    step : (p x ≡ true) ⊎ (p x ≡ false) → (2 ≤ count_by p xs → IsTwice p xs d) → IsTwice p (x ∷ xs) d
    step (inl e) rest =
        let one_here : ◌≡◌ {A = ℕ} (cond (p x) 1 0) 1 = ap (λ b. cond b 1 0) e in
        let r : IsOnce p xs d = once_from_count p xs d (omega (arith, some, one_here, sum_by-cons (λ y. cond (p y) 1 0) x xs)) in
        record { first = 0; second = suc r.place; apart = omega arith; below = omega (arith, r.below); one = e; other = r.one }
    step (inr e) rest =
        let none_here : ◌≡◌ {A = ℕ} (cond (p x) 1 0) 0 = ap (λ b. cond b 1 0) e in
        let r : IsTwice p xs d = rest (omega (arith, some, none_here, sum_by-cons (λ y. cond (p y) 1 0) x xs)) in
        record { first = suc r.first; second = suc r.second; apart = omega (arith, r.apart); below = omega (arith, r.below); one = r.one; other = r.other }

module _ (t : Tiling) (sides : List ℕ) (same : IsPermutation (sides_of t) sides) (sorted : IsNonDecreasing sides) where
  count_side : (side : ℕ) → count_by (λ s. s == side) sides ≡ count_by (λ q. q.s == side) t.squares
  count_side side = sum_by-IsPermutation (λ s. cond (s == side) 1 0) (sides_of t) sides same ∙ count_by-map (λ s. s == side) (λ q. q.s) t.squares

  -- a repeated side stands twice in a row in the ascending list
  repeated_in_row : (side n : ℕ) → IsRepeated t side → NoneTwice sides n → n ≤ length sides
      → (k : ℕ) × (n ≤ k + 1) × (k + 1 < length sides) × (slice_index sides k ≡ side)
  repeated_in_row side n twice none fit =
      let w : IsTwice (λ s. s == side) sides 0 = twice_from_count (λ s. s == side) sides 0 (omega (arith, twice, count_side side)) in
      let one : slice_index sides w.first ≡ side = eqb-true (slice_index sides w.first) side w.one in
      let other : slice_index sides w.second ≡ side = eqb-true (slice_index sides w.second) side w.other in
      let up : slice_index sides w.first ≤ slice_index sides (w.first + 1) = sorted w.first (w.first + 1) 0 (omega arith) (omega (arith, w.apart, w.below)) in
      let on : slice_index sides (w.first + 1) ≤ slice_index sides w.second = sorted (w.first + 1) w.second 0 (omega (arith, w.apart)) w.below in
      let late : n ≤ w.first + 1 = elim (cases_lt (w.first + 1) n) [ inl h ↦ absurd (none w.first h (omega arith)) | inr h ↦ h ] in
      (w.first, late, omega (arith, w.apart, w.below), one)

  -- a tiling is perfect if no two neighbours among its ascending sides are equal
  pub perfect_from_none : NoneTwice sides (length sides) → IsPerfect t
  perfect_from_none none i j d before below e =
      let side : ℕ = (get_or t.squares i d).s in
      let twice : IsRepeated t side =
      count_two (λ q. q.s == side) t.squares i j d before below (eq-eqb side side refl) (eq-eqb (get_or t.squares j d).s side (sym e)) in
      let row = repeated_in_row side (length sides) twice none (omega arith) in
      omega (arith, row.1, row.2)

  -- the first side that is followed by an equal one is the least that is repeated
  pub least_from_first : (side : ℕ) → IsFirstTwice sides side → IsLeastRepeated t side
  least_from_first side first = (
    omega (
      arith,
      count_side side,
      count_two (λ s. s == side) sides first.place (first.place + 1) 0 (omega arith) first.within
          (eq-eqb (slice_index sides first.place) side first.one) (eq-eqb (slice_index sides (first.place + 1)) side first.next),
    ),
    λ other twice. least other (repeated_in_row other (first.place + 1) twice first.none_before (omega (arith, first.within))),
  )
    where
      least : (other : ℕ) → (l : ℕ) × (first.place + 1 ≤ l + 1) × (l + 1 < length sides) × (slice_index sides l ≡ other) → side ≤ other
      least other (l, late, fit, is) = omega (arith, first.one, sorted first.place l 0 (omega arith) (omega arith))

-- a tiling with a repeated side is not perfect
pub imperfect : (t : Tiling) (side : ℕ) → IsRepeated t side → IsPerfect t → ⊥
imperfect t side twice perfect =
    let d : Square = record { x = 0; y = 0; s = 0 } in
    let w : IsTwice (λ q. q.s == side) t.squares d = twice_from_count (λ q. q.s == side) t.squares d twice in
    perfect w.first w.second d w.apart w.below
    (eqb-true (get_or t.squares w.first d).s side w.one ∙ sym (eqb-true (get_or t.squares w.second d).s side w.other))

-- what the ascending list shows of the tiling
module _ (t : Tiling) (sides : List ℕ) (same : IsPermutation (sides_of t) sides) (sorted : IsNonDecreasing sides) where
  -- what is found first among the ascending sides is the least repeated side
  pub least_if_some : (r : Option ℕ) → IfSome r (IsFirstTwice sides) → IfSome r (IsLeastRepeated t)
  least_if_some None first = tt
  least_if_some (Some side) first = least_from_first t sides same sorted side first

  -- nothing is found among the ascending sides exactly if the tiling is perfect
  pub none_if_perfect : (r : Option ℕ) → IfNone r (NoneTwice sides (length sides)) → IfSome r (IsFirstTwice sides) → IsNone r ↔ IsPerfect t
  none_if_perfect None none first = ((λ _. perfect_from_none t sides same sorted none), (λ _. refl))
  none_if_perfect (Some side) none first = (
    (λ e. cc),
    (λ perfect. absurd (imperfect t side
        (least_from_first t sides same sorted side first).0 perfect)),
  )
