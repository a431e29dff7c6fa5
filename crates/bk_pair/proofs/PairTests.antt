-- The tests decide whether two tilings are laid together, and whether they join.
use Rattle.std.specs.List.{list_any}
use Rattle.std.specs.Prelude.{Bool, cond, count_by, false, nat_eq, nat_le, not, true}
use Rattle.std.proofs.Common.{List, [], ap, arith, inl, inr, refl, sym, ℕ, ◌&&◌, ◌+◌, ◌==◌, ◌∙◌, ◌∷◌, ◌≡◌, ◌≤◌}
use Rattle.std.proofs.lemmas.Bool.{and_from, and_parts, cases_Bool, eq-eqb, eqb-true, le-leb, leb-true, true≢false}
use Rattle.std.proofs.lemmas.List.Sums.{sum_by-cons}
use Rattle.bk_laws.proofs.Counts.{count_by-list_any, count_by-no_list_any}
use Rattle.bk_tiling.specs.Tiling.{Tiling, order}
use Rattle.bk_pair.specs.Pair.{ArePair, CanBeLaid, pair_sides}
use Rattle.bk_pair.specs.PairTest.{TheTestsDecide, are_pair, can_be_laid, no_twice}

-- ---- no number stands twice

-- where none stands twice, each number is counted once at most
pub once_each : (xs : List ℕ) → no_twice xs ≡ true → (side : ℕ) → count_by (λ s. s == side) xs ≤ 1
once_each [] e side = omega arith
once_each (x ∷ xs) e side =
    let parts = and_parts (not (list_any (λ y. y == x) xs)) (no_twice xs) e in
    let later = once_each xs parts.1 side in
    elim (cases_Bool (x == side)) [
      | inl t ↦
          let same : x ≡ side = eqb-true x side t in
          let none : count_by (λ y. y == x) xs ≡ 0 = count_by-no_list_any (λ y. y == x) xs (not_false (list_any (λ y. y == x) xs) parts.0) in
          let none' : count_by (λ y. y == side) xs ≡ 0 = ap (λ (n : ℕ). count_by (λ y. y == n) xs) (sym same) ∙ none in
          let one : ◌≡◌ {A = ℕ} (cond (x == side) 1 0) 1 = ap (λ b. cond b 1 0) t in
          omega (arith, one, none', sum_by-cons (λ y. cond {A = ℕ} (y == side) 1 0) x xs)
      | inr f ↦
          let none : ◌≡◌ {A = ℕ} (cond (x == side) 1 0) 0 = ap (λ b. cond b 1 0) f in
          omega (arith, none, later, sum_by-cons (λ y. cond {A = ℕ} (y == side) 1 0) x xs)
    ]
  where
    not_false : (b : Bool) → not b ≡ true → b ≡ false
    not_false true e = absurd (true≢false (sym e))
    not_false false e = refl

-- numbers that are counted once at most stand apart
pub apart_from_counts : (xs : List ℕ) → ((side : ℕ) → ¬ (2 ≤ count_by (λ s. s == side) xs)) → no_twice xs ≡ true
apart_from_counts [] none = refl
apart_from_counts (x ∷ xs) none = elim (cases_Bool (list_any (λ y. y == x) xs)) [
  | inl t ↦
      let one : ◌≡◌ {A = ℕ} (cond (x == x) 1 0) 1 = ap (λ b. cond b 1 0) (eq-eqb x x refl) in
      absurd (none x (omega (arith, one, count_by-list_any (λ y. y == x) xs t, sum_by-cons (λ y. cond {A = ℕ} (y == x) 1 0) x xs)))
  | inr f ↦
      and_from (not (list_any (λ y. y == x) xs)) (no_twice xs) (ap not f)
      (apart_from_counts xs (λ side two. none side (omega (arith, two, sum_by-cons (λ y. cond {A = ℕ} (y == side) 1 0) x xs))))
]

-- ---- the tests

-- what passes the test can be laid together
pub laid_to : (a b : Tiling) → can_be_laid a b ≡ true → CanBeLaid a b
laid_to a b e =
    let p = and_parts (nat_eq a.width b.width && nat_eq a.height b.height) _ e in
    let size = and_parts (nat_eq a.width b.width) (nat_eq a.height b.height) p.0 in
    let q = and_parts (not (nat_eq a.width a.height)) _ p.1 in
    let r = and_parts (nat_le (order a + order b + 2) 200) _ q.1 in
    let s = and_parts (nat_le a.width 999999999999999) (nat_le a.height 999999999999999) r.1 in
    record {
      size = record { width = eqb-true a.width b.width size.0; height = eqb-true a.height b.height size.1 };
      oblong = λ same. true≢false (sym q.0 ∙ ap not (eq-eqb a.width a.height same));
      few = leb-true (order a + order b + 2) 200 r.0;
      wide = leb-true a.width 999999999999999 s.0;
      high = leb-true a.height 999999999999999 s.1;
    }

-- tilings that can be laid together pass the test for it
pub laid_from : (a b : Tiling) → CanBeLaid a b → can_be_laid a b ≡ true
laid_from a b can =
    and_from (nat_eq a.width b.width && nat_eq a.height b.height) _ (and_from (nat_eq a.width b.width) (nat_eq a.height b.height)
    (eq-eqb a.width b.width can.size.width) (eq-eqb a.height b.height can.size.height))
    (and_from (not (nat_eq a.width a.height)) _ (unequal a.width a.height can.oblong)
    (and_from (nat_le (order a + order b + 2) 200) _ (le-leb (order a + order b + 2) 200 can.few)
    (and_from (nat_le a.width 999999999999999) (nat_le a.height 999999999999999) (le-leb a.width 999999999999999 can.wide)
    (le-leb a.height 999999999999999 can.high))))
  where
    unequal : (m n : ℕ) → (m ≡ n → ⊥) → not (nat_eq m n) ≡ true
    unequal m n apart = elim (cases_Bool (nat_eq m n)) [ inl t ↦ absurd (apart (eqb-true m n t)) | inr f ↦ ap not f ]

-- what passes the test is a pair
pub pair_to : (a b : Tiling) → are_pair a b ≡ true → ArePair a b
pair_to a b e =
    let p = and_parts (can_be_laid a b) (no_twice (pair_sides a b)) e in
    record { laid = laid_to a b p.0; differ = λ side two. omega (arith, two, once_each (pair_sides a b) p.1 side) }

-- a pair passes its test
pub pair_from : (a b : Tiling) → ArePair a b → are_pair a b ≡ true
pair_from a b pair = and_from (can_be_laid a b) (no_twice (pair_sides a b)) (laid_from a b pair.laid) (apart_from_counts (pair_sides a b) pair.differ)

-- the tests decide whether two tilings can be laid together and whether they are a pair
pub the_tests_decide : TheTestsDecide
the_tests_decide a b = ((laid_to a b, laid_from a b), (pair_to a b, pair_from a b))
