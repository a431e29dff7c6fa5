-- How often numbers stand in lists: lists of places against counts, and how long lists without repeats are.
use Rattle.std.proofs.Common.{List, [], arith, inl, inr, length, refl, suc, zero, ℕ, ◌+◌, ◌<◌, ◌∷◌}
use Rattle.std.proofs.Common.{◌≡◌, ◌≤◌, ◌⊎◌}
use Rattle.std.proofs.lemmas.Bool.{cases_eq}
use Rattle.bk_laws.proofs.Occurrences.{times}
use Rattle.bk_laws.proofs.TestsAsNumbers.{cond_count-nat_eq_other, cond_count-nat_eq_same}

-- how often the numbers below a bound stand in a list
abbrev pub total_below : ℕ → List ℕ → ℕ
total_below zero xs = 0
total_below (suc b) xs = total_below b xs + times b xs

total_none : (b : ℕ) → total_below b [] ≡ 0
total_none zero = refl
total_none (suc b) = omega (arith, total_none b)

total_past : (b x : ℕ) (xs : List ℕ) → b ≤ x → total_below b (x ∷ xs) ≡ total_below b xs
total_past zero x xs h = refl
total_past (suc b) x xs h = omega (arith, total_past b x xs (omega arith), cond_count-nat_eq_other b x (λ e. omega (arith, e)))

total_more : (b x : ℕ) (xs : List ℕ) → x < b → total_below b (x ∷ xs) ≡ suc (total_below b xs)
total_more zero x xs h = absurd (omega arith)
total_more (suc b) x xs h = cases (cases_eq b x) (total_more b x xs)
  where
    cases : (b ≡ x) ⊎ (b ≡ x → ⊥) → (x < b → total_below b (x ∷ xs) ≡ suc (total_below b xs)) → total_below (suc b) (x ∷ xs) ≡ suc (total_below (suc b) xs)
    cases (inl e) rest = omega (arith, cond_count-nat_eq_same b x e, total_past b x xs (omega (arith, e)))
    cases (inr e) rest = omega (arith, cond_count-nat_eq_other b x e, rest (less b x e h))
      where
        less : (b x : ℕ) → (b ≡ x → ⊥) → x < suc b → x < b
        less b x e h = grind arith

total_is : (b : ℕ) (xs : List ℕ) → ((q : ℕ) → 0 < times q xs → q < b) → total_below b xs ≡ length xs
total_is b [] low = total_none b
total_is b (x ∷ xs) low =
    omega (arith, total_more b x xs (low x (omega (arith, cond_count-nat_eq_same x x refl))), total_is b xs (λ q h. low q (omega (arith, h))))

few_total : (b : ℕ) (xs : List ℕ) → ((q : ℕ) → q < b → times q xs ≤ 1) → total_below b xs ≤ b
few_total zero xs few = omega arith
few_total (suc b) xs few = omega (arith, few b (omega arith), few_total b xs (λ q h. few q (omega arith)))

all_total : (b : ℕ) (xs : List ℕ) → ((q : ℕ) → q < b → times q xs ≡ 1) → total_below b xs ≡ b
all_total zero xs all = refl
all_total (suc b) xs all = omega (arith, all b (omega arith), all_total b xs (λ q h. all q (omega arith)))

-- numbers below a bound, none twice: no more than the bound
pub at_most : (b : ℕ) (xs : List ℕ) → ((q : ℕ) → 0 < times q xs → q < b) → ((q : ℕ) → q < b → times q xs ≤ 1) → length xs ≤ b
at_most b xs low few = omega (arith, total_is b xs low, few_total b xs few)

-- numbers below a bound, each of them once: just as many as the bound
pub just_as_many : (b : ℕ) (xs : List ℕ) → ((q : ℕ) → 0 < times q xs → q < b) → ((q : ℕ) → q < b → times q xs ≡ 1) → length xs ≡ b
just_as_many b xs low all = omega (arith, total_is b xs low, all_total b xs all)
