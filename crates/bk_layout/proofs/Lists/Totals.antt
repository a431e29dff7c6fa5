-- Sums over numbers: two ways round, and along a renumbering.
use Rattle.std.proofs.Common.{ap, arith, cond, inl, inr, refl, suc, sym, zero, ℕ, ◌*◌, ◌+◌, ◌<◌, ◌==◌, ◌∙◌, ◌≡◌, ◌≤◌, ◌⊎◌}
use Rattle.std.proofs.lemmas.Bool.{cases_eq, cases_lt}
use Rattle.bk_laws.proofs.Multiples.{product-step_none, product-step_one}
use Rattle.bk_laws.proofs.TestsAsNumbers.{cond-of_different, cond-of_equal}

-- the sum of so many values from a number on
abbrev pub total_from : (ℕ → ℕ) → ℕ → ℕ → ℕ
total_from f b zero = 0
total_from f b (suc n) = f b + total_from f (b + 1) n

-- sums of equal values are equal
pub total_same : (f g : ℕ → ℕ) (b n : ℕ) → ((k : ℕ) → b ≤ k → k < b + n → f k ≡ g k) → total_from f b n ≡ total_from g b n
total_same f g b zero each = refl
total_same f g b (suc n) each = omega (arith, each b (omega arith) (omega arith), total_same f g (b + 1) n (λ k lo hi. each k (omega arith) (omega arith)))

total_add : (f g : ℕ → ℕ) (b n : ℕ) → total_from (λ k. f k + g k) b n ≡ total_from f b n + total_from g b n
total_add f g b zero = refl
total_add f g b (suc n) = omega (arith, total_add f g (b + 1) n)

total_none : (b n : ℕ) → total_from (λ k. 0) b n ≡ 0
total_none b zero = refl
total_none b (suc n) = omega (arith, total_none (b + 1) n)

total_exchanged : (f : ℕ → ℕ → ℕ) (a n b m : ℕ) → total_from (λ k. total_from (f k) a n) b m ≡ total_from (λ j. total_from (λ k. f k j) b m) a n
total_exchanged f a n b zero = sym (total_none a n)
total_exchanged f a n b (suc m) = omega (arith, total_exchanged f a n (b + 1) m, total_add (f b) (λ j. total_from (λ k. f k j) (b + 1) m) a n)

-- one of the values is picked
pick_none : (h : ℕ → ℕ) (x a n : ℕ) → x < a → total_from (λ j. cond (x == j) (h j) 0) a n ≡ 0
pick_none h x a zero low = refl
pick_none h x a (suc n) low = omega (arith, cond-of_different x a (h a) (λ e. omega arith), pick_none h x (a + 1) n (omega arith))

pick : (h : ℕ → ℕ) (x a n : ℕ) → a ≤ x → x < a + n → total_from (λ j. cond (x == j) (h j) 0) a n ≡ h x
pick h x a zero lo hi = absurd (omega arith)
pick h x a (suc n) lo hi = cases (cases_lt a x) (pick h x (a + 1) n)
  where
    cases : (a < x) ⊎ (x ≤ a) → (a + 1 ≤ x → x < a + 1 + n → total_from (λ j. cond (x == j) (h j) 0) (a + 1) n ≡ h x)
        → cond (x == a) (h a) 0 + total_from (λ j. cond (x == j) (h j) 0) (a + 1) n ≡ h x
    cases (inl k) rest = omega (arith, cond-of_different x a (h a) (λ e. omega arith), rest (omega arith) (omega arith))
    cases (inr k) rest = let same : x ≡ a = omega arith in omega (arith, cond-of_equal x a (h a) same, ap h same, pick_none h x (a + 1) n (omega arith))

-- how often f gives j
abbrev times_of : (ℕ → ℕ) → ℕ → ℕ → ℕ → ℕ
times_of f j b n = total_from (λ k. cond (f k == j) 1 0) b n

weighted : (f : ℕ → ℕ) (j c b n : ℕ) → total_from (λ k. cond (f k == j) c 0) b n ≡ times_of f j b n * c
weighted f j c b zero = omega arith
weighted f j c b (suc n) = cases (cases_eq (f b) j) (weighted f j c (b + 1) n)
  where
    cases : (f b ≡ j) ⊎ (f b ≡ j → ⊥) → total_from (λ k. cond (f k == j) c 0) (b + 1) n ≡ times_of f j (b + 1) n * c
        → cond (f b == j) c 0 + total_from (λ k. cond (f k == j) c 0) (b + 1) n ≡ (cond (f b == j) 1 0 + times_of f j (b + 1) n) * c
    cases (inl e) rest = product-step_one (cond (f b == j) c 0) (cond (f b == j) 1 0) (total_from (λ k. cond (f k == j) c 0) (b + 1) n)
        (times_of f j (b + 1) n) c (cond-of_equal (f b) j c e) (cond-of_equal (f b) j 1 e) rest
    cases (inr e) rest = product-step_none (cond (f b == j) c 0) (cond (f b == j) 1 0) (total_from (λ k. cond (f k == j) c 0) (b + 1) n)
        (times_of f j (b + 1) n) c (cond-of_different (f b) j c e) (cond-of_different (f b) j 1 e) rest

never : (f : ℕ → ℕ) (j b n : ℕ) → ((k : ℕ) → b ≤ k → k < b + n → f k ≡ j → ⊥) → times_of f j b n ≡ 0
never f j b zero none = refl
never f j b (suc n) none = omega (
  arith,
  cond-of_different (f b) j 1 (none b (omega arith) (omega arith)),
  never f j (b + 1) n (λ k lo hi. none k (omega arith) (omega arith)),
)

once_at_most : (f : ℕ → ℕ) (j b n : ℕ) → ((i k : ℕ) → i < b + n → k < b + n → f i ≡ f k → i ≡ k) → times_of f j b n ≤ 1
once_at_most f j b zero one = omega arith
once_at_most f j b (suc n) one = cases (cases_eq (f b) j) (once_at_most f j (b + 1) n (λ i k h m. one i k (omega arith) (omega arith)))
  where
    cases : (f b ≡ j) ⊎ (f b ≡ j → ⊥) → times_of f j (b + 1) n ≤ 1 → cond (f b == j) 1 0 + times_of f j (b + 1) n ≤ 1
    cases (inl e) rest = omega (
      arith,
      cond-of_equal (f b) j 1 e,
      never f j (b + 1) n (λ k lo hi g. omega (arith, lo, one b k (omega arith) (omega arith) (e ∙ sym g))),
    )
    cases (inr e) rest = omega (arith, cond-of_different (f b) j 1 e, rest)

-- where values of at most 1 sum up to their number, each is 1
total_most : (f : ℕ → ℕ) (b n : ℕ) → ((k : ℕ) → f k ≤ 1) → total_from f b n ≤ n
total_most f b zero most = omega arith
total_most f b (suc n) most = omega (arith, most b, total_most f (b + 1) n most)

all_one : (f : ℕ → ℕ) (b n : ℕ) → ((k : ℕ) → f k ≤ 1) → total_from f b n ≡ n → (k : ℕ) → b ≤ k → k < b + n → f k ≡ 1
all_one f b zero most full k lo hi = absurd (omega arith)
all_one f b (suc n) most full k lo hi = cases (cases_lt b k) (all_one f (b + 1) n most (omega (arith, full, most b, total_most f (b + 1) n most)) k)
  where
    cases : (b < k) ⊎ (k ≤ b) → (b + 1 ≤ k → k < b + 1 + n → f k ≡ 1) → f k ≡ 1
    cases (inl h) rest = rest (omega arith) (omega arith)
    cases (inr h) rest = let same : k ≡ b = omega arith in omega (arith, full, most b, total_most f (b + 1) n most, ap f same)

ones : (b n : ℕ) → total_from (λ k. 1) b n ≡ n
ones b zero = refl
ones b (suc n) = omega (arith, ones (b + 1) n)

-- a sum along a renumbering
module _ (n : ℕ) (f : ℕ → ℕ) (below : (k : ℕ) → k < n → f k < n) (apart : (j k : ℕ) → j < n → k < n → f j ≡ f k → j ≡ k) where
  all_times : total_from (λ j. times_of f j 0 n) 0 n ≡ n
  all_times = sym (total_exchanged (λ k j. cond (f k == j) 1 0) 0 n 0 n)
      ∙ total_same (λ k. total_from (λ j. cond (f k == j) 1 0) 0 n) (λ k. 1) 0 n
      (λ k lo hi. pick (λ j. 1) (f k) 0 n (omega arith) (omega (arith, below k (omega arith)))) ∙ ones 0 n

  once : (j : ℕ) → j < n → times_of f j 0 n ≡ 1
  once j h = all_one (λ j. times_of f j 0 n) 0 n (λ j. once_at_most f j 0 n (λ i k a b. apart i k (omega arith) (omega arith))) all_times j
      (omega arith) (omega arith)

  -- a sum along a renumbering of the first n numbers is the sum itself
  pub renumbered : (h : ℕ → ℕ) → total_from (λ k. h (f k)) 0 n ≡ total_from h 0 n
  renumbered h = sym (total_same (λ k. total_from (λ j. cond (f k == j) (h j) 0) 0 n) (λ k. h (f k)) 0 n
      (λ k lo hi. pick h (f k) 0 n (omega arith) (omega (arith, below k (omega arith)))))
      ∙ total_exchanged (λ k j. cond (f k == j) (h j) 0) 0 n 0 n
      ∙ total_same (λ j. total_from (λ k. cond (f k == j) (h j) 0) 0 n) h 0 n
      (λ j lo hi. weighted f j (h j) 0 n ∙ ap (λ (m : ℕ). m * h j) (once j (omega arith)) ∙ omega arith)
