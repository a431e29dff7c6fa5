-- Sums of lists of numbers, and of terms over a list or a range.
use Rattle.std.specs.List.{AllByRecursion, concat, range_with_len}
use Rattle.std.proofs.Common.{List, [], ap, arith, drop, get_or, inl, inr, length, map, refl, slice_index, slice_index_or, suc, sum, sum_by, sym, take, zero, ℕ}
use Rattle.std.proofs.Common.{cond, ◌+◌, ◌-◌, ◌<◌, ◌==◌, ◌∙◌, ◌∷◌, ◌≡◌, ◌≢◌, ◌≤◌, ◌⊎◌}
use Rattle.std.proofs.lemmas.List.{drop_all, drop_more, length-append}
use Rattle.std.proofs.lemmas.List.Sums.{sum_by-cons, sum_by-take-drop}
use Rattle.bk_laws.proofs.NumberOrder.{le-same_or_less}
use Rattle.bk_laws.proofs.Totals.{total}
use Rattle.bk_laws.proofs.TestsAsNumbers.{cond-of_different, cond-of_equal}
use Rattle.std.proofs.lemmas.Bool.{cases_eq}

-- a sum, from the first number on
pub sum-cons_first : (n : ℕ) (ns : List ℕ) → sum (n ∷ ns) ≡ n + sum ns
sum-cons_first n ns = sum_by-cons (λ x. x) n ns

-- sums of equal terms are equal
pub sum_by-same_terms : {X : Type 0} (f g : X → ℕ) (xs : List X) → ((x : X) → f x ≡ g x) → sum_by f xs ≡ sum_by g xs
sum_by-same_terms f g [] each = refl
sum_by-same_terms f g (x ∷ xs) each = omega (arith, sum_by-cons f x xs, sum_by-cons g x xs, each x, sum_by-same_terms f g xs each)

-- the sum of sums is the sum of both
pub sum_by-add : {X : Type 0} (f g : X → ℕ) (xs : List X) → sum_by (λ x. f x + g x) xs ≡ sum_by f xs + sum_by g xs
sum_by-add f g [] = refl
sum_by-add f g (x ∷ xs) = omega (arith, sum_by-cons (λ x. f x + g x) x xs, sum_by-cons f x xs, sum_by-cons g x xs, sum_by-add f g xs)

-- a sum of zeros is 0
pub sum_by-zero_terms : {X : Type 0} (f : X → ℕ) (xs : List X) → ((x : X) → f x ≡ 0) → sum_by f xs ≡ 0
sum_by-zero_terms f [] each = refl
sum_by-zero_terms f (x ∷ xs) each = omega (arith, sum_by-cons f x xs, each x, sum_by-zero_terms f xs each)

-- a sum over numbers behind the only one that counts is 0
pub sum_by_range-none_counts : (f : ℕ → ℕ) (k a n : ℕ) → k < a → ((j : ℕ) → j ≢ k → f j ≡ 0) → sum_by f (range_with_len a n) ≡ 0
sum_by_range-none_counts f k a zero after none = refl
sum_by_range-none_counts f k a (suc n) after none = omega (
  arith,
  sum_by-cons f a (range_with_len (a + 1) n),
  none a (λ e. omega arith),
  sum_by_range-none_counts f k (a + 1) n
      (omega arith) none,
)

-- a sum of terms that are 0 but for one number is the term of this number
pub sum_by_range-one_counts : (f : ℕ → ℕ) (k a n : ℕ) → a ≤ k → k < a + n → ((j : ℕ) → j ≢ k → f j ≡ 0) → sum_by f (range_with_len a n) ≡ f k
sum_by_range-one_counts f k a zero from to none = absurd (omega arith)
sum_by_range-one_counts f k a (suc n) from to none =
    cases (le-same_or_less a k from) (λ less. sum_by_range-one_counts f k (a + 1) n (omega arith) (omega arith) none)
  where
    cases : (a ≡ k) ⊎ (a < k) → (a < k → sum_by f (range_with_len (a + 1) n) ≡ f k) → sum_by f (range_with_len a (suc n)) ≡ f k
    cases (inl same) more = omega (arith, sum_by-cons f a (range_with_len (a + 1) n), sum_by_range-none_counts f k (a + 1) n (omega arith) none, ap f same)
    cases (inr less) more = omega (arith, sum_by-cons f a (range_with_len (a + 1) n), none a (λ e. omega arith), more less)

-- the first numbers and the next are at most the whole sum
pub sum-take_and_next_le : (sizes : List ℕ) (i : ℕ) → i < length sizes → sum (take i sizes) + slice_index_or sizes i 0 ≤ sum sizes
sum-take_and_next_le [] i h = absurd (omega arith)
sum-take_and_next_le (n ∷ sizes) zero h = omega (arith, sum-cons_first n sizes)
sum-take_and_next_le (n ∷ sizes) (suc i) h = omega (arith, sum-take_and_next_le sizes i (omega arith), sum-cons_first n sizes, sum-cons_first n (take i sizes))

-- the sum of what stands from a place on is the number there and the sum behind it
pub sum-drop_step : (sizes : List ℕ) (i : ℕ) → i < length sizes → sum (drop i sizes) ≡ slice_index_or sizes i 0 + sum (drop (i + 1) sizes)
sum-drop_step sizes i h = ap sum (drop_more sizes i 0 h) ∙ sum-cons_first (slice_index_or sizes i 0) (drop (i + 1) sizes)

-- behind the last number the sum is 0
pub sum-drop_past_end : (sizes : List ℕ) (i : ℕ) → length sizes ≤ i → sum (drop i sizes) ≡ 0
sum-drop_past_end sizes i h = ap sum (drop_all i sizes h)

-- the sum of the first numbers, and the next one
pub sum-take_one_more : (sizes : List ℕ) (i : ℕ) → i < length sizes → sum (take (i + 1) sizes) ≡ sum (take i sizes) + slice_index_or sizes i 0
sum-take_one_more [] i h = absurd (omega (arith, h))
sum-take_one_more (n ∷ sizes) zero h = omega (arith, sum-cons_first n [])
sum-take_one_more (n ∷ sizes) (suc i) h =
    let e : suc i + 1 ≡ suc (i + 1) = omega arith in
    let again : n + (sum (take i sizes) + slice_index_or sizes i 0) ≡ n + sum (take i sizes) + slice_index_or sizes i 0 = omega arith in
    ap (λ k. sum (take k (n ∷ sizes))) e ∙ sum-cons_first n (take (i + 1) sizes) ∙ ap (λ k. n + k) (sum-take_one_more sizes i (omega (arith, h)))
    ∙ again ∙ ap (λ k. k + slice_index_or sizes i 0) (sym (sum-cons_first n (take i sizes)))

-- sums of terms that are the same at each number of a range are the same
pub sum_by_range-same_terms : (f g : ℕ → ℕ) (a n : ℕ) → ((k : ℕ) → a ≤ k → k < a + n → f k ≡ g k) → sum_by f (range_with_len a n) ≡ sum_by g
    (range_with_len a n)
sum_by_range-same_terms f g a zero each = refl
sum_by_range-same_terms f g a (suc n) each = omega (
  arith,
  sum_by-cons f a (range_with_len (a + 1) n),
  sum_by-cons g a (range_with_len (a + 1) n),
  each a (omega arith) (omega arith),
  sum_by_range-same_terms f g (a + 1) n (λ k lo hi. each k (omega arith) (omega arith)),
)

-- a sum over a range, its last number apart
pub sum_by_range-last : (f : ℕ → ℕ) (a n : ℕ) → sum_by f (range_with_len a (suc n)) ≡ sum_by f (range_with_len a n) + f (a + n)
sum_by_range-last f a zero = let same : f a ≡ f (a + 0) = ap f (omega arith) in omega (arith, sum_by-cons f a [], same)
sum_by_range-last f a (suc n) = let same : f (a + 1 + n) ≡ f (a + suc n) = ap f (omega arith) in omega (
  arith,
  sum_by-cons f a (range_with_len (a + 1) (suc n)),
  sum_by-cons f a (range_with_len (a + 1) n),
  sum_by_range-last f (a + 1) n,
  same,
)

-- a sum over a range that begins one later
pub sum_by_range-shift : (f : ℕ → ℕ) (a n : ℕ) → sum_by f (range_with_len (a + 1) n) ≡ sum_by (λ k. f (k + 1)) (range_with_len a n)
sum_by_range-shift f a zero = refl
sum_by_range-shift f a (suc n) = omega (
  arith,
  sum_by-cons f (a + 1) (range_with_len (a + 1 + 1) n),
  sum_by-cons (λ k. f (k + 1)) a (range_with_len (a + 1) n),
  sum_by_range-shift f (a + 1) n,
)

-- the sum over the numbers up to one, backwards
pub sum_by_range-backwards : (f : ℕ → ℕ) (n : ℕ) → sum_by f (range_with_len 0 (suc n)) ≡ sum_by (λ k. f (n - k)) (range_with_len 0 (suc n))
sum_by_range-backwards f zero = refl
sum_by_range-backwards f (suc n) =
    let shifted : sum_by (λ k. f (suc n - (k + 1))) (range_with_len 0 (suc n)) ≡ sum_by (λ k. f (n - k)) (range_with_len 0 (suc n)) =
    sum_by_range-same_terms (λ k. f (suc n - (k + 1))) (λ k. f (n - k)) 0 (suc n) (λ k lo hi. one_less k) in
    let last : f (0 + suc n) ≡ f (suc n - 0) = at (0 + suc n) (suc n - 0) (omega arith) in omega (
      arith,
      sum_by_range-last f 0 (suc n),
      sum_by_range-backwards f n,
      sum_by-cons (λ k. f (suc n - k)) 0 (range_with_len (0 + 1) (suc n)),
      sum_by_range-shift (λ k. f (suc n - k)) 0 (suc n),
      shifted,
      last,
    )
  where
    at : (a b : ℕ) → a ≡ b → f a ≡ f b
    at a b e = ap f e

    one_less : (k : ℕ) → f (suc n - (k + 1)) ≡ f (n - k)
    one_less k = at (suc n - (k + 1)) (n - k) (omega arith)

-- the sum of the first numbers with one more
pub sum-take_suc : (xs : List ℕ) (j : ℕ) → j < length xs → sum (take (suc j) xs) ≡ sum (take j xs) + slice_index xs j
sum-take_suc [] j h = absurd (omega arith)
sum-take_suc (x ∷ xs) zero h = omega (arith, sum_by-cons (λ (n : ℕ). n) x [])
sum-take_suc (x ∷ xs) (suc j) h = omega (
  arith,
  sum_by-cons (λ (n : ℕ). n) x (take (suc j) xs),
  sum_by-cons (λ (n : ℕ). n) x (take j xs),
  sum-take_suc xs j (omega arith),
)

-- the first numbers have no greater sum than all
pub sum-take_le : (xs : List ℕ) (n : ℕ) → sum (take n xs) ≤ sum xs
sum-take_le xs n = omega (arith, sum_by-take-drop (λ (k : ℕ). k) xs n)

-- the sum of lengths is the length of the concatenation
pub sum-map_length : (l : List (List ℕ)) → sum (map length l) ≡ length (concat l)
sum-map_length [] = refl
sum-map_length (s ∷ l) = omega (arith, sum_by-cons (λ (n : ℕ). n) (length s) (map length l), sum-map_length l, length-append s (concat l))

-- the sum of the first lengths is the length of the concatenation of the first lists
pub sum-take_map_length : (p : ℕ) (lists : List (List ℕ)) → sum (take p (map length lists)) ≡ length (concat (take p lists))
sum-take_map_length zero lists = refl
sum-take_map_length (suc p) [] = refl
sum-take_map_length (suc p) (ns ∷ lists) = omega (
  arith,
  sum_by-cons (λ (n : ℕ). n) (length ns) (take p (map length lists)),
  sum-take_map_length p lists,
  length-append ns (concat (take p lists)),
)

-- a sum of positive numbers, of which there is one, is positive
pub sum-positive_of_positive : (s : ℕ) (sides : List ℕ) → AllByRecursion (λ s. 0 < s) (s ∷ sides) → 0 < sum (s ∷ sides)
sum-positive_of_positive s sides good = omega (arith, sum_by-cons (λ (k : ℕ). k) s sides, good.0)

-- a start and the size there are the start of the next
pub sum-start_of_next : (segments : List (List ℕ)) (sizes : List ℕ) (start i size : ℕ) → sizes ≡ map length segments → start ≡ sum (take i sizes)
    → size ≡ get_or sizes i 0 → i < length sizes → start + size ≡ sum (take (i + 1) sizes)
sum-start_of_next segments sizes start i size are is e h = (λ j. is j + e j) ∙ sym (sum-take_suc sizes i h) ∙ ap (λ (k : ℕ). sum (take k sizes)) one
  where
    one : suc i ≡ i + 1
    one = omega arith

-- the total of positive numbers, of which there is one, is positive
pub total-positive_of_positive : (sides : List ℕ) → AllByRecursion (λ s. 0 < s) sides → 0 < length sides → 0 < total sides
total-positive_of_positive [] a h = absurd (omega arith)
total-positive_of_positive (s ∷ sides) a h = omega (arith, a.0)

-- ---- sums over the numbers from one on

-- the sum of f over n numbers from k on
abbrev pub sum_from : (ℕ → ℕ) → ℕ → ℕ → ℕ
sum_from f k n = sum_by f (range_with_len k n)

-- a sum over numbers from k on, its first number apart
pub sum_from-first : (f : ℕ → ℕ) (k n : ℕ) → sum_from f k (suc n) ≡ f k + sum_from f (k + 1) n
sum_from-first f k n = sum_by-cons f k (range_with_len (k + 1) n)

-- where f is at most the sum of g and h, its sum is at most the sum of theirs
pub sum_from-le_add : (f g h : ℕ → ℕ) (k n : ℕ) → ((u : ℕ) → f u ≤ g u + h u) → sum_from f k n ≤ sum_from g k n + sum_from h k n
sum_from-le_add f g h k zero each = omega arith
sum_from-le_add f g h k (suc n) each = omega (
  arith,
  sum_from-first f k n,
  sum_from-first g k n,
  sum_from-first h k n,
  each k,
  sum_from-le_add f g h (k + 1) n each,
)

-- 1 at a, and 0 elsewhere
abbrev pub one_at : ℕ → ℕ → ℕ
one_at a u = cond (a == u) 1 0

-- 1 at a adds nothing to a sum over numbers behind a
pub sum_from-one_at_past : (a k n : ℕ) → a < k → sum_from (one_at a) k n ≡ 0
sum_from-one_at_past a k n h = sum_by_range-none_counts (one_at a) a k n h (λ j other. cond-of_different a j 1 (λ e. other (sym e)))

-- 1 at a adds at most 1 to a sum
pub sum_from-one_at_le : (a k n : ℕ) → sum_from (one_at a) k n ≤ 1
sum_from-one_at_le a k zero = omega arith
sum_from-one_at_le a k (suc n) = cases (cases_eq a k) (sum_from-one_at_le a (k + 1) n)
  where
    cases : (a ≡ k) ⊎ (a ≡ k → ⊥) → sum_from (one_at a) (k + 1) n ≤ 1 → sum_from (one_at a) k (suc n) ≤ 1
    cases (inl e) rest = omega (arith, sum_from-first (one_at a) k n, cond-of_equal a k 1 e, sum_from-one_at_past a (k + 1) n (omega arith))
    cases (inr other) rest = omega (arith, sum_from-first (one_at a) k n, cond-of_different a k 1 other, rest)
