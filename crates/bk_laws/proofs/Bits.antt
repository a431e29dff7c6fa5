-- The bits that are set in a number.
use Rattle.std.specs.Int.{bit_at, trailing_zeros}
use Rattle.std.proofs.Common.{ap, arith, bit_and, bit_or, inl, inr, subst, sym, w32, w64, ℕ, ◌%◌, ◌*◌, ◌+◌, ◌-◌, ◌/◌, ◌<◌, ◌^◌, ◌∙◌, ◌≡◌, ◌≢◌, ◌≤◌, ◌⊎◌}
use Rattle.std.proofs.lemmas.Nat.{and_le_l, shr-shr, shr_le}
use Rattle.std.proofs.lemmas.Nat.Bits.{bit_at-lt, bit_at-trailing_zeros, bit_at_and, bit_at_mask_above, bit_at_mask_below}
use Rattle.std.proofs.lemmas.Nat.Bits.{bit_at_mask_inside, bit_at_ones_above, bit_at_or, bit_at_set_other, bit_at_set_same}
use Rattle.std.proofs.lemmas.Bool.{cases_eq, cases_lt}
use Rattle.bk_laws.proofs.Multiples.{pow_two-below_32}
use Rattle.bk_laws.proofs.NumberOrder.{le_or_gt}

-- a bit that was added is set
pub bit_at-added : (n k : ℕ) → k < 32 → bit_at (bit_or n (1 * 2 ^ k % 2 ^ 32)) k ≡ 1
bit_at-added n k low = bit_at_set_same w32 n k low

-- after bit k was added to a number of 32 bits, only it and those of before are set
pub bit_at-added_only : (n k : ℕ) → k < 32 → (i : ℕ) → bit_at (bit_or n (1 * 2 ^ k % 2 ^ 32)) i ≡ 1 → (i ≡ k) ⊎ (bit_at n i ≡ 1)
bit_at-added_only n k low i has = cases (cases_eq i k)
  where
    cases : (i ≡ k) ⊎ (i ≢ k) → (i ≡ k) ⊎ (bit_at n i ≡ 1)
    cases (inl e) = inl e
    cases (inr other) = inr (sym (bit_at_set_other w32 n k low i other) ∙ has)

-- after bit k was added, those of before are set
pub bit_at-added_kept : (n k : ℕ) → k < 32 → (i : ℕ) → bit_at n i ≡ 1 → bit_at (bit_or n (1 * 2 ^ k % 2 ^ 32)) i ≡ 1
bit_at-added_kept n k low i has = cases (cases_eq i k)
  where
    cases : (i ≡ k) ⊎ (i ≢ k) → bit_at (bit_or n (1 * 2 ^ k % 2 ^ 32)) i ≡ 1
    cases (inl e) = subst (λ (j : ℕ). bit_at (bit_or n (1 * 2 ^ k % 2 ^ 32)) j ≡ 1) (sym e) (bit_at-added n k low)
    cases (inr other) = bit_at_set_other w32 n k low i other ∙ has

-- a bit of two numbers joined by or is set in one of them
pub bit_at-or_only : (a b i : ℕ) → bit_at (bit_or a b) i ≡ 1 → (bit_at a i ≡ 1) ⊎ (bit_at b i ≡ 1)
bit_at-or_only a b i has = cases (cases_eq (bit_at a i) 1)
  where
    cases : (bit_at a i ≡ 1) ⊎ (bit_at a i ≢ 1) → (bit_at a i ≡ 1) ⊎ (bit_at b i ≡ 1)
    cases (inl e) = inl e
    cases (inr other) = inr (omega (arith, other, bit_at-lt a i, bit_at-lt b i, sym (bit_at_or a b i) ∙ has))

-- a bit that is set in one of two numbers is set in both joined by or
pub bit_at-or_kept : (a b i : ℕ) → (bit_at a i ≡ 1) ⊎ (bit_at b i ≡ 1) → bit_at (bit_or a b) i ≡ 1
bit_at-or_kept a b i (inl e) = bit_at_or a b i ∙ omega (arith, e, bit_at-lt b i)
bit_at-or_kept a b i (inr e) = bit_at_or a b i ∙ omega (arith, e, bit_at-lt a i)

-- a bit of two numbers joined by and is set in the first
pub bit_at-and_left : (a b i : ℕ) → bit_at (bit_and a b) i ≡ 1 → bit_at a i ≡ 1
bit_at-and_left a b i has = omega (arith, bit_at-lt a i, bit_at-lt b i, sym (bit_at_and a b i) ∙ has)

-- a bit of two numbers joined by and is set in the second
pub bit_at-and_right : (a b i : ℕ) → bit_at (bit_and a b) i ≡ 1 → bit_at b i ≡ 1
bit_at-and_right a b i has = omega (arith, bit_at-lt a i, bit_at-lt b i, sym (bit_at_and a b i) ∙ has)

-- a positive number has a bit that is set
pub some_bit-of_positive : (n : ℕ) → n < 2 ^ 32 → 0 < n → (i : ℕ) × (bit_at n i ≡ 1)
some_bit-of_positive n below some = let t = bit_at-trailing_zeros w32 n some below in (trailing_zeros w32 n, t.1)

-- the bits of the difference of two powers of 2 lie between their exponents
pub bit_at-between : (from end i : ℕ) → from ≤ end → end < 32 → bit_at (1 * 2 ^ end % 2 ^ 32 - 1 * 2 ^ from % 2 ^ 32) i ≡ 1 → (from ≤ i) × (i < end)
bit_at-between from end i order few has = (by_low (le_or_gt from i), by_high (le_or_gt i end))
  where
    same : 1 * 2 ^ end % 2 ^ 32 - 1 * 2 ^ from % 2 ^ 32 ≡ 2 ^ end - 2 ^ from
    same = (λ j. pow_two-below_32 end few j - pow_two-below_32 from (omega (arith, order, few)) j)

    by_low : (from ≤ i) ⊎ (i < from) → from ≤ i
    by_low (inl h) = h
    by_low (inr h) = absurd (omega (arith, has, ap (λ n. bit_at n i) same, bit_at_mask_below from end i h))

    by_high : (i ≤ end) ⊎ (end < i) → i < end
    by_high h = by_end (le_or_gt end i)
      where
        by_end : (end ≤ i) ⊎ (i < end) → i < end
        by_end (inl g) = absurd (omega (arith, has, ap (λ n. bit_at n i) same, bit_at_mask_above from end i g))
        by_end (inr g) = g

-- all bits between the exponents are set in the difference of two powers of 2
pub bit_at-all_between : (from end i : ℕ) → end < 32 → from ≤ i → i < end → bit_at (1 * 2 ^ end % 2 ^ 32 - 1 * 2 ^ from % 2 ^ 32) i ≡ 1
bit_at-all_between from end i few low high = ap (λ n. bit_at n i) same ∙ bit_at_mask_inside from end i low high
  where
    same : 1 * 2 ^ end % 2 ^ 32 - 1 * 2 ^ from % 2 ^ 32 ≡ 2 ^ end - 2 ^ from
    same = (λ j. pow_two-below_32 end few j - pow_two-below_32 from (omega (arith, low, high, few)) j)

-- where some of the bits from one on are set, one of them is
pub some_bit-in_window : (n start many : ℕ) → n < 2 ^ 32 → many < 31 → 0 < bit_and (n / 2 ^ start) (1 * 2 ^ (many + 1) % 2 ^ 32 - 1)
    → (t : ℕ) × (t ≤ many) × (bit_at n (start + t) ≡ 1)
some_bit-in_window n start many below few some = (found.0, by_two (cases_lt found.0 (many + 1)), here)
  where
    mask : 1 * 2 ^ (many + 1) % 2 ^ 32 - 1 ≡ 2 ^ (many + 1) - 1
    mask = ap (λ k. k - 1) (pow_two-below_32 (many + 1) (omega (arith, few)))

    low : n / 2 ^ start < 2 ^ 32
    low = omega (arith, shr_le n start, below)

    found : (i : ℕ) × (bit_at (bit_and (n / 2 ^ start) (1 * 2 ^ (many + 1) % 2 ^ 32 - 1)) i ≡ 1)
    found = some_bit-of_positive (bit_and (n / 2 ^ start) (1 * 2 ^ (many + 1) % 2 ^ 32 - 1))
        (omega (arith, and_le_l (n / 2 ^ start) (1 * 2 ^ (many + 1) % 2 ^ 32 - 1), low)) some

    here : bit_at n (start + found.0) ≡ 1
    here = ap (λ k. k % 2) (sym (shr-shr n start found.0)) ∙ bit_at-and_left (n / 2 ^ start) (1 * 2 ^ (many + 1) % 2 ^ 32 - 1) found.0 found.1

    by_two : (found.0 < many + 1) ⊎ (many + 1 ≤ found.0) → found.0 ≤ many
    by_two (inl h) = omega (arith, h)
    by_two (inr h) = absurd (omega (
      arith,
      bit_at_ones_above (many + 1) found.0 h,
      ap (λ k. bit_at k found.0) mask,
      bit_at-and_right (n / 2 ^ start) (1 * 2 ^ (many + 1) % 2 ^ 32 - 1) found.0 found.1,
    ))

-- after a bit was added to a number of 64 bits, only it and those of before are set
pub bit_at-added_only_64 : (n side : ℕ) → side < 64 → (k : ℕ) → bit_at (bit_or n (1 * 2 ^ side % 2 ^ 64)) k ≡ 1 → (k ≡ side) ⊎ (bit_at n k ≡ 1)
bit_at-added_only_64 n side low k has = cases (cases_eq k side)
  where
    cases : (k ≡ side) ⊎ (k ≢ side) → (k ≡ side) ⊎ (bit_at n k ≡ 1)
    cases (inl e) = inl e
    cases (inr other) = inr (sym (bit_at_set_other w64 n side low k other) ∙ has)
