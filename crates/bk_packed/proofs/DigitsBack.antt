-- The digits of a number are read back.
use Rattle.std.proofs.Common.{List, [], ap, arith, length, slice_index, suc, zero, ℕ, ◌%◌, ◌*◌, ◌+◌, ◌-◌, ◌/◌, ◌<◌, ◌^◌, ◌∙◌, ◌∷◌, ◌≡◌, ◌≤◌}
use Rattle.std.proofs.lemmas.Nat.{div-mul-add, pow-add}
use Rattle.std.proofs.Math.Nat.{add-mul-div_right, div-eq_of_lt}
use Rattle.bk_laws.proofs.Multiples.{pow_four-positive, pow_four-suc}
use Rattle.bk_packed.specs.Packed.{AreDigits, begun_by, digit_at}
use Rattle.bk_packed.proofs.BaseFour.{begun-cons, digits_small}

-- the digit at a place of so many
digit_in : (room : ℕ) (ds : List ℕ) (k : ℕ) → AreDigits ds → length ds ≤ room → k < room → begun_by room ds / 4 ^ (room - 1 - k) % 4 ≡ slice_index ds k
digit_in zero ds k digits few low = omega arith
digit_in (suc room) [] k digits few low = omega (arith, div-eq_of_lt (pow_four-positive (suc room - 1 - k)))
digit_in (suc room) (d ∷ ds) zero digits few low =
    let e : suc room - 1 - 0 ≡ room = omega arith in
    ap (λ n. begun_by (suc room) (d ∷ ds) / 4 ^ n % 4) e ∙ ap (λ n. n / 4 ^ room % 4) (begun-cons room d ds)
    ∙ ap (λ n. n % 4) (div-mul-add d (4 ^ room) (begun_by room ds) (digits_small room ds digits.1 (omega arith))) ∙ omega (arith, digits.0)
digit_in (suc room) (d ∷ ds) (suc k) digits few low =
    ap (λ n. n / 4 ^ (suc room - 1 - suc k) % 4) (begun-cons room d ds ∙ split)
    ∙ ap (λ n. (begun_by room ds + d * 4 ^ (suc k) * 4 ^ n) / 4 ^ n % 4) same
    ∙ ap (λ n. n % 4) (add-mul-div_right (begun_by room ds) (d * 4 ^ (suc k)) (pow_four-positive (room - 1 - k)))
    ∙ behind (begun_by room ds / 4 ^ (room - 1 - k)) ∙ digit_in room ds k digits.1 (omega arith) (omega arith)
  where
    same : suc room - 1 - suc k ≡ room - 1 - k
    same = omega arith

    parts : room ≡ suc k + (suc room - 1 - suc k)
    parts = omega arith

    split : d * 4 ^ room + begun_by room ds ≡ begun_by room ds + d * 4 ^ (suc k) * 4 ^ (suc room - 1 - suc k)
    split = let e = ap (λ n. 4 ^ n) parts ∙ pow-add 4 (suc k) (suc room - 1 - suc k) in let f = ap (λ n. d * n) e in omega (arith, f)

    behind : (n : ℕ) → (n + d * 4 ^ (suc k)) % 4 ≡ n % 4
    behind n = let e = ap (λ m. d * m) (pow_four-suc k) in omega (arith, e)

-- the digits of a number are those from which it was made, and 0 behind them
pub digit_back : (ds : List ℕ) (k : ℕ) → AreDigits ds → length ds ≤ 64 → k < 64 → digit_at (begun_by 64 ds) k ≡ slice_index ds k
digit_back ds k digits few low = digit_in 64 ds k digits few low
