-- Node numbers, digit by digit.
use Rattle.std.specs.Char.{digit_value}
use Rattle.std.specs.Prelude.{List, [], ℕ, ◌*◌, ◌+◌, ◌<◌, ◌∷◌, ◌≡◌, ◌≢◌, ◌⊎◌}
use Rattle.std.proofs.Common.{ap, arith, inl, inr, refl, ◌∙◌}
use Rattle.bk_laws.proofs.Digits.{digit_value-add_48}
use Rattle.bk_laws.proofs.NumberOrder.{zero_or_positive}
use Rattle.bk_net.specs.NetLine.{NodeNumber}

-- digits that make the value v of a number that was begun to n
abbrev pub Goes_on : ℕ → ℕ → List ℕ → Type 0
Goes_on v n [] = n ≡ v
Goes_on v n (c ∷ ds) = (digit_value c < 10) × (0 < v) × (v < 100) × Goes_on (v * 10 + digit_value c) n ds

-- a first digit and these digits are a node number
pub number_of : (b n : ℕ) (ds : List ℕ) → digit_value b < 10 → Goes_on (digit_value b) n ds → NodeNumber n (b ∷ ds)
number_of b n [] small h = cases (zero_or_positive (digit_value b))
  where
    cases : (digit_value b ≡ 0) ⊎ (0 < digit_value b) → NodeNumber n (b ∷ [])
    cases (inl e) = let zero' : b ≡ 48 = omega (arith, digit_value-add_48 b small) in inl (ap (λ (c : ℕ). c ∷ []) zero', h ∙ e)
    cases (inr some) = inr ((omega arith, (small, tt)), omega arith, (λ e. omega (arith, digit_value-add_48 b small)), omega (arith, h))
number_of b n (c ∷ []) small h = inr ((omega arith, (small, (h.0, tt))), omega arith, (λ e. omega (arith, digit_value-add_48 b small, h.1)), omega (arith, h.3))
number_of b n (c ∷ e ∷ []) small h = inr (
  (omega arith, (small, (h.0, (h.3.0, tt)))),
  omega arith,
  (λ f. omega (arith, digit_value-add_48 b small, h.1)),
  omega (arith, h.3.3),
)
number_of b n (c ∷ e ∷ f ∷ ds) small h = absurd (omega (arith, h.1, h.3.3.2))

-- the first digit of a node number, and the others
pub record HasDigits (n : ℕ) (text : List ℕ) : Type 0 where
  pub first : ℕ
  pub others : List ℕ
  pub is : text ≡ first ∷ others
  pub digit : digit_value first < 10
  pub goes_on : Goes_on (digit_value first) n others

-- a node number is a first digit and further ones
pub number_from : (n : ℕ) (text : List ℕ) → NodeNumber n text → HasDigits n text
number_from n text (inl (e, z)) = record { first = 48; others = []; is = e; digit = omega arith; goes_on = z }
number_from n [] (inr h) = absurd (omega (arith, h.0.0))
number_from n (b ∷ []) (inr h) = record { first = b; others = []; is = refl; digit = h.0.1.0; goes_on = omega (arith, h.3) }
number_from n (b ∷ c ∷ []) (inr h) =
    let some : 0 < digit_value b = positive b h.0.1.0 h.2 in
    record { first = b; others = c ∷ []; is = refl; digit = h.0.1.0; goes_on = (h.0.1.1.0, some, omega (arith, h.0.1.0), omega (arith, h.3)) }
  where
    positive : (b : ℕ) → digit_value b < 10 → b ≢ 48 → 0 < digit_value b
    positive b small other = omega (arith, digit_value-add_48 b small)
number_from n (b ∷ c ∷ e ∷ []) (inr h) =
    let some : 0 < digit_value b = positive b h.0.1.0 h.2 in
    record {
      first = b;
      others = c ∷ e ∷ [];
      is = refl;
      digit = h.0.1.0;
      goes_on = (h.0.1.1.0, some, omega (arith, h.0.1.0), (h.0.1.1.1.0, omega (arith, some), omega (arith, h.0.1.0, h.0.1.1.0), omega (arith, h.3)));
    }
  where
    positive : (b : ℕ) → digit_value b < 10 → b ≢ 48 → 0 < digit_value b
    positive b small other = omega (arith, digit_value-add_48 b small)
number_from n (b ∷ c ∷ e ∷ f ∷ ds) (inr h) = absurd (omega (arith, h.1))
