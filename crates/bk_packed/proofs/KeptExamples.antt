-- A table that keeps 3, 5 and 8, and dropped 9.
use Rattle.std.proofs.Common.{List, Some, [], arith, inl, inr, lit<, lit≤, refl, suc, zero, ℕ, ◌∷◌, ◌≡◌}
use Rattle.bk_packed.specs.KeptNumbers.{HasMoreDifferent, Holds, IsFirstFrom, IsKeptTable, IsPlaceOf, Numbers}

abbrev kept : List ℕ
kept = 3 ∷ 5 ∷ 8 ∷ []

abbrev table : Numbers
table = record { kept = kept; limit = Some 9 }

same : (n : ℕ) → Some 9 ≡ Some n → 9 ≡ n
same n e = cc

is_kept : IsKeptTable table
is_kept = record { below = λ limit e. (omega (arith, same limit e), (omega (arith, same limit e), (omega (arith, same limit e), tt))) }

-- it holds 5, which it keeps
holds_five : Holds table 5
holds_five = inl (1, lit< tt, refl)

-- and 9, which it dropped
holds_nine : Holds table 9
holds_nine = inr (record { limit = 9; cut = refl; from = lit≤ tt; beyond = (lit< tt, (lit< tt, (lit< tt, tt))) })

-- 4 is neither kept nor greater than all that are
not_four : Holds table 4 → ⊥
not_four (inl (zero, low, at)) = omega (arith, at)
not_four (inl (suc zero, low, at)) = omega (arith, at)
not_four (inl (suc (suc zero), low, at)) = omega (arith, at)
not_four (inl (suc (suc (suc k)), low, at)) = omega (arith, low)
not_four (inr above) = omega (arith, (above.beyond).1.0)

-- of 3, 5, 3 and 8 there are three different ones
more_than_two : HasMoreDifferent 2 (3 ∷ 5 ∷ 3 ∷ 8 ∷ [])
more_than_two = record {
  different = kept;
  ascending = ((lit< tt, (lit< tt, tt)), ((lit< tt, tt), (tt, tt)));
  each = ((0, lit< tt, refl), ((1, lit< tt, refl), ((3, lit< tt, refl), tt)));
  more = lit< tt;
}

-- 5 stands at the place 1, and 6 would come before 8, at the place 2
place_of_five : IsPlaceOf kept 5 1
place_of_five = record { within = lit≤ tt; before = (lit< tt, tt); from = (lit≤ tt, (lit≤ tt, tt)) }

place_of_six : IsPlaceOf kept 6 2
place_of_six = record { within = lit≤ tt; before = (lit< tt, (lit< tt, tt)); from = (lit≤ tt, tt) }

-- of two numbers from 4 on the first is the lesser
first_from_four : IsFirstFrom kept 4 5
first_from_four = record { has = (1, lit< tt, refl); from = lit≤ tt; least = (λ h. omega (arith, h), (λ h. omega arith, (λ h. omega arith, tt))) }

not_eight : IsFirstFrom kept 4 8 → ⊥
not_eight f = omega (arith, (f.least).1.0 (lit≤ tt))
