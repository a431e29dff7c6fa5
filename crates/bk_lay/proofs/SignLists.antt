-- Signs between levels, one level more at a time.
use Rattle.std.proofs.Common.{List, None, Option, Some, [], ap, arith, length, refl, ℕ, ◌++◌, ◌-◌, ◌∷◌, ◌≡◌, ◌≤◌}
use Rattle.std.specs.Prelude.{option_to_list}
use Rattle.bk_lay.specs.TilingWord.{sign_between, signs_between}

-- the last of some levels
abbrev pub last_of_levels : List ℕ → Option ℕ
last_of_levels [] = None
last_of_levels (a ∷ []) = Some a
last_of_levels (a ∷ b ∷ levels) = last_of_levels (b ∷ levels)

-- a level that is put behind others is the last
pub last_after : (levels : List ℕ) (b : ℕ) → last_of_levels (levels ++ b ∷ []) ≡ Some b
last_after [] b = refl
last_after (a ∷ []) b = refl
last_after (a ∷ c ∷ levels) b = last_after (c ∷ levels) b

-- one level more gives one sign more, where there was a level
pub signs_after : (levels : List ℕ) (b : ℕ) → signs_between levels ++ signs_between (option_to_list (last_of_levels levels) ++ b ∷ [])
    ≡ signs_between (levels ++ b ∷ [])
signs_after [] b = refl
signs_after (a ∷ []) b = refl
signs_after (a ∷ c ∷ levels) b = ap (λ signs. sign_between a c ∷ signs) (signs_after (c ∷ levels) b)

-- there are fewer signs than levels
pub fewer_signs_than_levels : (levels : List ℕ) → length (signs_between levels) ≤ length levels - 1
fewer_signs_than_levels [] = omega arith
fewer_signs_than_levels (a ∷ []) = omega arith
fewer_signs_than_levels (a ∷ b ∷ levels) = omega (arith, fewer_signs_than_levels (b ∷ levels))
