-- The example of the definitions.
use Rattle.std.proofs.Common.{[], refl, slice_range, ◌∷◌, ◌≡◌, ℕ}

-- where 7, 8, 9 stand, the items from place 1 up to 3 are the last two
the_last_two : slice_range {X = ℕ} (7 ∷ 8 ∷ 9 ∷ []) 1 3 ≡ 8 ∷ 9 ∷ []
the_last_two = refl
