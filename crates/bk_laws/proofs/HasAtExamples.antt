-- Which items a list of two has, and at which places.
use Rattle.std.proofs.Common.{[], refl, ℕ, ◌∷◌}
use Rattle.bk_laws.proofs.ListPlaces.{slice_get-empty}
use Rattle.bk_laws.specs.HasAt.{HasAt}

-- of the list 5, 7 these are the items at the places 0 and 1
first_is_five : HasAt {A = ℕ} (5 ∷ 7 ∷ []) 0 5
first_is_five = refl

second_is_seven : HasAt {A = ℕ} (5 ∷ 7 ∷ []) 1 7
second_is_seven = refl

-- past its end it has no item
nothing_behind : (x : ℕ) → HasAt (5 ∷ 7 ∷ []) 2 x → ⊥
nothing_behind x has = slice_get-empty 0 x has
