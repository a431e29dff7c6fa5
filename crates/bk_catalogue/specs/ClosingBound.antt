-- How many squares are still to hang at least, by the signs between the open segments: a segment that ends above a
-- neighbour is closed by a later move.
-- Example (BoundExamples): of four segments with the signs under, above, under between them two must be closed.
use Rattle.std.specs.Prelude.{List, [], count_by, drop, length, max, suc, take, ℕ, ◌+◌, ◌∷◌, ◌≡◌, ◌≤◌}
use Rattle.bk_word.specs.Signs.{is_above, is_under}
use Rattle.bk_word.specs.declared.Sign.{Sign}
use Rattle.bk_word.specs.declared.Sign.TheVariants.{Above, Even, Under}

-- how many segments end above their neighbour on the side of segment i: the left ones of the signs above at the left
-- of it, and the right ones of the signs under at the right of it
abbrev pub closings : List Sign → ℕ → ℕ
closings signs i = count_by is_above (take i signs) + count_by is_under (drop i signs)

-- the greatest number of closings over all segments: the first one has as many as there are signs under, and each other
-- one has those of the segments from the second on, and one more where the first sign is above
abbrev pub closing_bound : List Sign → ℕ
closing_bound [] = 0
closing_bound (Above ∷ signs) = suc (closing_bound signs)
closing_bound (Even ∷ signs) = closing_bound signs
closing_bound (Under ∷ signs) = max (suc (count_by is_under signs)) (closing_bound signs)

-- no segment has more closings than the number, and one has so many
pub record IsMostClosings (signs : List Sign) (number : ℕ) : Type 0 where
  pub most : (i : ℕ) → i ≤ length signs → closings signs i ≤ number
  pub place : ℕ
  pub within : place ≤ length signs
  pub met : closings signs place ≡ number

-- the closing bound is the greatest number of closings
abbrev pub TheClosingBoundIsMost : Type 0
TheClosingBoundIsMost = (signs : List Sign) → IsMostClosings signs (closing_bound signs)
