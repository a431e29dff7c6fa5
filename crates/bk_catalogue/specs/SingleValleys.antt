-- How many squares are still to hang at least, where some valleys have just one square: a move that closes such a
-- valley hangs at least two.
-- Example (BoundExamples): of segments of 1, 1 and 2 squares with the signs above and under one valley has one square.
use Rattle.std.specs.Prelude.{Bool, List, [], cond, false, nat_eq, true, ℕ, ◌&&◌, ◌+◌, ◌∷◌}
use Rattle.bk_word.specs.declared.Sign.{Sign}
use Rattle.bk_word.specs.declared.Sign.TheVariants.{Above, Even, Under}

-- one for a valley of one square; low says that the columns at the left are deeper or do not exist
abbrev pub single_valley : Bool → ℕ → ℕ
single_valley low size = cond (low && nat_eq size 1) 1 0

-- the valleys of one square, from a segment on: the signs between the segments and how many squares each has, and
-- whether the first one has a wall or the sign under at its left
abbrev pub single_valleys_from : Bool → List Sign → List ℕ → ℕ
single_valleys_from low signs [] = 0
single_valleys_from low [] (size ∷ sizes) = single_valley low size
single_valleys_from low (Above ∷ signs) (size ∷ sizes) = single_valley low size + single_valleys_from false signs sizes
single_valleys_from low (Even ∷ signs) (size ∷ sizes) = single_valleys_from false signs sizes
single_valleys_from low (Under ∷ signs) (size ∷ sizes) = single_valleys_from true signs sizes

-- how many valleys have one square: the segments with a wall or the sign under at the left, and a wall or the sign
-- above at the right
abbrev pub single_valleys : List Sign → List ℕ → ℕ
single_valleys signs sizes = single_valleys_from true signs sizes
