-- How many moves are still to come at least, and how many squares, where valleys of one square count for more: what
-- closes one hangs two squares or more, of which, by rule R, one is a valley of one square again where no segment
-- stands at the right. Statements alone; each is proved apart.
-- Example (NormalExamples): of segments of 1 and 1 squares with the sign above between them the left one is such a
-- valley: two moves are still to come at least, and three squares.
use Rattle.std.specs.Prelude.{Bool, List, [], cond, count_by, false, length, max, suc, true, ℕ, ◌*◌, ◌+◌, ◌<◌, ◌∷◌, ◌≤◌}
use Rattle.bk_word.specs.Outline.{sizes_of}
use Rattle.bk_word.specs.Play.{outline_of}
use Rattle.bk_word.specs.Signs.{is_under}
use Rattle.bk_word.specs.Word.{Word, order_of}
use Rattle.bk_word.specs.declared.Sign.{Sign}
use Rattle.bk_word.specs.declared.Sign.TheVariants.{Above, Even, Under}
use Rattle.bk_catalogue.specs.SingleValleys.{single_valley}
use Rattle.bk_catalogue.specs.VerticalCut.{edges_on_lines}
use Rattle.bk_layout.specs.NormalCuts.{AreMostMoves, IsNormalBarren, touched_or_wide}
use Rattle.bk_layout.specs.WordNumbers.{first_count}

-- the weight: the valleys of one square, from a segment on, the last segment counted twice; low says whether the first
-- one has a wall or the sign under at its left
abbrev pub weight_from : Bool → List Sign → List ℕ → ℕ
weight_from low signs [] = 0
weight_from low [] (size ∷ sizes) = 2 * single_valley low size
weight_from low (Above ∷ signs) (size ∷ sizes) = single_valley low size + weight_from false signs sizes
weight_from low (Even ∷ signs) (size ∷ sizes) = weight_from false signs sizes
weight_from low (Under ∷ signs) (size ∷ sizes) = weight_from true signs sizes

-- the strong bound: the greatest number of closings, from a segment on, each with the valleys of one square at its
-- right, and with one more where the segment is marked, or with one and its own weight where it is a valley of one
-- square
abbrev pub strong_from : Bool → List Sign → List ℕ → List Bool → ℕ
strong_from low signs [] marks = 0
strong_from low signs (size ∷ sizes) [] = 0
strong_from low [] (size ∷ sizes) (mark ∷ marks) = max (3 * single_valley low size) (cond mark 1 0)
strong_from low (Above ∷ signs) (size ∷ sizes) (mark ∷ marks) =
    max (count_by is_under signs + weight_from false signs sizes + max (2 * single_valley low size) (cond mark 1 0))
    (suc (strong_from false signs sizes marks))
strong_from low (Even ∷ signs) (size ∷ sizes) (mark ∷ marks) =
    max (count_by is_under signs + weight_from false signs sizes + cond mark 1 0) (strong_from false signs sizes marks)
strong_from low (Under ∷ signs) (size ∷ sizes) (mark ∷ marks) =
    max (suc (count_by is_under signs + weight_from true signs sizes) + cond mark 1 0)
    (strong_from true signs sizes marks)

-- the weight and the strong bound after the moves of a word, with the marks of lines from the top and of segments that
-- have as many squares as the top
abbrev pub weight_of : Word → ℕ
weight_of w = weight_from true (outline_of w).signs (sizes_of (outline_of w))

abbrev pub strong_bound_of : Word → ℕ
strong_bound_of w = strong_from true (outline_of w).signs (sizes_of (outline_of w))
    (touched_or_wide (first_count w) (edges_on_lines w) (outline_of w).segments)

-- moves after which fewer moves are left than the strong bound
abbrev pub StrongBoundIsNormalBarren : Type 0
StrongBoundIsNormalBarren = (n most : ℕ) (front : Word) → 3 ≤ n → AreMostMoves n front most → 0 < length front
    → order_of front < n
    → most < length front + strong_bound_of front → IsNormalBarren n front

-- moves after which fewer squares are left than the strong bound and the weight
abbrev pub StrongWeightIsNormalBarren : Type 0
StrongWeightIsNormalBarren = (n : ℕ) (front : Word) → 3 ≤ n → 0 < length front → order_of front < n
    → n < order_of front + strong_bound_of front + weight_of front → IsNormalBarren n front
