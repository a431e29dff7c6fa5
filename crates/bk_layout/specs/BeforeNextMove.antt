-- What a search may ask once, before it chooses the next move: its valley is known, and with it which walls the move
-- takes a square of. Statements alone; each is proved apart.
-- Example (NextMoveExamples): after 2u the next move stands at the right wall, so that two squares stand there then. No
-- word of four squares that goes on from it by a move with at most one even sign is one of a normal layout.
use Rattle.std.specs.Prelude.{[], cond, count_by, length, max, ℕ, ◌*◌, ◌++◌, ◌+◌, ◌-◌, ◌<◌, ◌∷◌, ◌⊎◌, ◌≤◌}
use Rattle.bk_word.specs.Outline.{has_left_wall, has_right_wall}
use Rattle.bk_word.specs.Play.{IsLegal, outline_of}
use Rattle.bk_word.specs.Signs.{is_even}
use Rattle.bk_word.specs.Word.{Move, Word, order_of}
use Rattle.bk_layout.specs.NormalCuts.{AreMostMoves, IsNormalBarren}
use Rattle.bk_layout.specs.WordNumbers.{first_count, left_squares, right_squares}

-- how many squares stand at each wall after the next move
abbrev pub left_squares_then : Word → ℕ
left_squares_then front = left_squares front + cond {A = ℕ} (has_left_wall (outline_of front)) 1 0

abbrev pub right_squares_then : Word → ℕ
right_squares_then front = right_squares front + cond {A = ℕ} (has_right_wall (outline_of front)) 1 0

-- a word of a normal layout that goes on from these moves has at most so many, by what is known of the next one before
-- it is chosen: the walls at which it hangs a square
abbrev pub AreMostMovesThen : ℕ → Word → ℕ → Type 0
AreMostMovesThen n front most =
    (n ≤ 2 * most) ⊎ ((n ≤ 2 * most + 1) × (0 < length front)
    × (first_count front < max (left_squares_then front) (right_squares_then front)))

abbrev pub MostMovesHoldThen : Type 0
MostMovesHoldThen = (n most : ℕ) (front : Word) (m : Move) → IsLegal (front ++ m ∷ []) → AreMostMovesThen n front most
    → AreMostMoves n (front ++ m ∷ []) most

-- a next move with too few even signs, which is the same number for each count of squares: it leaves more squares and
-- segments than the moves behind it can take
abbrev pub TooFewEvensIsNormalBarren : Type 0
TooFewEvensIsNormalBarren = (n most : ℕ) (front : Word) (m : Move) → AreMostMovesThen n front most
    → order_of front + 3 * most + count_by is_even m.signs + 2
    < n + 3 * (length front + 1) + length (outline_of front).segments +
    (left_squares_then front - right_squares_then front)
    → IsNormalBarren n (front ++ m ∷ [])

-- moves after which the next move is the last one, and two squares or more are left
abbrev pub NextIsLastIsNormalBarren : Type 0
NextIsLastIsNormalBarren = (n most : ℕ) (front : Word) → AreMostMovesThen n front most → most ≤ length front + 1
    → order_of front + 1 < n
    → IsNormalBarren n front
