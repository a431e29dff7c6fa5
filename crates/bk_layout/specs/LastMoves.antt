-- What a search for the words of normal layouts may pass over near the end of a word, and at it.
-- Statements alone; each is proved apart.
-- Example (LastMovesExamples): of two segments with the sign under between them, and two moves left, one square is
-- left: 1e.
use Rattle.std.specs.List.{AllByRecursion}
use Rattle.std.specs.Prelude.{[], count_by, length, replicate, slice_index_or, ℕ, ◌*◌, ◌++◌, ◌+◌, ◌<◌, ◌∷◌, ◌≡◌, ◌≤◌}
use Rattle.bk_word.specs.Outline.{Outline, open_sides}
use Rattle.bk_word.specs.Play.{IsLegal, outline_of}
use Rattle.bk_word.specs.Signs.{is_even}
use Rattle.bk_word.specs.Word.{Move, Word, order_of}
use Rattle.bk_word.specs.declared.Sign.TheVariants.{Even, Under}
use Rattle.bk_layout.specs.NormalCuts.{AreMostMoves, IsNormalBarren}
use Rattle.bk_layout.specs.WordNumbers.{first_count, left_squares, right_squares}

-- a move leaves so many segments: each square is one more, and the valley and each even sign one less
abbrev pub AMoveLeavesSegments : Type 0
AMoveLeavesSegments = (front : Word) (m : Move) → IsLegal (front ++ m ∷ [])
    → length (outline_of (front ++ m ∷ [])).segments + count_by is_even m.signs + 1
    ≡ length (outline_of front).segments + m.count

-- moves after which all signs are under, and at most as many moves are left as segments: then each move hangs one
-- square, even with the segment at its left, until one segment is left
pub record AreAllUnder (n most : ℕ) (front : Word) : Type 0 where
  pub many : 3 ≤ n
  pub some : 0 < length front
  pub left : order_of front < n
  pub most_moves : AreMostMoves n front most
  pub few : most ≤ length front + length (outline_of front).segments
  pub under : AllByRecursion (λ s. s ≡ Under) (outline_of front).signs

-- moves after which all signs are under, and at most as many moves are left as segments, where the squares that are
-- left are not as many as the signs
abbrev pub AllUnderIsNormalBarren : Type 0
AllUnderIsNormalBarren = (n most : ℕ) (front : Word) → AreAllUnder n most front
    → (order_of front + length (outline_of front).signs ≡ n → ⊥)
    → IsNormalBarren n front

-- moves after which all signs are under, and at most as many moves are left as segments, with more squares at the left
-- wall than squares at the right wall and signs together
abbrev pub AllUnderAtLeftIsNormalBarren : Type 0
AllUnderAtLeftIsNormalBarren = (n most : ℕ) (front : Word) → AreAllUnder n most front
    → right_squares front + length (outline_of front).signs < left_squares front → IsNormalBarren n front

-- moves after which all signs are under, and at most as many moves are left as segments, with more squares at the right
-- wall and signs together than squares at the top, where the word gets just half of n + 1 moves
abbrev pub AllUnderAtRightIsNormalBarren : Type 0
AllUnderAtRightIsNormalBarren = (n most : ℕ) (front : Word) → AreAllUnder n most front
    → 2 * (length front + length (outline_of front).signs + 1) ≡ n + 3
    → first_count front < right_squares front + length (outline_of front).signs
    → IsNormalBarren n front

-- one square, even with the segments at both its sides
abbrev pub even_square : Outline → Move
even_square o = record {
  count = 1;
  signs = replicate (open_sides o) Even;
}

-- moves after which one square is left are normal barren if they are with the even square played
abbrev pub OneSquareGoesOnEven : Type 0
OneSquareGoesOnEven = (n : ℕ) (front : Word) → order_of front + 1 ≡ n
    → IsNormalBarren n (front ++ even_square (outline_of front) ∷ []) → IsNormalBarren n front

-- whole words with more squares in the last segment than at the top
abbrev pub TooWideBottomIsNormalBarren : Type 0
TooWideBottomIsNormalBarren = (n : ℕ) (w : Word) → order_of w ≡ n
    → first_count w < length (slice_index_or (outline_of w).segments 0 [])
    → IsNormalBarren n w

-- whole words with more squares at the left wall than at the right
abbrev pub TooManyAtLeftIsNormalBarren : Type 0
TooManyAtLeftIsNormalBarren = (n : ℕ) (w : Word) → order_of w ≡ n → right_squares w < left_squares w
    → IsNormalBarren n w

-- whole words whose nodes, one more than the moves, are half of n + 3, with more squares at the right wall than at the
-- top
abbrev pub TooManyAtRightIsNormalBarren : Type 0
TooManyAtRightIsNormalBarren = (n : ℕ) (w : Word) → order_of w ≡ n → 2 * (length w + 1) ≡ n + 3
    → first_count w < right_squares w → IsNormalBarren n w
