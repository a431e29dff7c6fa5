-- The most moves of a word that goes on from some moves, as they are told by numbers.
use Rattle.std.proofs.Common.{arith, cond, inl, inr, length, max, nat_lt, ℕ, ◌+◌, ◌<◌, ◌≡◌, ◌≤◌, ◌⊎◌}
use Rattle.std.specs.Prelude.{◌/◌}
use Rattle.std.proofs.lemmas.Bool.{cases_lt}
use Rattle.bk_laws.proofs.TestsAsNumbers.{half_or_less-twice, half_or_more-twice}
use Rattle.bk_word.specs.Word.{Word}
use Rattle.bk_layout.specs.BeforeNextMove.{AreMostMovesThen, left_squares_then, right_squares_then}
use Rattle.bk_layout.specs.WordNumbers.{first_count}

-- the most moves by the walls of the next valley
pub most_then_is : (n : ℕ) (front : Word) (moves top wall most : ℕ) → moves ≡ length front → top ≡ first_count front
    → wall ≡ max (left_squares_then front) (right_squares_then front) → (moves ≡ 0 → most ≡ (n + 1) / 2)
    → (0 < moves → most ≡ cond (nat_lt top wall) (n / 2) ((n + 1) / 2)) → AreMostMovesThen n front most
most_then_is n front moves top wall most m t w none some = cases (cases_lt 0 moves)
  where
    cases : (0 < moves) ⊎ (moves ≤ 0) → AreMostMovesThen n front most
    cases (inr h) = inl (omega (arith, none (omega (arith, h))))
    cases (inl h) = sides (cases_lt top wall)
      where
        sides : (top < wall) ⊎ (wall ≤ top) → AreMostMovesThen n front most
        sides (inl g) = inr (omega (arith, some h, half_or_less-twice n top wall g), omega (arith, h, m), omega (arith, g, t, w))
        sides (inr g) = inl (omega (arith, some h, half_or_more-twice n top wall g))
