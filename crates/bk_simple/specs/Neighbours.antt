-- Numbers that stand twice in a row.
-- Example (SimpleExamples): in 1, 2, 2, 3, 3 the first number that is followed by an equal one is 2.
use Rattle.std.specs.Prelude.{List, length, slice_index, ℕ, ◌+◌, ◌<◌, ◌≡◌, ◌≢◌}

-- among the first n numbers none is followed by an equal one
abbrev pub NoneTwice : List ℕ → ℕ → Type 0
NoneTwice xs n = (k : ℕ) → k + 1 < n → slice_index xs k ≢ slice_index xs (k + 1)

-- the first number that is followed by an equal one
pub record IsFirstTwice (xs : List ℕ) (x : ℕ) : Type 0 where
  pub place : ℕ
  pub within : place + 1 < length xs
  pub one : slice_index xs place ≡ x
  pub next : slice_index xs (place + 1) ≡ x
  pub none_before : NoneTwice xs (place + 1)
