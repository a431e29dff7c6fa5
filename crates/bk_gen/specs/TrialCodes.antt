-- Trial codes: large valid codes that are made from two numbers.
-- Example (TrialExamples): that of seed 0 at place 1 has 72 squares.
use Rattle.std.specs.Prelude.{[], length, slice_index_or, ℕ, ◌%◌, ◌*◌, ◌++◌, ◌+◌, ◌-◌, ◌^◌, ◌∷◌}
use Rattle.bk_tiling.specs.CodeOrder.{in_code_order}
use Rattle.bk_tiling.specs.Tiling.{Tiling}
use Rattle.bk_code.specs.Code.{Code, code_of}
use Rattle.bk_tiling.specs.SquareGroups.{laid_group}
use Rattle.bk_tiling.specs.declared.TheConstants.{MOST_SQUARES}
use Rattle.bk_gen.specs.Attaching.{attached}

-- the first rectangle to start with, of nine squares
abbrev pub rectangle_33x32 : Tiling
rectangle_33x32 = record {
  width = 33;
  height = 32;
  squares =
      laid_group 0 0 (18 ∷ 15 ∷ []) ++ laid_group 18 15 (7 ∷ 8 ∷ []) ++ laid_group 0 18 (14 ∷ 4 ∷ [])
      ++ laid_group 14 22 (10 ∷ 1 ∷ []) ++ laid_group 24 23 (9 ∷ []);
}

-- the second rectangle to start with, of nine squares
abbrev pub rectangle_69x61 : Tiling
rectangle_69x61 = record {
  width = 69;
  height = 61;
  squares =
      laid_group 0 0 (36 ∷ 33 ∷ []) ++ laid_group 36 33 (5 ∷ 28 ∷ []) ++ laid_group 0 36 (25 ∷ 9 ∷ 2 ∷ [])
      ++ laid_group 34 38 (7 ∷ []) ++ laid_group 25 45 (16 ∷ []);
}

-- the third rectangle to start with, of ten squares
abbrev pub rectangle_65x47 : Tiling
rectangle_65x47 = record {
  width = 65;
  height = 47;
  squares =
      laid_group 0 0 (25 ∷ 17 ∷ 23 ∷ []) ++ laid_group 25 17 (11 ∷ 6 ∷ []) ++ laid_group 36 23 (5 ∷ 24 ∷ [])
      ++ laid_group 0 25 (22 ∷ 3 ∷ []) ++ laid_group 22 28 (19 ∷ []);
}

-- the rectangle to start with, by the number modulo 3
abbrev pub first_rectangle : ℕ → Tiling
first_rectangle v = slice_index_or (rectangle_33x32 ∷ rectangle_69x61 ∷ rectangle_65x47 ∷ []) (v % 3) rectangle_33x32

-- the number that a seed and a place give
abbrev pub mixed : ℕ → ℕ → ℕ
mixed seed k = ((seed + k) * 0x9E3779B97F4A7C15) % 2 ^ 64

-- the tiling of the number v: squares attached to the first rectangle until there are 200, in the order of a code
abbrev pub trial_tiling : ℕ → Tiling
trial_tiling v =
    let first = first_rectangle v in
    let t = attached (MOST_SQUARES - length first.squares) v 0 first in
    record t { squares = in_code_order t.squares }

-- the trial code of a seed and a place
abbrev pub sample : ℕ → ℕ → Code
sample seed k = code_of (trial_tiling (mixed seed k))
