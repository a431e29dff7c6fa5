-- Squares attached to a rectangle at its four sides, step by step as the bits of a number say.
-- Example (TrialExamples): attaching to the first rectangle by the bits of 0 gives one 6,145 wide.
use Rattle.std.specs.Prelude.{Bool, [], cond, map, nat_eq, nat_le, suc, zero, ℕ, ◌%◌, ◌&&◌, ◌++◌, ◌+◌, ◌/◌, ◌^◌, ◌∷◌}
use Rattle.bk_tiling.specs.Scale.{moved_square}
use Rattle.bk_tiling.specs.Tiling.{Tiling}
use Rattle.bk_tiling.specs.declared.TheConstants.{LONGEST_SIDE}

-- whether a number is odd
abbrev pub is_odd : ℕ → Bool
is_odd v = nat_eq (v % 2) 1

-- a square of the rectangle's height put at its right
abbrev pub with_right : Tiling → Tiling
with_right t = record {
  width = t.width + t.height;
  height = t.height;
  squares = t.squares ++ record { x = t.width; y = 0; s = t.height } ∷ [];
}

-- a square of the rectangle's height put at its left
abbrev pub with_left : Tiling → Tiling
with_left t = record {
  width = t.width + t.height;
  height = t.height;
  squares = map (moved_square t.height 0) t.squares ++ record { x = 0; y = 0; s = t.height } ∷ [];
}

-- a square of the rectangle's width put below it
abbrev pub with_below : Tiling → Tiling
with_below t = record {
  width = t.width;
  height = t.height + t.width;
  squares = t.squares ++ record { x = 0; y = t.height; s = t.width } ∷ [];
}

-- a square of the rectangle's width put above it
abbrev pub with_above : Tiling → Tiling
with_above t = record {
  width = t.width;
  height = t.height + t.width;
  squares = map (moved_square 0 t.width) t.squares ++ record { x = 0; y = 0; s = t.width } ∷ [];
}

-- at step i the next square goes below or above: v and i are odd
abbrev pub goes_up_or_down : ℕ → ℕ → Bool
goes_up_or_down v i = is_odd v && is_odd i

-- the side of the square of step i
abbrev pub next_side : ℕ → ℕ → Tiling → ℕ
next_side v i t = cond (goes_up_or_down v i) t.width t.height

-- the tiling after step i: the bit at place i modulo 64 says on which of the two sides the square goes
abbrev pub with_next : ℕ → ℕ → Tiling → Tiling
with_next v i t =
    let b = is_odd (v / 2 ^ (i % 64)) in
    cond (goes_up_or_down v i) (cond b (with_above t) (with_below t)) (cond b (with_left t) (with_right t))

-- at most n more squares attached, from step i on, as long as the next side is not too great
abbrev pub attached : ℕ → ℕ → ℕ → Tiling → Tiling
attached zero v i t = t
attached (suc n) v i t =
    cond (nat_le (next_side v i t) LONGEST_SIDE) (attached n v (i + 1) (with_next v i t)) t
