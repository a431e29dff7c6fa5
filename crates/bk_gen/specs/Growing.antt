-- What holds of a rectangle while squares are attached to it.
use Rattle.std.specs.Prelude.{[], map, ℕ, ◌++◌, ◌<◌, ◌^◌, ◌∷◌}
use Rattle.bk_tiling.specs.Refusal.{IsAccepted}
use Rattle.bk_tiling.specs.Scale.{moved_square}
use Rattle.bk_tiling.specs.Tiling.{Tiling}
use Rattle.bk_tiling.specs.declared.Square.{Square}

-- at most 200 squares, none too large, tile the rectangle, in any order, and its size fits the types of the code
pub record IsGrowing (t : Tiling) : Type 0 where
  pub accepted : IsAccepted t.width t.height t.squares
  pub width_fits : t.width < 2 ^ 64
  pub height_fits : t.height < 2 ^ 64

-- a square behind the others, in a rectangle of this size
abbrev pub with_behind : Square → ℕ → ℕ → Tiling → Tiling
with_behind q width height t = record { width = width; height = height; squares = t.squares ++ q ∷ [] }

-- a rectangle with its squares moved to the right and down
abbrev pub moved_all : ℕ → ℕ → Tiling → Tiling
moved_all right down t = record t { squares = map (moved_square right down) t.squares }

-- a square of side s in the left upper corner, behind the others, in a rectangle of this size
abbrev pub with_corner : ℕ → ℕ → ℕ → Tiling → Tiling
with_corner s = with_behind (record { x = 0; y = 0; s = s })
