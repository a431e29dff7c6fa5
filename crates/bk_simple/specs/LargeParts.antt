-- Parts that are wider and higher than the square at their top left corner, and parts with certain squares at their
-- top.
-- Example (SimpleExamples): of nine squares of side 1 in three rows the four at the top left are such a part. It has
-- squares 0 and 1 at its top.
use Rattle.std.specs.Prelude.{ℕ, ◌+◌, ◌<◌, ◌≡◌}
use Rattle.bk_tiling.specs.Tiling.{Rectangle, Tiling, square_of}
use Rattle.bk_simple.specs.Simple.{IsPart, top_left}

-- no part is both wider and higher than the square at its top left corner
abbrev pub HasNoLargePart : Tiling → Type 0
HasNoLargePart t =
    (r : Rectangle) → IsPart t r → (square_of t (top_left t r)).s < r.width → (square_of t (top_left t r)).s < r.height
    → ⊥

-- no part that begins with square i is wider than that square
abbrev pub HasNoneWider : Tiling → ℕ → Type 0
HasNoneWider t i = (r : Rectangle) → IsPart t r → top_left t r ≡ i → (square_of t i).s < r.width → ⊥

-- no part that begins with square i ends at the right edge of square `last`
abbrev pub HasNoneUnder : Tiling → ℕ → ℕ → Type 0
HasNoneUnder t i last =
    (r : Rectangle) → IsPart t r → top_left t r ≡ i → r.x + r.width ≡ (square_of t last).x + (square_of t last).s → ⊥
