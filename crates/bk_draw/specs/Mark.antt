-- A drawing made square by square: what one square draws at a point, and which of two characters is seen.
-- Example (DrawingExamples): an upper side is seen over a bar, and not over a corner; within a square nothing is drawn.
use Rattle.std.specs.Prelude.{List, if◌then◌else◌, length, nat_le, nat_lt, slice_index, ℕ, ◌&&◌, ◌<◌, ◌==◌, ◌||◌, ◌≡◌}
use Rattle.bk_tiling.specs.Point.{is_at_edge, is_at_side, is_corner}
use Rattle.bk_tiling.specs.declared.Square.{Square}
use Rattle.bk_draw.specs.Drawing.{is_across, is_along}

-- the character that one square draws at a point, a space where it draws none
abbrev pub mark_of : Square → ℕ → ℕ → ℕ
mark_of q x y =
    if is_corner x y q then 43 else
    if is_across q x && is_at_edge q y then 45 else
    if is_at_side q x && is_along q y then 124 else 32

-- what is seen where one character is drawn over another: `+` before `-`, and `-` before a bar
abbrev pub seen : ℕ → ℕ → ℕ
seen under over =
    if (under == 43) || (over == 43) then 43 else
    if (under == 45) || (over == 45) then 45 else
    if (under == 124) || (over == 124) then 124 else under

-- the square was drawn over a row at level y
abbrev pub IsDrawnOver : Square → ℕ → List ℕ → List ℕ → Type 0
IsDrawnOver q y before after =
    (x : ℕ) → x < length before → slice_index after x ≡ seen (slice_index before x) (mark_of q x y)

-- these marks were drawn over the points of a row from one column on to before another, and no other point was changed
abbrev pub IsDrawnBetween : (ℕ → ℕ) → ℕ → ℕ → List ℕ → List ℕ → Type 0
IsDrawnBetween mark from to before after =
    (x : ℕ) → x < length before
    → slice_index after x
    ≡ (if nat_le from x && nat_lt x to then seen (slice_index before x) (mark x) else slice_index before x)
