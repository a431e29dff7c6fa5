-- How many squares are still to hang at least, where vertical lines run between squares of the first move: a line that
-- runs from the top down to the last segment cuts the tiling in two. So it ends on a segment that a later move closes.
-- Example (BoundExamples): 2u.1e, drawn below, where the line behind square 1 runs down from the top. It bounds the
-- last segment, of the squares 1 and 3, so one more must be closed: the bound after these moves is 1.
--
--     +-----+--+
--     |     |2 |
--     |  1  +--+
--     |     |3 |
--     +-----+--+
use Rattle.std.specs.List.{list_any}
use Rattle.std.specs.Prelude.{Bool, List, [], cond, count_by, drop, false, length, max, nat_eq, replicate}
use Rattle.std.specs.Prelude.{slice_index_or, take, ℕ, ◌||◌, ◌++◌, ◌+◌}
use Rattle.std.specs.Prelude.{◌-◌, ◌<◌, ◌∷◌, ◌≡◌, ◌≤◌}
use Rattle.bk_word.specs.Outline.{Outline, start, valley_of}
use Rattle.bk_word.specs.Play.{IsLegal, after_move, outline_of}
use Rattle.bk_word.specs.Signs.{is_above, is_under}
use Rattle.bk_word.specs.Word.{Move, Word}
use Rattle.bk_word.specs.declared.Sign.{Sign}
use Rattle.bk_catalogue.specs.ClosingBound.{closings}

-- whether the left edge of this square lies on a line, where the list says it of all squares in the order of their
-- numbers, from 1
abbrev pub on_line : List Bool → ℕ → Bool
on_line lines square = slice_index_or lines (square - 1) false

-- whether the left edge of the segment lies on a line
abbrev pub begins_on_line : List Bool → List ℕ → Bool
begins_on_line lines [] = false
begins_on_line lines (square ∷ segment) = on_line lines square

-- the squares of a move: at the first move a line stands at the left of each square but the first; later the first
-- square goes on with the line at the left of the valley, where one stands there
abbrev pub lines_after : Outline → List Bool → Move → List Bool
lines_after o lines m = lines
    ++ begins_on_line lines (valley_of o) ∷ replicate (m.count - 1) (nat_eq (length o.closed) 0)

-- the squares of moves, one after another
abbrev pub lines_along : Outline → List Bool → Word → List Bool
lines_along o lines [] = lines
lines_along o lines (m ∷ moves) = lines_along (after_move o m) (lines_after o lines m) moves

-- of each square of the word whether its left edge lies on a line
abbrev pub edges_on_lines : Word → List Bool
edges_on_lines w = lines_along start [] w

-- a legal word, and its lines
pub record IsLinedWord (w : Word) (lines : List Bool) : Type 0 where
  pub legal : IsLegal w
  pub lines_are : lines ≡ edges_on_lines w

-- whether the first of these segments, if there is one, begins on a line
abbrev pub next_on_line : List Bool → List (List ℕ) → Bool
next_on_line lines [] = false
next_on_line lines (segment ∷ segments) = begins_on_line lines segment

-- of each segment whether a line bounds it or ended on it: the left edge of one of its squares lies on a line, or that
-- of the next segment
abbrev pub touched : List Bool → List (List ℕ) → List Bool
touched lines [] = []
touched lines (segment ∷ segments) =
    (list_any (on_line lines) segment || next_on_line lines segments) ∷ touched lines segments

-- the line bound: the greatest number of closings, where a segment that a line touches has one more
abbrev pub line_bound : List Sign → List Bool → ℕ
line_bound signs [] = 0
line_bound [] (mark ∷ marks) = cond mark 1 0
line_bound (sign ∷ signs) (mark ∷ marks) =
    max (count_by is_under (sign ∷ signs) + cond mark 1 0) (cond (is_above sign) 1 0 + line_bound signs marks)

-- no segment has more closings than the number, those with a mark one more counted, and one has so many
pub record IsMostMarked (signs : List Sign) (marks : List Bool) (number : ℕ) : Type 0 where
  pub most : (i : ℕ) → i < length marks → closings signs i + cond (slice_index_or marks i false) 1 0 ≤ number
  pub place : ℕ
  pub within : place < length marks
  pub met : closings signs place + cond (slice_index_or marks place false) 1 0 ≡ number

-- the line bound is the greatest number of closings, with one mark for each segment
abbrev pub TheLineBoundIsMost : Type 0
TheLineBoundIsMost = (signs : List Sign) (marks : List Bool) → length marks ≡ length signs + 1
    → IsMostMarked signs marks (line_bound signs marks)

-- the segments that open squares make, from left to right, where each has so many of them
abbrev pub segments_of : List ℕ → List ℕ → List (List ℕ)
segments_of [] ends = []
segments_of (size ∷ sizes) ends = take size ends ∷ segments_of sizes (drop size ends)

-- the line bound after the moves of a word
abbrev pub line_bound_of : Word → ℕ
line_bound_of w = line_bound (outline_of w).signs (touched (edges_on_lines w) (outline_of w).segments)
