-- Forms over the sides of a word's squares: the levels of bottoms and of open segments, and sums of sides. The side of
-- square n, from 1, stands in column n - 1.
-- Example (SideFormExamples): the word of the rectangle 33x32 begins with 2u.2aa. With a, b, c, d for the sides, the
-- squares of the first move end at a and b, and those of the second at b + c and b + d; its signs compare a, b + c, b +
-- d.
use Rattle.std.specs.Prelude.{Bool, List, [], cond, count_by, fold, map, nat_le, pos, replicate, slice_index_or, ℕ}
use Rattle.std.specs.Prelude.{◌++◌, ◌+◌, ◌-◌, ◌∷◌}
use Rattle.bk_word.specs.Outline.{Outline, has_left_wall, has_right_wall, valley_of, valley_place}
use Rattle.bk_word.specs.Play.{new_squares}
use Rattle.bk_word.specs.Signs.{is_even}
use Rattle.bk_word.specs.Word.{Move}
use Rattle.bk_forms.specs.Form.{Form, with_column}
use Rattle.bk_forms.specs.declared.form.TheConstants.{MOST_SIDES}

-- the form of zeros
abbrev pub zero_form : Form
zero_form = replicate MOST_SIDES (pos 0)

-- the sum of the sides of the squares with these numbers
abbrev pub sum_of_sides : List ℕ → Form
sum_of_sides numbers = fold (λ form n. with_column form (n - 1)) zero_form numbers

-- the level of a segment, where the levels of all bottoms are given: the top's is 0, any other has that of its first
-- square's bottom
abbrev pub level_of : List Form → List ℕ → Form
level_of bottoms [] = zero_form
level_of bottoms (n ∷ numbers) = slice_index_or bottoms (n - 1) zero_form

-- the levels of the bottoms of the squares that a move hangs: each its side below the valley
abbrev pub new_bottoms : Outline → Move → List Form → List Form
new_bottoms o m bottoms = map (λ n. with_column (level_of bottoms (valley_of o)) (n - 1)) (new_squares o m)

-- the level of the segment left of the valley, where there is one
abbrev pub left_level : Outline → List Form → List Form
left_level o bottoms = cond (has_left_wall o) []
    (level_of bottoms (slice_index_or o.segments (valley_place o.signs - 1) []) ∷ [])

-- the level of the segment right of the valley, where there is one
abbrev pub right_level : Outline → List Form → List Form
right_level o bottoms = cond (has_right_wall o) []
    (level_of bottoms (slice_index_or o.segments (valley_place o.signs + 1) []) ∷ [])

-- the levels that a move's signs compare: of the new bottoms, between those of the segments beside the valley
abbrev pub levels_along : Outline → Move → List Form → List Form
levels_along o m bottoms = left_level o bottoms ++ new_bottoms o m bottoms ++ right_level o bottoms

-- whether a move brings more equations than squares: that of the widths, and one for each sign even
abbrev pub brings_more : Move → Bool
brings_more m = nat_le m.count (count_by is_even m.signs)
