-- The signs of a move between its own squares.
-- Example (WordExamples): after 3ua the move 2aue has one sign between its own two squares, the u in the middle.
use Rattle.std.specs.Prelude.{List, drop, take, ◌-◌}
use Rattle.bk_word.specs.Outline.{Outline, has_left_wall, open_side}
use Rattle.bk_word.specs.Word.{Move}
use Rattle.bk_word.specs.declared.Sign.{Sign}

-- the signs of a move that stand between two of its own squares
abbrev pub own_signs : Outline → Move → List Sign
own_signs o m = take (m.count - 1) (drop (open_side (has_left_wall o)) m.signs)
