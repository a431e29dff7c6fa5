-- What is read of a line, and when it is refused.
-- Example (LineExamples): `[18,,15]` is refused as `Text` at 4, and a table row of 201 sides of 1 as `Many`; the table
-- row `3 3 2 2 1 1` is in range.
use Rattle.std.specs.List.{AllByRecursion}
use Rattle.std.specs.Prelude.{List, [], length, ℕ, ◌<◌, ◌≤◌}
use Rattle.bk_code.specs.Code.{flat}
use Rattle.bk_tiling.specs.KeptTiling.{IsSide}
use Rattle.bk_text.specs.CodeLine.{Flat, IsLine, IsNoLine, Item, Line, Skip}
use Rattle.bk_text.specs.declared.Line.{Line as LineRead}
use Rattle.bk_text.specs.declared.Line.TheVariants as read
use Rattle.bk_text.specs.declared.TextFault.{TextFault}
use Rattle.bk_text.specs.declared.TextFault.TheVariants.{Many, Text}
use Rattle.bk_code.specs.declared.TheConstants.{LARGEST_HEADER_NUMBER}
use Rattle.bk_tiling.specs.declared.TheConstants.{MOST_SQUARES}

-- what a line that was read stands for
abbrev pub stands_for : LineRead → Line
stands_for read.Skip = Skip
stands_for (read.Item order size code) = Item order size code
stands_for (read.Flat order width height sides) = Flat order width height sides.items

-- all sides of a line, in order
abbrev pub sides_of_line : Line → List ℕ
sides_of_line Skip = []
sides_of_line (Item order size code) = flat code
sides_of_line (Flat order width height sides) = sides

-- a number that a header may have
abbrev pub IsHeaderNumber : ℕ → Type 0
IsHeaderNumber n = (0 < n) × (n ≤ LARGEST_HEADER_NUMBER)

-- what the grammar tells of a line: a code has a group, and a table row has a size and sides of their kinds
abbrev pub IsInRange : Line → Type 0
IsInRange Skip = Unit {0}
IsInRange (Item order size code) = 0 < length code
IsInRange (Flat order width height sides) =
    IsHeaderNumber order × IsHeaderNumber width × IsHeaderNumber height × (0 < length sides)
    × (length sides ≤ MOST_SQUARES)
    × AllByRecursion IsSide sides

-- why bytes are refused: they leave the grammar of lines behind `at` bytes, or are a line of more than 200 sides
abbrev pub IsTextFaultOf : TextFault → List ℕ → Type 0
IsTextFaultOf (Text at) bytes = IsNoLine bytes at
IsTextFaultOf Many bytes = (line : Line) × IsLine line bytes × (MOST_SQUARES < length (sides_of_line line))
