-- Bytes cut into lines. A line ends at a line feed, which isn't part of it, or at the end of the bytes.
-- Example (LineExamples): the bytes `ab`, two line feeds, `cde` have the lines `ab`, one without bytes, and `cde`.
use Rattle.std.specs.Prelude.{ℕ, true, false, ◌+◌, ◌==◌, List, [], ◌∷◌, ◌++◌, take}
use Rattle.bk_ports.specs.declared.line.TheConstants.{LONGEST_LINE}

-- where a line has begun with some bytes and more bytes follow: the lines that a line feed ends
abbrev pub closed_lines : List ℕ → List ℕ → List (List ℕ)
closed_lines begun [] = []
closed_lines begun (b ∷ bs) = elim
    (b == 10) [ true ↦ begun ∷ closed_lines [] bs | false ↦ closed_lines (begun ++ b ∷ []) bs ]

-- where a line has begun with some bytes and more bytes follow: the line that is still open behind the last line feed
abbrev pub open_line : List ℕ → List ℕ → List ℕ
open_line begun [] = begun
open_line begun (b ∷ bs) = elim (b == 10) [ true ↦ open_line [] bs | false ↦ open_line (begun ++ b ∷ []) bs ]

-- the end of the bytes ends a line that has bytes
abbrev pub line_at_end : List ℕ → List (List ℕ)
line_at_end [] = []
line_at_end (b ∷ bs) = (b ∷ bs) ∷ []

-- all lines of the bytes
abbrev pub lines_of : List ℕ → List (List ℕ)
lines_of bytes = closed_lines [] bytes ++ line_at_end (open_line [] bytes)

-- what is kept of a line. A line of more than 8,192 bytes is too long, whatever follows its first 8,193 bytes.
abbrev pub kept_front : List ℕ → List ℕ
kept_front line = take (LONGEST_LINE + 1) line
