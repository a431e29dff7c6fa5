-- What a walk may pass over because too few squares are left. Statements alone; they are proved apart.
-- Examples (BarrenExamples): no member's word of order 6 begins with 4aaa, after which 3 segments must be closed, nor
-- with 2u.2aa, after which 2 must be closed and one valley has one square. None of order 3 begins with 2u.1e: a line
-- from the top ends on its one segment, so that one must be closed.
use Rattle.std.specs.Prelude.{ℕ, ◌+◌, ◌<◌, ◌≤◌}
use Rattle.bk_word.specs.Play.{outline_of}
use Rattle.bk_word.specs.Word.{Word, order_of}
use Rattle.bk_word.specs.declared.Class.{Class}
use Rattle.bk_word.specs.Outline.{sizes_of}
use Rattle.bk_catalogue.specs.Cuts.{IsBarren}
use Rattle.bk_catalogue.specs.ClosingBound.{closing_bound}
use Rattle.bk_catalogue.specs.SingleValleys.{single_valleys}
use Rattle.bk_catalogue.specs.VerticalCut.{line_bound_of}

-- moves after which fewer squares are left than segments that must be closed
abbrev pub TooManyToCloseIsBarren : Type 0
TooManyToCloseIsBarren = (n : ℕ) (class : Class) (front : Word)
    → n < order_of front + closing_bound (outline_of front).signs → IsBarren n class front

-- moves after which fewer squares are left than segments that must be closed and valleys of one square
abbrev pub TooManySinglesIsBarren : Type 0
TooManySinglesIsBarren = (n : ℕ) (class : Class) (front : Word) → 2 ≤ n
    → n < order_of front + closing_bound (outline_of front).signs + single_valleys (outline_of front).signs
    (sizes_of (outline_of front))
    → IsBarren n class front

-- moves after which fewer squares are left than segments that must be closed, with those on which lines end, and
-- valleys of one square
abbrev pub TooManyLinesIsBarren : Type 0
TooManyLinesIsBarren = (n : ℕ) (class : Class) (front : Word) → 3 ≤ n
    → n < order_of front + line_bound_of front + single_valleys (outline_of front).signs (sizes_of (outline_of front))
    → IsBarren n class front
