-- What of its lines decides how a run ends.
-- Example (EndingExamples): where a line that begins with `!` is refused, some of the lines `a` and `!` is.
use Rattle.std.specs.Prelude.{◌<◌, Contains, List, Option, length, true, ℕ}
use Rattle.std.specs.Io.KnownBytes.{Consumes}
use Rattle.bk_ports.specs.Answered.{Replies}
use Rattle.bk_ports.specs.declared.input.TheConstants.{MOST_BYTES}

-- some line among these is refused: it may be answered by the text of a refusal
abbrev pub HasRefused : Replies → List (List ℕ) → Type 0
HasRefused replies lines = (line : List ℕ) × Contains lines line × (pieces : List (List ℕ))
    × replies.answers line pieces true

-- memory may be wanting at some line among these
abbrev pub HasWanting : Replies → List (List ℕ) → Type 0
HasWanting replies lines = (line : List ℕ) × Contains lines line × replies.may_want line

-- more than 2^30 bytes were taken from a source
abbrev pub TookTooMany : Option (List ℕ) → Option (List ℕ) → Type 0
TookTooMany left left_after = (taken : List ℕ) × Consumes left left_after taken × (MOST_BYTES < length taken)
