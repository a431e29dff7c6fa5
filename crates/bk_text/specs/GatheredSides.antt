-- The sides that the reader of a line keeps: 200 of them, and whether there were more.
-- Example (LineExamples): with the side 7 gathered and its group closed, [7] is the one group, and no side is open.
use Rattle.std.specs.List.{AllByRecursion}
use Rattle.std.specs.Prelude.{Bool, List, None, Option, Some, [], false, if◌then◌else◌, length, nat_lt, true, ℕ, ◌++◌}
use Rattle.std.specs.Prelude.{◌+◌, ◌∷◌, ◌≡◌, ◌≤◌}
use Rattle.bk_code.specs.Code.{flat}
use Rattle.bk_tiling.specs.KeptTiling.{IsSide}
use Rattle.bk_text.specs.CodeLine.{Flat, Item, Line, Skip}
use Rattle.bk_text.specs.declared.reader.Ending.{Ending}
use Rattle.bk_text.specs.declared.reader.Ending.TheVariants.{Coded, Empty, Row}
use Rattle.bk_text.specs.LineReader.{closes_group, ended_side}
use Rattle.bk_text.specs.declared.reader.ByteKind.{ByteKind}
use Rattle.bk_text.specs.declared.reader.Place.{Place}
use Rattle.bk_tiling.specs.declared.TheConstants.{MOST_SQUARES}

-- the groups that were closed, the sides of the open group or of the table row, and whether a side was left out
pub record Gathered : Type 0 where
  pub groups : List (List ℕ)
  pub sides : List ℕ
  pub many : Bool

-- how many sides are kept
abbrev pub kept_side_count : Gathered → ℕ
kept_side_count g = length (flat g.groups) + length g.sides

-- what holds of the sides that are kept
pub record IsGathered (g : Gathered) : Type 0 where
  pub each : AllByRecursion IsSide g.sides
  pub few : kept_side_count g ≤ MOST_SQUARES
  pub full : g.many ≡ true → kept_side_count g ≡ MOST_SQUARES

-- no group and no side
abbrev pub nothing_gathered : Gathered
nothing_gathered = record { groups = []; sides = []; many = false }

-- with a further side, which is kept where there is room
abbrev pub with_gathered_side : ℕ → Gathered → Gathered
with_gathered_side n g =
    if nat_lt (kept_side_count g) MOST_SQUARES
    then record { groups = g.groups; sides = g.sides ++ n ∷ []; many = g.many }
    else record { groups = g.groups; sides = g.sides; many = true }

-- with the open group closed
abbrev pub with_group : Gathered → Gathered
with_group g = if g.many then g else record { groups = g.groups ++ g.sides ∷ []; sides = []; many = false }

-- with the side that ended, if there is one
abbrev pub with_ended : Option ℕ → Gathered → Gathered
with_ended None g = g
with_ended (Some n) g = with_gathered_side n g

-- with the open group closed, if it was closed
abbrev pub with_closed : Bool → Gathered → Gathered
with_closed false g = g
with_closed true g = with_group g

-- behind a further byte: a side that ends before it, and then a group that it closes
abbrev pub gathered_after : Place → ByteKind → Gathered → Gathered
gathered_after place kind g = with_closed (closes_group place kind) (with_ended (ended_side place kind) g)

-- what a line stands for that ends here
abbrev pub line_gathered : Ending → Gathered → Line
line_gathered Empty g = Skip
line_gathered (Coded header) g = Item header.order header.size g.groups
line_gathered (Row table) g = Flat table.order table.width table.height g.sides
