-- The reader of a line with all its sides, however many there are; the reader in the code keeps 200 of them.
use Rattle.std.specs.Prelude.{Bool, List, None, Option, Some, [], false, option_and_then, true, ℕ, ◌++◌, ◌∷◌}
use Rattle.bk_text.specs.CodeLine.{Flat, Item, Line, Skip}
use Rattle.bk_text.specs.LineReader.{closes_group, ended_side, last_side, line_ending_at, line_kind_of, next_line_place}
use Rattle.bk_text.specs.declared.reader.Ending.{Ending}
use Rattle.bk_text.specs.declared.reader.Ending.TheVariants.{Coded, Empty, Row}
use Rattle.bk_text.specs.declared.reader.ByteKind.{ByteKind}
use Rattle.bk_text.specs.declared.reader.Place.{Place}

-- the groups that were closed, and the sides of the open group or of the table row
pub record Lists : Type 0 where
  pub groups : List (List ℕ)
  pub sides : List ℕ

-- nothing is read yet
abbrev pub no_lists : Lists
no_lists = record { groups = []; sides = [] }

-- with a further side, where there is one
abbrev pub and_side : Option ℕ → Lists → Lists
and_side None t = t
and_side (Some n) t = record { groups = t.groups; sides = t.sides ++ n ∷ [] }

-- with the open group closed, where it is
abbrev pub and_group : Bool → Lists → Lists
and_group false t = t
and_group true t = record { groups = t.groups ++ t.sides ∷ []; sides = [] }

-- behind a further byte
abbrev pub lists_behind_a_byte : Place → ByteKind → Lists → Lists
lists_behind_a_byte p k t = and_group (closes_group p k) (and_side (ended_side p k) t)

-- what a line stands for
abbrev pub line_by_its_ending : Ending → Lists → Line
line_by_its_ending Empty t = Skip
line_by_its_ending (Coded h) t = Item h.order h.size t.groups
line_by_its_ending (Row r) t = Flat r.order r.width r.height t.sides

-- the line that ends here, where one may
abbrev pub line_where_one_may_end : Option Ending → Lists → Option Line
line_where_one_may_end None t = None
line_where_one_may_end (Some e) t = Some (line_by_its_ending e t)

-- what is read from a place on
abbrev pub line_read_from : List ℕ → Place → Lists → Option Line
line_read_from [] p t = line_where_one_may_end (line_ending_at p) (and_side (last_side p) t)
line_read_from (b ∷ bs) p t = option_and_then (λ q. line_read_from bs q (lists_behind_a_byte p (line_kind_of b) t)) (next_line_place p (line_kind_of b))
