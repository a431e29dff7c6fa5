-- Why a line of codes is refused.
-- Example (CodeAnswerExamples): `2x3 [2,1][1]` is refused for its size, which is 3x2; `[18,15][7,9]` for its second
-- group, whose sum 16 doesn't fit into a gap of 15 columns; and `3 [18,15][7,9]` for its order, which is 4.
use Rattle.std.specs.Prelude.{List, length, ℕ, ◌<◌, ◌≤◌}
use Rattle.bk_ports.specs.declared.line.TheConstants.{LONGEST_LINE}
use Rattle.bk_tiling.specs.Tiling.{Tiling}
use Rattle.bk_tiling.specs.declared.TheConstants.{MOST_SQUARES}
use Rattle.bk_profile.specs.Refused.{IsFlatRefused, IsRefused, first_sum}
use Rattle.bk_profile.specs.declared.laying.Refusal.{Refusal}
use Rattle.bk_profile.specs.declared.laying.Refusal.TheVariants.{Gap, Open}
use Rattle.bk_report.specs.declared.refusal.Refused.{Refused}
use Rattle.bk_report.specs.declared.refusal.Refused.TheVariants.{Gap as NoGap, Long, Many, Open as NoOpen, Order, Size}
use Rattle.bk_report.specs.declared.refusal.Refused.TheVariants.{Text}
use Rattle.bk_text.specs.declared.TextFault.{TextFault}
use Rattle.bk_text.specs.declared.TextFault.TheVariants as fault
use Rattle.bk_text.specs.CodeLine.{Flat, IsLine, IsNoLine, Item, Line, Skip}
use Rattle.bk_answer.specs.Item.{AllowsOrder, AllowsSize, HasItem, IsLaidBy, side_count}

-- laying the item gives no tiling: its groups are laid under the sum of the first one, and a flat list under the
-- stated width
abbrev pub IsNotLaid : Line → Refusal → Type 0
IsNotLaid Skip refusal = ⊥
IsNotLaid (Item order size code) refusal = IsRefused (first_sum code) code refusal
IsNotLaid (Flat order width height sides) refusal = IsFlatRefused width sides refusal

-- what is answered where laying gives no tiling
abbrev pub refused_for : Refusal → Refused
refused_for (Gap group width sum) = NoGap group width sum
refused_for (Open least greatest) = NoOpen least greatest

-- what is answered to bytes that are not read
abbrev pub refused_text : TextFault → Refused
refused_text (fault.Text at) = Text at
refused_text fault.Many = Many

-- why an item is refused. The first cause counts
pub data IsItemRefused (item : Line) : Refused → Type 0 where
  -- another order is stated than the number of sides
  other_order : (AllowsOrder item (side_count item) → ⊥) → IsItemRefused item (Order (side_count item))
  -- a group doesn't fit into its gap, or the outline ends uneven
  not_laid : (refusal : Refusal) → AllowsOrder item (side_count item) → IsNotLaid item refusal
      → IsItemRefused item (refused_for refusal)
  -- a tiling is laid, and another size is stated
  other_size : (t : Tiling) → AllowsOrder item (side_count item) → IsLaidBy item t
      → (AllowsSize item t.width t.height → ⊥) → IsItemRefused item (Size t.width t.height)

-- why a line is refused. The first cause counts
pub data IsLineRefused (bytes : List ℕ) : Refused → Type 0 where
  -- more than 8,192 bytes
  too_long : LONGEST_LINE < length bytes → IsLineRefused bytes Long
  -- outside the grammar
  no_line : (at : ℕ) → length bytes ≤ LONGEST_LINE → IsNoLine bytes at → IsLineRefused bytes (Text at)
  -- more than 200 sides
  too_many : (item : Line) → length bytes ≤ LONGEST_LINE → IsLine item bytes → MOST_SQUARES < side_count item
      → IsLineRefused bytes Many
  -- its item is refused
  refused_item : (item : Line) (refused : Refused) → HasItem bytes item → IsItemRefused item refused
      → IsLineRefused bytes refused
