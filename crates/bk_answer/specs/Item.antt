-- What the item of a line states, and the tilings that it speaks of.
-- Example (CodeAnswerExamples): the lines `[2,1][1]` and `3 3 2 2 1 1` speak of the rectangle 3x2 of the squares 2, 1,
-- 1; the item of `2x3 [2,1][1]` doesn't.
use Rattle.std.specs.Prelude.{IfSome, List, None, Option, Some, length, ℕ, ◌≡◌, ◌≤◌}
use Rattle.bk_ports.specs.declared.line.TheConstants.{LONGEST_LINE}
use Rattle.bk_tiling.specs.Tiling.{Tiling, order}
use Rattle.bk_tiling.specs.declared.TheConstants.{MOST_SQUARES}
use Rattle.bk_profile.specs.Refused.{HasCode, HasFlat}
use Rattle.bk_text.specs.CodeLine.{Flat, IsLine, Item, Line, Skip}
use Rattle.bk_text.specs.ReadLine.{sides_of_line}

-- the number of sides
abbrev pub side_count : Line → ℕ
side_count item = length (sides_of_line item)

-- the bytes are a line that is not too long, and stand for an item of not too many sides
pub record HasItem (bytes : List ℕ) (item : Line) : Type 0 where
  pub short : length bytes ≤ LONGEST_LINE
  pub meaning : IsLine item bytes
  pub few : side_count item ≤ MOST_SQUARES

-- the item allows this order: it states no other
abbrev pub AllowsOrder : Line → ℕ → Type 0
AllowsOrder Skip n = Unit {0}
AllowsOrder (Item order size code) n = IfSome order (λ stated. stated ≡ n)
AllowsOrder (Flat order width height sides) n = order ≡ n

-- the size that is stated, where one is
abbrev pub IsSize : Option (ℕ × ℕ) → ℕ → ℕ → Type 0
IsSize size w h = IfSome size (λ stated. (stated.0 ≡ w) × (stated.1 ≡ h))

-- the item allows this size: it states no other
abbrev pub AllowsSize : Line → ℕ → ℕ → Type 0
AllowsSize Skip w h = Unit {0}
AllowsSize (Item order size code) w h = IsSize size w h
AllowsSize (Flat order width height sides) w h = IsSize (Some (width, height)) w h

-- the tiling has the code of the item, or the width and the flat list of a table row
abbrev pub IsLaidBy : Line → Tiling → Type 0
IsLaidBy Skip t = ⊥
IsLaidBy (Item order size code) t = HasCode code t
IsLaidBy (Flat order width height sides) t = HasFlat width sides t

-- the tiling is the one that the item speaks of: it has the code, or the width and the flat list, and the order and the
-- size that are stated
pub record IsStatedBy (item : Line) (t : Tiling) : Type 0 where
  pub laid : IsLaidBy item t
  pub order_is : AllowsOrder item (order t)
  pub size_is : AllowsSize item t.width t.height

-- the bytes are a line whose item speaks of the tiling
pub record HasTiling (bytes : List ℕ) (t : Tiling) : Type 0 where
  pub item : Line
  pub is_item : HasItem bytes item
  pub stated : IsStatedBy item t

-- what comes of laying an item that is not refused: nothing where there is none, else the tiling that it speaks of
abbrev pub IsLaidItem : Line → Option Tiling → Type 0
IsLaidItem item None = item ≡ Skip
IsLaidItem item (Some t) = IsStatedBy item t

-- what comes of laying a line that is not refused: nothing where its item is none, else the tiling that it speaks of
abbrev pub IsLaidLine : List ℕ → Option Tiling → Type 0
IsLaidLine bytes None = HasItem bytes Skip
IsLaidLine bytes (Some t) = HasTiling bytes t
