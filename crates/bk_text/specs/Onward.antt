-- What the reader of a line makes of several bytes, and the sides of a group that it takes at once.
-- Example (LineExamples): the bytes `[18,15]` lead from the start behind a group, and [18,15] is gathered.
use Rattle.std.specs.Prelude.{Bool, List, Option, Some, [], false, length, option_and_then, suc, take, true, zero, ℕ, ⊤}
use Rattle.std.specs.Prelude.{◌<◌, ◌∷◌, ◌≡◌, ◌≤◌}
use Rattle.bk_tiling.specs.KeptTiling.{IsSide}
use Rattle.bk_text.specs.GatheredSides.{Gathered, gathered_after, with_gathered_side, with_group}
use Rattle.bk_text.specs.LineReader.{line_kind_of, most, next_line_place}
use Rattle.bk_text.specs.declared.reader.Bracket.{Bracket}
use Rattle.bk_text.specs.declared.reader.Field.{Field}
use Rattle.bk_text.specs.declared.reader.Header.{Header}
use Rattle.bk_text.specs.declared.reader.ByteKind.TheVariants.{Digit, Open}
use Rattle.bk_text.specs.declared.reader.Place.{Place}
use Rattle.bk_text.specs.declared.reader.Place.TheVariants.{BeforeSide, BehindGroup, Number}
use Rattle.bk_text.specs.declared.sides.SideInFront.{SideInFront}
use Rattle.bk_text.specs.declared.sides.SideInFront.TheVariants.{Inner, Last, Other}

-- behind several bytes: the place, and what is gathered; nothing where no line goes on with them
abbrev pub onward : List ℕ → Place → Gathered → Option (Place × Gathered)
onward [] p g = Some (p, g)
onward (b ∷ bs) p g = option_and_then (λ q. onward bs q (gathered_after p (line_kind_of b) g))
    (next_line_place p (line_kind_of b))

-- a number of the field begins behind the place: its first digit leads there, and nothing is gathered
pub record BeginsFieldNumber (place : Place) (field : Field) : Type 0 where
  pub next : (d : ℕ) → next_line_place place (Digit d) ≡ Some (Number field d)
  pub keeps : (d : ℕ) (g : Gathered) → gathered_after place (Digit d) g ≡ g

-- before the first digit of a number, which is still 0, or right behind a digit of it
abbrev pub at_number : Place → Field → ℕ → Place
at_number place field zero = place
at_number place field (suc n) = Number field (suc n)

-- bytes that spell on a number of a field where none is greater than this: it was one so far, and is the other behind
-- them
pub record SpellOn (greatest : ℕ) (bytes : List ℕ) (before behind : ℕ) : Type 0 where
  pub small : behind ≤ greatest
  pub leads : (place : Place) (field : Field) → BeginsFieldNumber place field → greatest ≡ most field → (g : Gathered)
      → onward bytes (at_number place field before) g ≡ Some (at_number place field behind, g)

-- a group behind this header begins behind the place: a bracket leads to its first side, and nothing is gathered
pub record OpensGroup (place : Place) (header : Header) : Type 0 where
  pub next : (bracket : Bracket) → next_line_place place (Open bracket) ≡ Some (BeforeSide header bracket)
  pub keeps : (bracket : Bracket) (g : Gathered) → gathered_after place (Open bracket) g ≡ g

-- among the sides of a group, or behind the bracket that closes it
abbrev pub behind_sides : Header → Bracket → Bool → Place
behind_sides header bracket false = BeforeSide header bracket
behind_sides header bracket true = BehindGroup header

-- a side, and whether the group ends with it
abbrev pub with_last_side : ℕ → Bool → Gathered → Gathered
with_last_side side false g = with_gathered_side side g
with_last_side side true g = with_group (with_gathered_side side g)

-- the first bytes are a side of a group that this bracket opened, and a comma, or the bracket that closes the group
pub record IsFrontSide (bracket : Bracket) (bytes : List ℕ) (side len : ℕ) (closed : Bool) : Type 0 where
  pub side_fits : IsSide side
  pub some : 0 < len
  pub within : len ≤ length bytes
  pub leads : (header : Header) (g : Gathered)
      → onward (take len bytes) (BeforeSide header bracket) g
      ≡ Some (behind_sides header bracket closed, with_last_side side closed g)

-- what was found in front of the bytes stands there: a side and a comma, or a side and the bracket that closes the
-- group; where neither was found, nothing is said
abbrev pub IsFront : Bracket → List ℕ → SideInFront → Type 0
IsFront bracket bytes (Inner side len) = IsFrontSide bracket bytes side len false
IsFront bracket bytes (Last side len) = IsFrontSide bracket bytes side len true
IsFront bracket bytes Other = ⊤
