-- The values that options may have.
-- Example (AskExamples): `16` is a number within 2 and 16, `17` is not, and `09` is not the number 9; `2u.2eu.1e` is a
-- cursor, and `imperfect` names a class.
use Rattle.std.specs.Prelude.{List, [], codes, decimal, slice_index, ℕ, ◌∷◌, ◌≡◌, ◌≤◌, ◌⊎◌}
use Rattle.bk_word.specs.Word.{Word, order_of}
use Rattle.bk_word.specs.WordText.{IsTextOf}
use Rattle.bk_word.specs.declared.Class.{Class}
use Rattle.bk_word.specs.declared.Class.TheVariants.{Imperfect, Perfect, Simple}
use Rattle.bk_word.specs.declared.TheConstants.{LARGEST_LISTED_ORDER, LEAST_LISTED_ORDER}
use Rattle.bk_ask.specs.declared.command_options.TheConstants.{GREATEST_SEED, MOST_CODES, MOST_ENTRIES}
use Rattle.bk_pair.specs.declared.Kind.{Kind}
use Rattle.bk_pair.specs.declared.Kind.TheVariants as kinds

-- a number from `least` to `most`, written in digits without a sign and without a leading 0
pub record IsNumberWithin (least most : ℕ) (bytes : List ℕ) (n : ℕ) : Type 0 where
  pub at_least : least ≤ n
  pub at_most : n ≤ most
  pub text : bytes ≡ decimal n

-- the order of a catalogue, from 2 to 16
abbrev pub IsOrder : List ℕ → ℕ → Type 0
IsOrder = IsNumberWithin LEAST_LISTED_ORDER LARGEST_LISTED_ORDER

-- how many entries are listed at most: from 0 to a thousand million
abbrev pub IsLimit : List ℕ → ℕ → Type 0
IsLimit = IsNumberWithin 0 MOST_ENTRIES

-- a seed of trial codes: each number of 64 bits
abbrev pub IsSeed : List ℕ → ℕ → Type 0
IsSeed = IsNumberWithin 0 GREATEST_SEED

-- how many trial codes are tried, from 0 to 100,000
abbrev pub IsCount : List ℕ → ℕ → Type 0
IsCount = IsNumberWithin 0 MOST_CODES

-- the text of a word of an order of at most 16
pub record IsCursor (bytes : List ℕ) (w : Word) : Type 0 where
  pub text : IsTextOf bytes w
  pub few : order_of w ≤ LARGEST_LISTED_ORDER

-- the name of a class
abbrev pub class_name : Class → List ℕ
class_name Perfect = codes "perfect"
class_name Imperfect = codes "imperfect"
class_name Simple = codes "simple"

-- the bytes name the class
abbrev pub IsClassName : List ℕ → Class → Type 0
IsClassName bytes class = bytes ≡ class_name class

-- the name of a kind of pairs
abbrev pub kind_name : Kind → List ℕ
kind_name kinds.Perfect = codes "perfect"
kind_name kinds.Any = codes "any"

-- the bytes name the kind
abbrev pub IsKindName : List ℕ → Kind → Type 0
IsKindName bytes kind = bytes ≡ kind_name kind

-- the bytes are `0`, or begin with another digit
abbrev pub BeginsNumber : List ℕ → Type 0
BeginsNumber bytes = (bytes ≡ 48 ∷ []) ⊎ ((49 ≤ slice_index bytes 0) × (slice_index bytes 0 ≤ 57))
