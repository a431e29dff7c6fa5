-- What a search for members keeps of the words that it met.
-- Examples (FindingExamples): of order 2 and the class imperfect the one member is a row of two squares, with the word
-- 2e. A search that keeps the number of 2e holds the row; one that keeps nothing holds it only if greater numbers alone
-- are asked for. With room for no number a search may have dropped that of 2e, and with room for one it can't have.
use Rattle.std.specs.List.{AllByRecursion}
use Rattle.std.specs.Prelude.{Contains, IsSome, List, length, ℕ, ◌<◌, ◌≡◌, ◌≤◌}
use Rattle.bk_tiling.specs.Tiling.{Tiling}
use Rattle.bk_word.specs.Word.{Word}
use Rattle.bk_word.specs.declared.Class.{Class}
use Rattle.bk_word.specs.declared.TheConstants.{LARGEST_LISTED_ORDER}
use Rattle.bk_catalogue.specs.Catalogue.{Entry, IsEntry}
use Rattle.bk_lay.specs.TilingWord.{IsWordOf}
use Rattle.bk_layout.specs.NormalImage.{IsMetByNormalWord}
use Rattle.bk_sym.specs.Image.{image}
use Rattle.bk_sym.specs.declared.Turn.{Turn}
use Rattle.bk_packed.specs.KeptNumbers.{AreAscendingNumbers, Holds, Numbers}
use Rattle.bk_packed.specs.Packed.{packed}

-- the order and the class that are looked for, the number from which words are kept, and what is kept
pub record Finding : Type 0 where
  pub order : ℕ
  pub class : Class
  pub from : ℕ
  pub numbers : Numbers

-- the numbers of the tiling's words are held, but for those below a number
abbrev pub IsHeld : ℕ → Numbers → Tiling → Type 0
IsHeld from numbers t = (w : Word) → IsWordOf t w → from ≤ packed w → Holds numbers (packed w)

-- the number is that of a member's word, and not below the one from which words are kept
abbrev pub IsMembersNumber : Finding → ℕ → Type 0
IsMembersNumber s x = (e : Entry) × IsEntry s.order s.class e × (packed e.word ≡ x) × (s.from ≤ x)

-- each number that is kept is that of a member's word, and not below the one from which words are kept
abbrev pub HasOnlyMembers : Finding → Type 0
HasOnlyMembers s = (x : ℕ) → Contains s.numbers.kept x → IsMembersNumber s x

-- there are more numbers of members' words, not below the one from which words are kept, than there is room for
pub record HasMoreMembers (room : ℕ) (s : Finding) : Type 0 where
  pub numbers : List ℕ
  pub ascending : AreAscendingNumbers numbers
  pub each : AllByRecursion (IsMembersNumber s) numbers
  pub more : room < length numbers

-- what holds of each search that has room for so many
pub record IsFinder (room : ℕ) (s : Finding) : Type 0 where
  pub few : s.order ≤ LARGEST_LISTED_ORDER
  pub only : HasOnlyMembers s
  pub cut : IsSome s.numbers.limit → HasMoreMembers room s

-- what a search leaves as it is: the order and the class, and the number from which words are kept
pub record Wanted : Type 0 where
  pub order : ℕ
  pub class : Class
  pub from : ℕ

abbrev pub wanted : Finding → Wanted
wanted s = record { order = s.order; class = s.class; from = s.from }

-- a later state of a search: it looks for the same, what was put is there, and what was kept still is
pub record Puts (s after : Finding) (What : Type 0) : Type 0 where
  pub fixed : wanted after ≡ wanted s
  pub put : What
  pub kept : (x : ℕ) → Holds s.numbers x → Holds after.numbers x

-- the number of the entry's word is held, or the word comes before those that are kept
abbrev pub HoldsEntry : Finding → Entry → Type 0
HoldsEntry s e = s.from ≤ packed e.word → Holds s.numbers (packed e.word)

-- the members of which an image is met by this word are held
abbrev pub HasMet : Finding → Word → Type 0
HasMet s w = (e : Entry) (turn : Turn) → IsEntry s.order s.class e → IsMetByNormalWord (image turn e.tiling) w
    → HoldsEntry s e
