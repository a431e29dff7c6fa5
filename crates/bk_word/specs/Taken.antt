-- What a reader has read of a word, and what it keeps of it.
-- Example (WordExamples): behind the count 2 the letter e makes the move 2e, and 2e is what is taken.
use Rattle.std.specs.Prelude.{List, None, Option, Some, [], if◌then◌else◌, length, nat_le, nat_lt, ℕ, ◌*◌, ◌++◌, ◌+◌}
use Rattle.std.specs.Prelude.{◌-◌, ◌==◌, ◌∷◌, ◌≡◌, ◌≤◌}
use Rattle.bk_word.specs.StoredWord.{stored}
use Rattle.bk_word.specs.Word.{Move, Word, order_of}
use Rattle.bk_word.specs.WordText.{IsTextOf, capped_order}
use Rattle.bk_word.specs.declared.Sign.{Sign}
use Rattle.bk_word.specs.declared.reader.ByteKind.{ByteKind}
use Rattle.bk_word.specs.declared.reader.ByteKind.TheVariants.{Digit, Dot, Letter}
use Rattle.bk_word.specs.declared.reader.Place.{Place}
use Rattle.bk_word.specs.declared.reader.Place.TheVariants.{BeforeCount, InCount, InSigns}
use Rattle.bk_word.specs.declared.reading.Taken.{Taken}
use Rattle.bk_word.specs.declared.TheConstants.{LARGEST_ORDER}

-- what was read: moves, and after them a count or a move that is not ended
pub data Reading : Type 0 where
  Before : (w : Word) → Reading
  Count : (w : Word) → (count : ℕ) → Reading
  Signs : (w : Word) → (m : Move) → Reading

-- a move that has no sign yet
abbrev pub bare : ℕ → Move
bare count = record { count = count; signs = [] }

-- the move with a further sign
abbrev pub with_sign : Move → Sign → Move
with_sign m sign = record { count = m.count; signs = m.signs ++ sign ∷ [] }

-- where the reader stands
abbrev pub reader_place : Reading → Place
reader_place (Before w) = BeforeCount
reader_place (Count w count) = InCount count
reader_place (Signs w m) = InSigns (m.count - 1 - length m.signs) (m.count + 1 - length m.signs)

-- what was read with a further byte, or nothing where no word goes on with it
abbrev pub step : Reading → ByteKind → Option Reading
step (Before w) (Digit digit) = if nat_lt 0 digit then Some (Count w digit) else None
step (Count w count) (Digit digit) = if nat_lt count 100 then Some (Count w (count * 10 + digit)) else None
step (Count w count) (Letter sign) = Some (Signs w (with_sign (bare count) sign))
step (Count w count) Dot = if nat_le count 1 then Some (Before (w ++ bare count ∷ [])) else None
step (Signs w m) (Letter sign) =
    if nat_lt 0 (m.count + 1 - length m.signs) then Some (Signs w (with_sign m sign)) else None
step (Signs w m) Dot = if (m.count - 1 - length m.signs) == 0 then Some (Before (w ++ m ∷ [])) else None
step r kind = None

-- the moves that were taken: a count is taken where it ends
abbrev pub taken : Reading → Word
taken (Before w) = w
taken (Count w count) = w
taken (Signs w m) = w ++ m ∷ []

-- the moves where a count that was begun ends
abbrev pub moves_counted : Reading → Word
moves_counted (Before w) = w
moves_counted (Count w count) = w ++ bare count ∷ []
moves_counted (Signs w m) = w ++ m ∷ []

-- what is kept of a word: its order as far as the limit, and its bytes where it is not above that
pub record KeepsWord (w : Word) (t : Taken) : Type 0 where
  pub order : t.order ≡ capped_order w
  pub bytes : order_of w ≤ LARGEST_ORDER → t.bytes.items ≡ stored w

-- what is kept is that of the word that the bytes are the text of
abbrev pub KeepsTextOf : List ℕ → Taken → Type 0
KeepsTextOf bytes t = (w : Word) × IsTextOf bytes w × KeepsWord w t
