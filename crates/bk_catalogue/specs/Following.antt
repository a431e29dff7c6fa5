-- What comes after a cursor: the word after which a listing of a catalogue goes on.
-- Examples (FollowingExamples): in the catalogue of order 2 and the class imperfect no word is after 2e, but one is
-- after the start. No word is between the start and 2e, but one is between the start and 2u.
use Rattle.std.specs.Prelude.{None, Option, Some, [], ℕ}
use Rattle.bk_word.specs.Word.{Follows, Word}
use Rattle.bk_word.specs.declared.Class.{Class}
use Rattle.bk_catalogue.specs.Catalogue.{Entry, IsEntry}

-- the word after which a listing starts: the given one, or that of no moves
abbrev pub start_cursor : Option Word → Word
start_cursor None = []
start_cursor (Some word) = word

-- no member's word is after the cursor: of order 2 and the class imperfect none is after 2e, the word of two squares in
-- a row
abbrev pub HasNoneAfter : ℕ → Class → Word → Type 0
HasNoneAfter n class cursor = (e : Entry) → IsEntry n class e → Follows e.word cursor → ⊥

-- no member's word is after the cursor and before the word
abbrev pub HasNoneBetween : ℕ → Class → Word → Word → Type 0
HasNoneBetween n class cursor word =
    (e : Entry) → IsEntry n class e → Follows e.word cursor → Follows word e.word → ⊥
