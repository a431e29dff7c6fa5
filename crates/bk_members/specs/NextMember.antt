-- A walk through the catalogue: what is seen of it, and what it answers.
-- Example (NextMemberExamples): of order 2 and the class imperfect, a walk from the word of no move gives the row of
-- two squares first, and nothing after it; in the class perfect it gives nothing at all.
use Rattle.std.specs.Prelude.{Bool, ℕ}
use Rattle.bk_word.specs.Word.{Follows, Word}
use Rattle.bk_word.specs.declared.Class.{Class}
use Rattle.bk_catalogue.specs.Catalogue.{Entry, IsEntry}
use Rattle.bk_catalogue.specs.Following.{HasNoneBetween}

-- what is seen of a walk: its order and class, the word after which it goes on, whether it has ended, and how many
-- moves it has pushed, up to the last number of 64 bits
pub record MembersState : Type 0 where
  pub order : ℕ
  pub class : Class
  pub cursor : Word
  pub ended : Bool
  pub pushes : ℕ

-- the entry of the least member after the cursor, by its word. Of order 2 and the class imperfect it is at the start
-- that of the row of two squares of side 1, with the word 2e, and after 2e there is none
pub record IsNextMember (n : ℕ) (class : Class) (cursor : Word) (e : Entry) : Type 0 where
  pub is : IsEntry n class e
  pub after : Follows e.word cursor
  pub least : HasNoneBetween n class cursor e.word
