-- What a complete word tells: by its flow, and where a member has it.
-- Example (TreeWalkExamples): the word 2e, whose net has the currents 1 and 1, is that of no member of the class
-- perfect; these are unfit in that class alone.
use Rattle.std.specs.Prelude.{Any, List, pos, ℕ, ℤ, ◌<ℤ◌, ◌≡◌, ◌⊎◌}
use Rattle.bk_word.specs.Word.{Word}
use Rattle.bk_word.specs.declared.Class.{Class}
use Rattle.bk_word.specs.declared.Class.TheVariants.{Perfect}
use Rattle.bk_catalogue.specs.Catalogue.{Entry, IsEntry}
use Rattle.bk_catalogue.specs.Repeated.{HasTwoAlike}

-- currents that those of no member are: one is less than 1, or in the class perfect two are the same
abbrev pub IsUnfit : Class → List ℤ → Type 0
IsUnfit class currents = Any (λ c. c <ℤ pos 1) currents ⊎ ((class ≡ Perfect) × HasTwoAlike currents)

-- some member has this word
pub record IsMembersWord (n : ℕ) (class : Class) (word : Word) : Type 0 where
  pub entry : Entry
  pub is : IsEntry n class entry
  pub word_is : entry.word ≡ word
