-- Words that no member has, and numbers that stand at two places of a list: those of a perfect tiling's word don't.
-- Example (RepeatedExamples): the word 2e, whose net has the currents 1 and 1, is that of no member of order 2 and the
-- class perfect.
use Rattle.std.specs.Prelude.{List, ℕ, ℤ, ◌<◌, ◌≡◌}
use Rattle.bk_laws.specs.HasAt.{HasAt}
use Rattle.bk_word.specs.Word.{Word, order_of}
use Rattle.bk_word.specs.declared.Class.{Class}
use Rattle.bk_catalogue.specs.Catalogue.{Entry, IsEntry}

-- no member of its order and the class has the word
abbrev pub HasNoMember : Class → Word → Type 0
HasNoMember class w = (e : Entry) → IsEntry (order_of w) class e → e.word ≡ w → ⊥

-- two numbers of the list, at two places, are the same
pub record HasTwoAlike (numbers : List ℤ) : Type 0 where
  pub first : ℕ
  pub second : ℕ
  pub number : ℤ
  pub apart : first < second
  pub at_first : HasAt numbers first number
  pub at_second : HasAt numbers second number
