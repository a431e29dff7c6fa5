-- A wide word that a walk would come to; there is none of its orders.
use Rattle.std.specs.Prelude.{ℕ}
use Rattle.bk_word.specs.Word.{Word}
use Rattle.bk_word.specs.declared.Class.{Class}
use Rattle.bk_skel.specs.WideWord.{IsWideWordAfter}
use Rattle.bk_catalogue.specs.Following.{HasNoneBetween}

-- a complete word of the order that is after the cursor and wide, with no member's word between
pub record IsWideAfter (n : ℕ) (class : Class) (cursor word : Word) : Type 0 where
  pub is : IsWideWordAfter n cursor word
  pub least : HasNoneBetween n class cursor word
