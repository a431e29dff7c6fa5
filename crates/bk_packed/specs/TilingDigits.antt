-- The digits of a tiling's word.
-- Example (PackedExamples): 2u.1 has the digits 0, 1, 2 and 0, 0.
use Rattle.std.specs.Prelude.{List, ℕ, ◌≡◌, ◌≤◌}
use Rattle.bk_tiling.specs.Tiling.{Tiling}
use Rattle.bk_word.specs.Word.{Word, order_of}
use Rattle.bk_lay.specs.TilingWord.{IsWordOf}
use Rattle.bk_packed.specs.Packed.{word_digits}
use Rattle.bk_word.specs.declared.TheConstants.{LARGEST_LISTED_ORDER}

-- the tiling has a word of at most 16 squares with these digits
pub record HasDigitsOf (t : Tiling) (digits : List ℕ) : Type 0 where
  pub word : Word
  pub is_word : IsWordOf t word
  pub few : order_of word ≤ LARGEST_LISTED_ORDER
  pub are : digits ≡ word_digits word
