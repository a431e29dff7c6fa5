-- What `solve` answers to a line.
-- Example (WordAnswerExamples): the line `2u.1e` is answered by `3x2 [2,1][1]`, the word 2u by `unfinished`, the word
-- 2u.2e by `illegal 2`, and a line of blanks by nothing.
use Rattle.std.specs.Prelude.{Bool, List, [], false, length, slice_range, true, ℕ, ◌+◌, ◌<◌, ◌∷◌, ◌≡◌, ◌≤◌}
use Rattle.bk_grammar.specs.Grammar.{LineEnd}
use Rattle.bk_ports.specs.declared.line.TheConstants.{LONGEST_LINE}
use Rattle.bk_tiling.specs.Tiling.{IsTiling, Tiling}
use Rattle.bk_word.specs.Play.{IsComplete, IsLegal, outline_of}
use Rattle.bk_word.specs.Word.{Word, order_of}
use Rattle.bk_word.specs.WordItem.{IsItemAt}
use Rattle.bk_word.specs.WordText.{IsNoWordText, IsTextOf}
use Rattle.bk_word.specs.declared.TheConstants.{LARGEST_ORDER}
use Rattle.bk_lay.specs.TilingWord.{IsWordOf}
use Rattle.bk_skel.specs.SolveRefusal.{IsFirstIllegal}
use Rattle.bk_word_net.specs.Realised.{IsTilingOf}
use Rattle.bk_skel.specs.WideWord.{IsWideWord}
use Rattle.bk_report.specs.Answers.{tiling_line}
use Rattle.bk_report.specs.Refusals.{refusal_line}
use Rattle.bk_report.specs.declared.refusal.Refused.TheVariants.{Illegal, Long, Many, Nothing, Text, Unfinished, Wide}

-- the answer to a word. The first cause counts
pub data AnswersWord (w : Word) : List (List ℕ) → Bool → Type 0 where
  -- a move is not legal after those before it: the first of these is named
  illegal : (place : ℕ) → IsFirstIllegal w place → AnswersWord w (refusal_line (Illegal place) ∷ []) true
  -- more than one segment is left
  unfinished : IsLegal w → 1 < length (outline_of w).segments → AnswersWord w (refusal_line Unfinished ∷ []) true
  -- the stated elimination writes a number that is too large, or a side would be too long
  wide_word : IsComplete w → IsWideWord w → AnswersWord w (refusal_line Wide ∷ []) true
  -- no tiling has the word
  no_tiling : IsComplete w → (IsWideWord w → ⊥) → ((t : Tiling) → IsTiling t → IsWordOf t w → ⊥)
      → AnswersWord w (refusal_line Nothing ∷ []) true
  -- the one primitive tiling of the word
  realised : (t : Tiling) → IsComplete w → (IsWideWord w → ⊥) → IsTilingOf w t
      → AnswersWord w (tiling_line t ∷ []) false

-- the bytes are a line that is not too long, and this text is its item, behind so many bytes
pub record HasText (bytes : List ℕ) (start : ℕ) (text : List ℕ) : Type 0 where
  pub short : length bytes ≤ LONGEST_LINE
  pub stop : ℕ
  pub item : IsItemAt bytes start stop
  pub text_is : text ≡ slice_range bytes start stop

-- the item is the text of this word, of at most 200 squares
pub record HasWord (bytes : List ℕ) (w : Word) : Type 0 where
  pub start : ℕ
  pub text : List ℕ
  pub item : HasText bytes start text
  pub word : IsTextOf text w
  pub few : order_of w ≤ LARGEST_ORDER

-- the answer to a word line
pub data AnswersWordLine (bytes : List ℕ) : List (List ℕ) → Bool → Type 0 where
  -- more than 8,192 bytes
  word_too_long : LONGEST_LINE < length bytes → AnswersWordLine bytes (refusal_line Long ∷ []) true
  -- the item is no text of a word, and leaves the grammar behind so many bytes of the line
  no_word : (start at : ℕ) (text : List ℕ) → HasText bytes start text → IsNoWordText text at
      → AnswersWordLine bytes (refusal_line (Text (start + at)) ∷ []) true
  -- a word of more than 200 squares
  large_word : (start : ℕ) (text : List ℕ) (w : Word) → HasText bytes start text → IsTextOf text w
      → LARGEST_ORDER < order_of w → AnswersWordLine bytes (refusal_line Many ∷ []) true
  -- a line without an item has no answer
  no_word_item : length bytes ≤ LONGEST_LINE → LineEnd bytes → AnswersWordLine bytes [] false
  -- a word
  of_word : (w : Word) (pieces : List (List ℕ)) (refused : Bool) → HasWord bytes w → AnswersWord w pieces refused
      → AnswersWordLine bytes pieces refused
