-- The item of a line that holds a word.
-- Example (WordItemExamples): the item of the line " 1 ;x" is 1, from byte 1 to byte 2.
use Rattle.std.specs.List.{AllByRecursion}
use Rattle.std.specs.Prelude.{List, [], length, slice_range, take, ℕ, ◌++◌, ◌<◌, ◌∷◌, ◌≡◌, ◌≢◌, ◌≤◌}
use Rattle.bk_grammar.specs.Grammar.{Blanks, Comment, IsBlank, Nothing, ◌or◌}

-- the item of a line: what is left without the comment and without the blanks at both ends, where that is not
-- nothing
pub record IsItemOf (line before item after comment : List ℕ) : Type 0 where
  pub some : 0 < length item
  pub whole : line ≡ before ++ item ++ after ++ comment
  pub blanks_before : Blanks before
  pub blanks_after : Blanks after
  pub no_comment : AllByRecursion (λ b. b ≢ 59) item
  pub ends_bare : (front : List ℕ) (b : ℕ) → item ≡ front ++ b ∷ [] → IsBlank b → ⊥
  pub begins_bare : (b : ℕ) (back : List ℕ) → item ≡ b ∷ back → IsBlank b → ⊥
  pub rest : (Nothing or Comment) comment

-- the item of a line begins at one place and ends at the other
pub record IsItemAt (line : List ℕ) (start end : ℕ) : Type 0 where
  pub order : start ≤ end
  pub within : end ≤ length line
  pub after : List ℕ
  pub comment : List ℕ
  pub item : IsItemOf line (take start line) (slice_range line start end) after comment
