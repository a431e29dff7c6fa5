-- What `check` accepts, in terms of tilings: a line is accepted exactly if a tiling has the code, the order and the
-- size that it states. So are `[2,1][1]` and the row `3 3 2 2 1 1`, of a tiling 3 by 2 of three squares; `2x3 [2,1][1]`
-- isn't, since that tiling has another size.
-- Example (CodeAnswerExamples): each answer to `[2,1][1]` begins with `ok`; that to `2x3 [2,1][1]` doesn't, so no
-- tiling has what that line states.
use Rattle.std.specs.List.{concat}
use Rattle.std.specs.Prelude.{Bool, IfSome, List, Option, ℕ, ◌++◌, ◌↔◌, ◌≡◌}
use Rattle.bk_tiling.specs.Tiling.{Tiling, order}
use Rattle.bk_code.specs.Code.{Code}
use Rattle.bk_profile.specs.Refused.{HasCode, HasFlat}
use Rattle.bk_text.specs.CodeLine.{Flat, Item}
use Rattle.bk_report.specs.AnswerWords.{ok_word}
use Rattle.bk_answer.specs.Answer.{AnswersLine}
use Rattle.bk_answer.specs.Item.{HasItem, HasTiling, IsSize}
use Rattle.bk_answer.specs.declared.command.Command.{Command}
use Rattle.bk_answer.specs.declared.command.Command.TheVariants.{Plain}
use Rattle.bk_answer.specs.declared.plain.PlainCommand.TheVariants.{Check}

-- the answer accepts: it begins with `ok`
abbrev pub Accepts : List (List ℕ) → Type 0
Accepts pieces = (rest : List ℕ) × (concat pieces ≡ ok_word ++ rest)

-- `check` answers a line by these pieces: they begin with `ok` exactly where the line isn't too long, has at most 200
-- sides, and some tiling has its code, or its width and flat list, and the order and the size that it states
pub record IsChecked (bytes : List ℕ) (pieces : List (List ℕ)) : Type 0 where
  -- any line: it is not too long, and some tiling has what its item states
  pub any_line : Accepts pieces ↔ (t : Tiling) × HasTiling bytes t
  -- a line of groups: some tiling has this code, and the order and the size where they are stated
  pub grouped : (stated : Option ℕ) (size : Option (ℕ × ℕ)) (code : Code) → HasItem bytes (Item stated size code)
      → Accepts pieces ↔ (t : Tiling) × HasCode code t × IfSome stated (λ n. n ≡ order t) × IsSize size t.width t.height
  -- a table row: some tiling has this width, flat list of sides, order and height
  pub flat : (n width height : ℕ) (sides : List ℕ) → HasItem bytes (Flat n width height sides)
      → Accepts pieces ↔ (t : Tiling) × HasFlat width sides t × (n ≡ order t) × (height ≡ t.height)

-- a reply to a line: its answer, which is that of the definitions, and of `check` one that accepts exactly the codes of
-- tilings
pub record IsReplyTo (command : Command) (bytes : List ℕ) (pieces : List (List ℕ)) (refused : Bool) : Type 0 where
  pub answer : AnswersLine command bytes pieces refused
  pub checked : command ≡ Plain Check → IsChecked bytes pieces
