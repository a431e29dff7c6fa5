-- What a command that reads codes answers to a line, to its item, and to the tiling that is laid for it.
-- Example (CodeAnswerExamples): `draw` answers `[2,1][1]` by three rows, `[18,15][7,9]` by `no gap 2 15 16`, and a
-- comment by nothing.
use Rattle.std.specs.Prelude.{Bool, List, [], false, true, ℕ, ◌∷◌, ◌≡◌}
use Rattle.bk_tiling.specs.Tiling.{Tiling}
use Rattle.bk_report.specs.Refusals.{refusal_line}
use Rattle.bk_report.specs.declared.refusal.Refused.{Refused}
use Rattle.bk_report.specs.declared.refusal.Refused.TheVariants.{Large}
use Rattle.bk_text.specs.CodeLine.{Skip}
use Rattle.bk_answer.specs.Item.{HasItem, HasTiling}
use Rattle.bk_answer.specs.Refusing.{IsLineRefused}
use Rattle.bk_answer.specs.Telling.{Allows, IsAnswerTo}
use Rattle.bk_answer.specs.declared.command.Command.{Command}

-- why a command refuses a line. The first cause counts
pub data IsRefusedBy (command : Command) (bytes : List ℕ) : Refused → Type 0 where
  -- the line is refused, whatever the command
  any_command : (refused : Refused) → IsLineRefused bytes refused → IsRefusedBy command bytes refused
  -- the line's item speaks of a tiling that is too large for the command
  too_large : (t : Tiling) → HasTiling bytes t → (Allows command t → ⊥) → IsRefusedBy command bytes Large

-- the answer to a line of a code
pub data AnswersCodeLine (command : Command) (bytes : List ℕ) : List (List ℕ) → Bool → Type 0 where
  -- a line without an item has no answer
  no_item : HasItem bytes Skip → AnswersCodeLine command bytes [] false
  -- a line that the command refuses is answered by the cause
  refuses : (refused : Refused) → IsRefusedBy command bytes refused
      → AnswersCodeLine command bytes (refusal_line refused ∷ []) true
  -- any other line has an item that speaks of a tiling, and is answered by it
  answers : (t : Tiling) (pieces : List (List ℕ)) → HasTiling bytes t → Allows command t → IsAnswerTo command t pieces
      → AnswersCodeLine command bytes pieces false

-- the answer to the tiling of a line
abbrev pub AnswersTiling : Command → Tiling → List (List ℕ) → Bool → Type 0
AnswersTiling command t pieces true = (Allows command t → ⊥) × (pieces ≡ refusal_line Large ∷ [])
AnswersTiling command t pieces false = Allows command t × IsAnswerTo command t pieces
