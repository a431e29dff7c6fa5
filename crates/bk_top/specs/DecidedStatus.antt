-- What decides the status of a command that answers lines: the lines, and how many bytes come. `check` of the lines
-- `[1]` and `[2` has status 1, since the second is refused; `flow` of a net of 17 wires has status 0, or 6 where memory
-- is wanting.
-- Example (RunExamples): of no lines the status is 0.
use Rattle.std.specs.Prelude.{List, ℕ, ◌≡◌, ◌≢◌, ◌⊎◌, ◌↔◌}
use Rattle.bk_ports.specs.Deciding.{HasRefused, HasWanting}
use Rattle.bk_ports.specs.Answered.{Replies}
use Rattle.bk_answer.specs.Answer.{MayWant}
use Rattle.bk_answer.specs.Checked.{IsReplyTo}
use Rattle.bk_answer.specs.declared.command.Command.{Command}

-- how lines are answered, and at which lines memory may be wanting: those whose item has more than 16 squares or wires
abbrev pub replies_of : Command → Replies
replies_of command = record { answers = IsReplyTo command; may_want = MayWant command }

-- the lines decide the status
pub record IsDecided (command : Command) (lines : List (List ℕ)) (status : ℕ) : Type 0 where
  -- all lines are answered, or memory is wanting
  pub one_of : (status ≡ 0) ⊎ ((status ≡ 1) ⊎ (status ≡ 6))
  -- memory is wanting only at a line whose item has more than 16 squares or wires
  pub wanting : status ≡ 6 → HasWanting (replies_of command) lines
  -- where memory isn't wanting, the status is 1 exactly where some line is refused
  pub refused : status ≢ 6 → status ≡ 1 ↔ HasRefused (replies_of command) lines
