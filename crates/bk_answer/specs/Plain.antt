-- The commands that read lines of codes and take no memory.
-- Example (TellingExamples): `draw` is one of them, and memory is wanting for it at no line.
use Rattle.std.specs.Prelude.{Bool, List, ℕ}
use Rattle.bk_answer.specs.Answer.{AnswersLine, MayWant}
use Rattle.bk_answer.specs.declared.command.Command.TheVariants.{Plain}
use Rattle.bk_answer.specs.declared.plain.PlainCommand.{PlainCommand}

-- what a command that takes no memory answers to a line of a code
abbrev pub PlainAnswers : PlainCommand → List ℕ → List (List ℕ) → Bool → Type 0
PlainAnswers command = AnswersLine (Plain command)

-- the lines at which memory may be wanting for a command that takes none: there are none
abbrev pub PlainWants : PlainCommand → List ℕ → Type 0
PlainWants command = MayWant (Plain command)
