-- What a command answers to a line.
-- Example (CodeAnswerExamples): `draw` answers `[2,1][1]` by three rows; at no line memory is wanting for `check`.
use Rattle.std.specs.Prelude.{Bool, List, length, ℕ, ◌<◌}
use Rattle.bk_tiling.specs.Tiling.{Tiling, order}
use Rattle.bk_net.specs.Net.{HasNoLoose, Net}
use Rattle.bk_flow.specs.declared.TheConstants.{MOST_SMALL_WIRES}
use Rattle.bk_word.specs.Word.{Word as Moves, order_of}
use Rattle.bk_word.specs.declared.TheConstants.{INLINE_ORDER}
use Rattle.bk_answer.specs.CodeAnswer.{AnswersCodeLine}
use Rattle.bk_answer.specs.Item.{HasTiling}
use Rattle.bk_answer.specs.NetAnswer.{AnswersNetLine, HasNet}
use Rattle.bk_answer.specs.WordAnswer.{AnswersWordLine, HasWord}
use Rattle.bk_answer.specs.declared.command.Command.{Command}
use Rattle.bk_answer.specs.declared.command.Command.TheVariants.{Memory, Plain}
use Rattle.bk_answer.specs.declared.command.MemoryCommand.TheVariants.{Flow, Solve, Word}

-- the answer to a line: the pieces that are written, each by one call, and whether they are the text of a refusal
abbrev pub AnswersLine : Command → List ℕ → List (List ℕ) → Bool → Type 0
AnswersLine (Plain command) = AnswersCodeLine (Plain command)
AnswersLine (Memory Word) = AnswersCodeLine (Memory Word)
AnswersLine (Memory Flow) = AnswersNetLine
AnswersLine (Memory Solve) = AnswersWordLine

-- the lines at which memory may be wanting: none, but `word` takes memory for a tiling of more than 16 squares, `flow`
-- for a net of more than 16 wires without a loose node, and `solve` for a word of more than 16 squares
abbrev pub MayWant : Command → List ℕ → Type 0
MayWant (Plain command) line = ⊥
MayWant (Memory Word) line = (t : Tiling) × HasTiling line t × (INLINE_ORDER < order t)
MayWant (Memory Flow) line = (net : Net) × HasNet line net × HasNoLoose net × (MOST_SMALL_WIRES < length net.wires)
MayWant (Memory Solve) line = (w : Moves) × HasWord line w × (INLINE_ORDER < order_of w)
