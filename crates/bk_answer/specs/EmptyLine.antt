-- An empty line has no item, and needs no answer.
use Rattle.std.proofs.Common.{inl, lit≤}
use Rattle.std.specs.Prelude.{[], false, refl}
use Rattle.bk_text.specs.CodeLine.{Skip}
use Rattle.bk_answer.specs.Answer.{AnswersLine}
use Rattle.bk_answer.specs.CodeAnswer.{no_item}
use Rattle.bk_answer.specs.NetAnswer.{no_net_item}
use Rattle.bk_answer.specs.WordAnswer.{no_word_item}
use Rattle.bk_answer.specs.Item.{HasItem}
use Rattle.bk_answer.specs.Plain.{PlainAnswers}
use Rattle.bk_answer.specs.declared.plain.PlainCommand.{PlainCommand}
use Rattle.bk_answer.specs.declared.command.Command.{Command}
use Rattle.bk_answer.specs.declared.command.Command.TheVariants.{Memory, Plain}
use Rattle.bk_answer.specs.declared.command.MemoryCommand.TheVariants.{Flow, Solve, Word}

-- an empty line has no item
pub empty_has_none : HasItem [] Skip
empty_has_none = record { short = lit≤ tt; meaning = ([], [], refl, tt, inl refl); few = lit≤ tt }

pub no_answer_to_empty : (command : Command) → AnswersLine command [] [] false
no_answer_to_empty (Plain command) = no_item empty_has_none
no_answer_to_empty (Memory Word) = no_item empty_has_none
no_answer_to_empty (Memory Flow) = no_net_item (record { short = lit≤ tt; meaning = ([], [], refl, tt, inl refl) })
no_answer_to_empty (Memory Solve) = no_word_item (lit≤ tt) ([], [], refl, tt, inl refl)

pub no_plain_answer_to_empty : (command : PlainCommand) → PlainAnswers command [] [] false
no_plain_answer_to_empty command = no_answer_to_empty (Plain command)
