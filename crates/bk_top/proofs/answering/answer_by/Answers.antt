use Rattle.std.proofs.Common.{sym}
use Rattle.bk_answer.specs.declared.command.Command.TheVariants.{Memory, Plain}
use Rattle.bk_top.proofs.CommandAnswers.{ends_as_named}
use Rattle.bk_top.proofs.answering.answer_by.Goals as goal

pub returns-in-Plain-clause-ending : goal.returns-in-Plain-clause-ending
returns-in-Plain-clause-ending g c =
    ends_as_named c.args.command (Plain c.in-Plain.command) _ c.answer_lines.result (sym c.in-Plain.is) c.answer_lines.ensures.ending

pub returns-in-Plain-clause-faults : goal.returns-in-Plain-clause-faults
returns-in-Plain-clause-faults g c = c.answer_lines.ensures.faults

pub returns-in-Memory-clause-ending : goal.returns-in-Memory-clause-ending
returns-in-Memory-clause-ending g c =
    ends_as_named c.args.command (Memory c.in-Memory.command) _ c.answer_lines-in-Memory.result (sym c.in-Memory.is)
    c.answer_lines-in-Memory.ensures.ending

pub returns-in-Memory-clause-faults : goal.returns-in-Memory-clause-faults
returns-in-Memory-clause-faults g c = c.answer_lines-in-Memory.ensures.faults
