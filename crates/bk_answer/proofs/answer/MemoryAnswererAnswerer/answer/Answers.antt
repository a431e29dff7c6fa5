-- Each command answers by a function of its own.
use Rattle.std.proofs.Common.{ap}
use Rattle.bk_answer.specs.declared.command.Command.TheVariants.{Memory}
use Rattle.bk_answer.proofs.ReplySteps.{reply_says}
use Rattle.bk_answer.proofs.answer.MemoryAnswererAnswerer.answer.Goals as goal

pub returns-in-Word-clause-outcome : goal.returns-in-Word-clause-outcome
returns-in-Word-clause-outcome g c =
    (reply_says (Memory c.args.self.now.command) _ c.args.line.now (g.O.Sink.written c.args.out.now) (g.O.Sink.written c.answer_by_word.new.out)
    c.answer_by_word.result (ap Memory c.in-Word.is) c.answer_by_word.ensures.reply).0

pub returns-in-Word-clause-failed : goal.returns-in-Word-clause-failed
returns-in-Word-clause-failed g c =
    (reply_says (Memory c.args.self.now.command) _ c.args.line.now (g.O.Sink.written c.args.out.now) (g.O.Sink.written c.answer_by_word.new.out)
    c.answer_by_word.result (ap Memory c.in-Word.is) c.answer_by_word.ensures.reply).1

pub returns-in-Word-clause-cause : goal.returns-in-Word-clause-cause
returns-in-Word-clause-cause g c = c.answer_by_word.ensures.cause

pub returns-in-Flow-clause-outcome : goal.returns-in-Flow-clause-outcome
returns-in-Flow-clause-outcome g c =
    (reply_says (Memory c.args.self.now.command) _ c.args.line.now (g.O.Sink.written c.args.out.now) (g.O.Sink.written c.answer_net_line.new.out)
    c.answer_net_line.result (ap Memory c.in-Flow.is) c.answer_net_line.ensures.reply).0

pub returns-in-Flow-clause-failed : goal.returns-in-Flow-clause-failed
returns-in-Flow-clause-failed g c =
    (reply_says (Memory c.args.self.now.command) _ c.args.line.now (g.O.Sink.written c.args.out.now) (g.O.Sink.written c.answer_net_line.new.out)
    c.answer_net_line.result (ap Memory c.in-Flow.is) c.answer_net_line.ensures.reply).1

pub returns-in-Flow-clause-cause : goal.returns-in-Flow-clause-cause
returns-in-Flow-clause-cause g c = c.answer_net_line.ensures.cause

pub returns-in-Solve-clause-outcome : goal.returns-in-Solve-clause-outcome
returns-in-Solve-clause-outcome g c =
    (reply_says (Memory c.args.self.now.command) _ c.args.line.now (g.O.Sink.written c.args.out.now) (g.O.Sink.written c.answer_word_line.new.out)
    c.answer_word_line.result (ap Memory c.in-Solve.is) c.answer_word_line.ensures.reply).0

pub returns-in-Solve-clause-failed : goal.returns-in-Solve-clause-failed
returns-in-Solve-clause-failed g c =
    (reply_says (Memory c.args.self.now.command) _ c.args.line.now (g.O.Sink.written c.args.out.now) (g.O.Sink.written c.answer_word_line.new.out)
    c.answer_word_line.result (ap Memory c.in-Solve.is) c.answer_word_line.ensures.reply).1

pub returns-in-Solve-clause-cause : goal.returns-in-Solve-clause-cause
returns-in-Solve-clause-cause g c = c.answer_word_line.ensures.cause
