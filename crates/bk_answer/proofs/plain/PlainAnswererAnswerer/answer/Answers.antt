use Rattle.std.proofs.Common.{refl}
use Rattle.bk_answer.specs.declared.command.Command.TheVariants.{Plain}
use Rattle.bk_answer.proofs.ReplySteps.{reply_says}
use Rattle.bk_answer.proofs.plain.PlainAnswererAnswerer.answer.Goals as goal

pub returns-clause-outcome : goal.returns-clause-outcome
returns-clause-outcome g c =
    (reply_says (Plain c.args.self.now.command) (Plain c.args.self.now.command) c.args.line.now
    (g.O.Sink.written c.args.out.now) (g.O.Sink.written c.answer_line.new.out) c.answer_line.result refl c.answer_line.ensures.reply).0

pub returns-clause-failed : goal.returns-clause-failed
returns-clause-failed g c =
    (reply_says (Plain c.args.self.now.command) (Plain c.args.self.now.command) c.args.line.now
    (g.O.Sink.written c.args.out.now) (g.O.Sink.written c.answer_line.new.out) c.answer_line.result refl c.answer_line.ensures.reply).1
