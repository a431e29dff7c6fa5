use Rattle.std.proofs.Common.{refl}
use Rattle.std.proofs.lemmas.Bool.{both_ways}
use Rattle.bk_answer.specs.CodeAnswer.{AnswersTiling}
use Rattle.bk_answer.specs.declared.command.Command.TheVariants.{Plain}
use Rattle.bk_answer.specs.Telling.{TellsPieces}
use Rattle.bk_answer.proofs.ReplySteps.{refusal_replies, replies_more, tells_tiling}
use Rattle.bk_answer.proofs.plain.PlainCommand.answer_tiling.Goals as goal
use Rattle.bk_report.specs.declared.refusal.Refused.TheVariants.{Large}

pub returns-then-not-allows-clause-reply : goal.returns-then-not-allows-clause-reply
returns-then-not-allows-clause-reply g c =
    refusal_replies (AnswersTiling (Plain c.args.self) c.args.tiling.now) ⊥ Large
    (g.O.Sink.written c.args.out.now)
    (g.O.Sink.written c.refuse.new.out) c.refuse.result
    ((λ h. both_ways c.allows.result c.if-not-allows.true (c.allows.ensures.1 h)), refl)
    c.refuse.ensures.outcome c.refuse.ensures.failed

pub returns-clause-reply : goal.returns-clause-reply
returns-clause-reply g c =
    replies_more (TellsPieces (Plain c.args.self) c.args.tiling.now) (AnswersTiling (Plain c.args.self) c.args.tiling.now)
    ⊥
    ⊥
    (λ pieces refused. tells_tiling (Plain c.args.self) c.args.tiling.now pieces refused (c.allows.ensures.0 c.if-not-allows.false)) (λ w. w)
    (g.O.Sink.written c.args.out.now) (g.O.Sink.written c.tell.new.out) c.tell.result c.tell.ensures.reply

pub returns-then-not-allows-clause-cause : goal.returns-then-not-allows-clause-cause
returns-then-not-allows-clause-cause g c = c.refuse.ensures.cause

pub returns-clause-cause : goal.returns-clause-cause
returns-clause-cause g c = c.tell.ensures.cause
