use Rattle.bk_report.specs.declared.refusal.Refused.TheVariants.{Long}
use Rattle.std.proofs.Common.{[], arith, false, length, subst, sym, true, ◌<◌, ◌∷◌}
use Rattle.bk_ports.proofs.Pieces.{writes_none}
use Rattle.bk_net.specs.Net.{HasNoLoose}
use Rattle.bk_net.specs.NetLine.{IsNetLine}
use Rattle.bk_net.specs.ReadNet.{IsKeptLine, net_line_of}
use Rattle.bk_net.specs.declared.NetLine.{NetLine}
use Rattle.bk_report.specs.Refusals.{refusal_line}
use Rattle.bk_report.specs.declared.refusal.Refused.{Refused}
use Rattle.bk_answer.specs.Answer.{MayWant}
use Rattle.bk_answer.specs.NetAnswer.{AnswersNet, AnswersNetLine, HasNet, net_too_long, no_net, no_net_item, of_net}
use Rattle.bk_answer.specs.declared.command.Command.TheVariants.{Memory}
use Rattle.bk_answer.specs.declared.command.MemoryCommand.TheVariants.{Flow}
use Rattle.bk_answer.proofs.ReplySteps.{refusal_replies, replies_more}
use Rattle.bk_answer.proofs.flow.answer_net_line.Goals as goal

pub returns-in-Ok-Skip-clause-reply : goal.returns-in-Ok-Skip-clause-reply
returns-in-Ok-Skip-clause-reply g c =
    writes_none (AnswersNetLine c.args.line.now) false (g.O.Sink.written c.args.out.now) (no_net_item (record {
      short = omega (arith, c.if-line-gt-LONGEST_LINE.false);
      meaning = subst (λ (l : NetLine). IsNetLine (net_line_of l) c.args.line.now) c.in-Ok-Skip.field-0-is c.in-Ok-Skip.ensures.read;
    }))

pub returns-in-Ok-Item-clause-reply : goal.returns-in-Ok-Item-clause-reply
returns-in-Ok-Item-clause-reply g c =
    let has : HasNet c.args.line.now c.in-Ok-Item.net = record {
      item = record {
        short = omega (arith, c.if-line-gt-LONGEST_LINE.false);
        meaning = subst (λ (l : NetLine). IsNetLine (net_line_of l) c.args.line.now) c.in-Ok-Item.field-0-is c.in-Ok-Item.ensures.read;
      };
      kept = subst IsKeptLine c.in-Ok-Item.field-0-is c.in-Ok-Item.ensures.kept;
    } in
    replies_more (AnswersNet c.in-Ok-Item.net) (AnswersNetLine c.args.line.now)
    (HasNoLoose c.in-Ok-Item.net × (16 < length c.in-Ok-Item.net.wires)) (MayWant (Memory Flow) c.args.line.now)
    (λ pieces refused. of_net c.in-Ok-Item.net pieces refused has) (λ w. (c.in-Ok-Item.net, has, w.0, w.1))
    (g.O.Sink.written c.args.out.now) (g.O.Sink.written c.answer_net.new.out) c.answer_net.result c.answer_net.ensures.reply

pub returns-in-Err-clause-reply : goal.returns-in-Err-clause-reply
returns-in-Err-clause-reply g c =
    refusal_replies (AnswersNetLine c.args.line.now) (MayWant (Memory Flow) c.args.line.now) c.refused_net.result (g.O.Sink.written c.args.out.now)
    (g.O.Sink.written c.refuse-in-Err.new.out) c.refuse-in-Err.result
    (subst (λ (r : Refused). AnswersNetLine c.args.line.now (refusal_line r ∷ []) true) (sym c.refused_net.ensures)
    (no_net c.in-Err.fault (omega (arith, c.if-line-gt-LONGEST_LINE.false)) c.in-Err.ensures.fault))
    c.refuse-in-Err.ensures.outcome c.refuse-in-Err.ensures.failed

pub returns-then-line-gt-LONGEST_LINE-clause-reply : goal.returns-then-line-gt-LONGEST_LINE-clause-reply
returns-then-line-gt-LONGEST_LINE-clause-reply g c =
    refusal_replies (AnswersNetLine c.args.line.now) (MayWant (Memory Flow) c.args.line.now) Long (g.O.Sink.written c.args.out.now)
    (g.O.Sink.written c.refuse.new.out) c.refuse.result (net_too_long c.if-line-gt-LONGEST_LINE.true) c.refuse.ensures.outcome c.refuse.ensures.failed

pub returns-in-Ok-Item-clause-cause : goal.returns-in-Ok-Item-clause-cause
returns-in-Ok-Item-clause-cause g c = c.answer_net.ensures.cause

pub returns-in-Err-clause-cause : goal.returns-in-Err-clause-cause
returns-in-Err-clause-cause g c = c.refuse-in-Err.ensures.cause

pub returns-then-line-gt-LONGEST_LINE-clause-cause : goal.returns-then-line-gt-LONGEST_LINE-clause-cause
returns-then-line-gt-LONGEST_LINE-clause-cause g c = c.refuse.ensures.cause
