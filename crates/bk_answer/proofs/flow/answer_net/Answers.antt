use Rattle.std.proofs.Common.{length, subst, ◌<◌, ◌∙◌}
use Rattle.bk_net.specs.Net.{HasNoLoose}
use Rattle.bk_flow.specs.RefusedNet.{IsRefusedFor}
use Rattle.bk_flow.specs.Wide.{IsWide}
use Rattle.bk_flow.specs.declared.FlowFault.{FlowFault}
use Rattle.bk_report.specs.Answers.{flow_line}
use Rattle.bk_report.specs.declared.refusal.Refused.TheVariants.{Loose, Wide}
use Rattle.bk_answer.specs.NetAnswer.{AnswersNet, loose, solved, wide}
use Rattle.bk_answer.proofs.ReplySteps.{refusal_replies}
use Rattle.bk_answer.proofs.Writing.{cause_told, piece_replies}
use Rattle.bk_answer.proofs.flow.answer_net.Goals as goal

pub returns-in-Ok-clause-reply : goal.returns-in-Ok-clause-reply
returns-in-Ok-clause-reply g c =
    piece_replies (AnswersNet c.args.net.now) (HasNoLoose c.args.net.now × (16 < length c.args.net.now.wires))
    (g.O.Sink.written c.args.out.now) (g.O.Sink.written c.write_all.new.self)
    (flow_line c.in-Ok.flow) c.as_slice.result.now c.write_all.result c.accepted.result
    (solved c.in-Ok.flow c.in-Ok.ensures.joined c.in-Ok.ensures.narrow c.in-Ok.ensures.flow)
    (c.as_slice.ensures.value ∙ c.write_flow.ensures) c.write_all.ensures.ok c.write_all.ensures.err c.accepted.ensures

pub returns-in-Err-Loose-clause-reply : goal.returns-in-Err-Loose-clause-reply
returns-in-Err-Loose-clause-reply g c =
    refusal_replies (AnswersNet c.args.net.now) (HasNoLoose c.args.net.now × (16 < length c.args.net.now.wires))
    (Loose c.in-Err-Loose.node) (g.O.Sink.written c.args.out.now)
    (g.O.Sink.written c.refuse.new.out) c.refuse.result
    (loose c.in-Err-Loose.node (subst (λ (f : FlowFault). IsRefusedFor f c.args.net.now) c.in-Err-Loose.field-0-is c.in-Err-Loose.ensures.refused))
    c.refuse.ensures.outcome c.refuse.ensures.failed

pub returns-in-Err-Wide-clause-reply : goal.returns-in-Err-Wide-clause-reply
returns-in-Err-Wide-clause-reply g c =
    let cause : HasNoLoose c.args.net.now × IsWide c.args.net.now =
    subst (λ (f : FlowFault). IsRefusedFor f c.args.net.now) c.in-Err-Wide.field-0-is c.in-Err-Wide.ensures.refused in
    refusal_replies (AnswersNet c.args.net.now) (HasNoLoose c.args.net.now × (16 < length c.args.net.now.wires))
    Wide (g.O.Sink.written c.args.out.now)
    (g.O.Sink.written c.refuse-in-Err-Wide.new.out) c.refuse-in-Err-Wide.result
    (wide cause.0 cause.1) c.refuse-in-Err-Wide.ensures.outcome c.refuse-in-Err-Wide.ensures.failed

pub returns-in-Ok-clause-cause : goal.returns-in-Ok-clause-cause
returns-in-Ok-clause-cause g c =
    cause_told (g.O.Sink.faults c.args.out.now) (g.O.Sink.faults c.write_all.new.self) c.write_all.result c.accepted.result c.write_all.ensures.cause
    c.accepted.ensures

pub returns-in-Err-Loose-clause-cause : goal.returns-in-Err-Loose-clause-cause
returns-in-Err-Loose-clause-cause g c = c.refuse.ensures.cause

pub returns-in-Err-Wide-clause-cause : goal.returns-in-Err-Wide-clause-cause
returns-in-Err-Wide-clause-cause g c = c.refuse-in-Err-Wide.ensures.cause
