use Rattle.std.proofs.Common.{Bor, Option, false, subst}
use Rattle.std.specs.Option.{option_copied}
use Rattle.bk_tiling.specs.Tiling.{Tiling}
use Rattle.bk_answer.specs.CodeAnswer.{AnswersCodeLine, AnswersTiling, any_command, no_item, refuses}
use Rattle.bk_answer.specs.Item.{HasTiling, IsLaidLine}
use Rattle.bk_answer.specs.declared.command.Command.TheVariants.{Plain}
use Rattle.bk_answer.proofs.ItemSteps.{stated_is_a_tiling}
use Rattle.bk_answer.proofs.ReplySteps.{line_answer, refusal_replies, replies_more}
use Rattle.bk_answer.proofs.plain.PlainCommand.answer_line.Goals as goal
use Rattle.bk_ports.proofs.Pieces.{writes_none}

pub answer_tiling-requires : goal.answer_tiling-requires
answer_tiling-requires g c =
    let has : HasTiling c.args.line.now c.in-Ok-Some.tiling.now =
    subst (λ (o : Option (Bor Tiling)). IsLaidLine c.args.line.now (option_copied o)) c.in-Ok-Some.field-0-is c.in-Ok-Some.ensures.laid in
    stated_is_a_tiling has.item c.in-Ok-Some.tiling.now has.stated

pub returns-in-Ok-Some-clause-reply : goal.returns-in-Ok-Some-clause-reply
returns-in-Ok-Some-clause-reply g c =
    let command = Plain c.args.self in
    let has : HasTiling c.args.line.now c.in-Ok-Some.tiling.now =
    subst (λ (o : Option (Bor Tiling)). IsLaidLine c.args.line.now (option_copied o)) c.in-Ok-Some.field-0-is c.in-Ok-Some.ensures.laid in
    replies_more (AnswersTiling command c.in-Ok-Some.tiling.now) (AnswersCodeLine command c.args.line.now) ⊥ ⊥
    (λ pieces refused. line_answer command c.args.line.now c.in-Ok-Some.tiling.now pieces refused has) (λ none. none)
    (g.O.Sink.written c.args.out.now) (g.O.Sink.written c.answer_tiling.new.out) c.answer_tiling.result c.answer_tiling.ensures.reply

pub returns-in-Ok-None-clause-reply : goal.returns-in-Ok-None-clause-reply
returns-in-Ok-None-clause-reply g c =
    writes_none (AnswersCodeLine (Plain c.args.self) c.args.line.now) false (g.O.Sink.written c.args.out.now)
    (no_item (subst (λ (o : Option (Bor Tiling)). IsLaidLine c.args.line.now (option_copied o)) c.in-Ok-None.field-0-is c.in-Ok-None.ensures.laid))

pub returns-in-Err-clause-reply : goal.returns-in-Err-clause-reply
returns-in-Err-clause-reply g c =
    refusal_replies (AnswersCodeLine (Plain c.args.self) c.args.line.now) ⊥ c.in-Err.refused
    (g.O.Sink.written c.args.out.now) (g.O.Sink.written c.refuse.new.out) c.refuse.result
    (refuses c.in-Err.refused (any_command c.in-Err.refused c.in-Err.ensures.refused))
    c.refuse.ensures.outcome c.refuse.ensures.failed

pub returns-in-Ok-Some-clause-cause : goal.returns-in-Ok-Some-clause-cause
returns-in-Ok-Some-clause-cause g c = c.answer_tiling.ensures.cause

pub returns-in-Err-clause-cause : goal.returns-in-Err-clause-cause
returns-in-Err-clause-cause g c = c.refuse.ensures.cause
