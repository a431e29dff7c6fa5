use Rattle.std.proofs.Common.{Bor, Option, false, subst, ◌<◌}
use Rattle.std.specs.Option.{option_copied}
use Rattle.bk_tiling.specs.Tiling.{Tiling, order}
use Rattle.bk_answer.specs.Answer.{MayWant}
use Rattle.bk_answer.specs.CodeAnswer.{AnswersCodeLine, any_command, no_item, refuses}
use Rattle.bk_answer.specs.Item.{HasTiling, IsLaidLine}
use Rattle.bk_answer.specs.Telling.{TellsPieces}
use Rattle.bk_answer.specs.declared.command.Command.TheVariants.{Memory}
use Rattle.bk_answer.specs.declared.command.MemoryCommand.TheVariants.{Word}
use Rattle.bk_answer.proofs.ItemSteps.{stated_is_a_tiling}
use Rattle.bk_answer.proofs.ReplySteps.{line_answer, refusal_replies, replies_more, tells_tiling}
use Rattle.bk_answer.proofs.by_word.answer_by_word.Goals as goal
use Rattle.bk_ports.proofs.Pieces.{writes_none}

pub tell_word-requires : goal.tell_word-requires
tell_word-requires g c =
    let has : HasTiling c.args.line.now c.in-Ok-Some.tiling.now =
    subst (λ (o : Option (Bor Tiling)). IsLaidLine c.args.line.now (option_copied o)) c.in-Ok-Some.field-0-is c.in-Ok-Some.ensures.laid in
    stated_is_a_tiling has.item c.in-Ok-Some.tiling.now has.stated

pub returns-in-Ok-Some-clause-reply : goal.returns-in-Ok-Some-clause-reply
returns-in-Ok-Some-clause-reply g c =
    let has : HasTiling c.args.line.now c.in-Ok-Some.tiling.now =
    subst (λ (o : Option (Bor Tiling)). IsLaidLine c.args.line.now (option_copied o)) c.in-Ok-Some.field-0-is c.in-Ok-Some.ensures.laid in
    replies_more (TellsPieces (Memory Word) c.in-Ok-Some.tiling.now) (AnswersCodeLine (Memory Word) c.args.line.now)
    (16 < order c.in-Ok-Some.tiling.now) (MayWant (Memory Word) c.args.line.now)
    (λ pieces refused told. line_answer (Memory Word) c.args.line.now c.in-Ok-Some.tiling.now pieces refused has
    (tells_tiling (Memory Word) c.in-Ok-Some.tiling.now pieces refused tt told)) (λ w. (c.in-Ok-Some.tiling.now, has, w))
    (g.O.Sink.written c.args.out.now) (g.O.Sink.written c.tell_word.new.out) c.tell_word.result c.tell_word.ensures.reply

pub returns-in-Ok-None-clause-reply : goal.returns-in-Ok-None-clause-reply
returns-in-Ok-None-clause-reply g c =
    writes_none (AnswersCodeLine (Memory Word) c.args.line.now) false (g.O.Sink.written c.args.out.now)
    (no_item (subst (λ (o : Option (Bor Tiling)). IsLaidLine c.args.line.now (option_copied o)) c.in-Ok-None.field-0-is c.in-Ok-None.ensures.laid))

pub returns-in-Err-clause-reply : goal.returns-in-Err-clause-reply
returns-in-Err-clause-reply g c =
    refusal_replies (AnswersCodeLine (Memory Word) c.args.line.now) (MayWant (Memory Word) c.args.line.now) c.in-Err.refused
    (g.O.Sink.written c.args.out.now) (g.O.Sink.written c.refuse.new.out) c.refuse.result
    (refuses c.in-Err.refused (any_command c.in-Err.refused c.in-Err.ensures.refused))
    c.refuse.ensures.outcome c.refuse.ensures.failed

pub returns-in-Ok-Some-clause-cause : goal.returns-in-Ok-Some-clause-cause
returns-in-Ok-Some-clause-cause g c = c.tell_word.ensures.cause

pub returns-in-Err-clause-cause : goal.returns-in-Err-clause-cause
returns-in-Err-clause-cause g c = c.refuse.ensures.cause
