-- The word is realised, and the tiling or the refusal is written.
use Rattle.std.proofs.Common.{arith, length, lit<, refl, subst, ◌<◌, ◌∙◌}
use Rattle.bk_laws.proofs.Bytes.{keeps-itself}
use Rattle.bk_word.specs.Play.{IsComplete, IsLegal, outline_of}
use Rattle.bk_word.specs.Word.{order_of}
use Rattle.bk_word_net.specs.Realised.{IsRealised}
use Rattle.bk_skel.specs.RealisedIn.{tiling_found}
use Rattle.bk_skel.specs.SolveRefusal.{IsSolveFault}
use Rattle.bk_skel.specs.declared.placing.Realised.{Realised}
use Rattle.bk_skel.specs.WideWord.{IsWideWord}
use Rattle.bk_report.specs.Answers.{tiling_line}
use Rattle.bk_report.specs.declared.refusal.Refused.TheVariants.{Illegal, Nothing, Unfinished, Wide}
use Rattle.bk_answer.specs.WordAnswer.{AnswersWord, illegal, no_tiling, realised, unfinished, wide_word}
use Rattle.bk_answer.proofs.ReplySteps.{refusal_replies}
use Rattle.bk_answer.proofs.Writing.{cause_told, piece_replies}
use Rattle.bk_answer.proofs.solve.answer_word.Goals as goal

pub returns-in-Ok-Found-clause-reply : goal.returns-in-Ok-Found-clause-reply
returns-in-Ok-Found-clause-reply g c =
    piece_replies (AnswersWord c.args.word.now) (16 < order_of c.args.word.now) (g.O.Sink.written c.args.out.now)
    (g.O.Sink.written c.write_all.new.self)
    (tiling_line c.realise_in.new.tiling) c.as_slice.result.now c.write_all.result c.accepted.result
    (realised c.realise_in.new.tiling c.in-Ok-Found.ensures.complete c.in-Ok-Found.ensures.narrow
    (subst (λ (found : Realised). IsRealised c.args.word.now (tiling_found found c.realise_in.new.tiling))
    c.in-Ok-Found.field-0-is c.in-Ok-Found.ensures.realised))
    (c.as_slice.ensures.value ∙ c.write_tiling.ensures) c.write_all.ensures.ok c.write_all.ensures.err c.accepted.ensures

pub returns-in-Ok-Nothing-clause-reply : goal.returns-in-Ok-Nothing-clause-reply
returns-in-Ok-Nothing-clause-reply g c =
    refusal_replies (AnswersWord c.args.word.now) (16 < order_of c.args.word.now) Nothing (g.O.Sink.written c.args.out.now)
    (g.O.Sink.written c.refuse.new.out) c.refuse.result
    (no_tiling c.in-Ok-Nothing.ensures.complete c.in-Ok-Nothing.ensures.narrow
    (subst (λ (found : Realised). IsRealised c.args.word.now (tiling_found found c.realise_in.new.tiling))
    c.in-Ok-Nothing.field-0-is c.in-Ok-Nothing.ensures.realised))
    c.refuse.ensures.outcome c.refuse.ensures.failed

pub returns-in-Err-Illegal-clause-reply : goal.returns-in-Err-Illegal-clause-reply
returns-in-Err-Illegal-clause-reply g c =
    refusal_replies (AnswersWord c.args.word.now) (16 < order_of c.args.word.now) (Illegal c.in-Err-Illegal.place)
    (g.O.Sink.written c.args.out.now) (g.O.Sink.written c.refuse-in-Err-Illegal.new.out) c.refuse-in-Err-Illegal.result
    (illegal c.in-Err-Illegal.place (subst (IsSolveFault c.args.word.now) c.in-Err-Illegal.field-0-is c.in-Err-Illegal.ensures.refused))
    c.refuse-in-Err-Illegal.ensures.outcome c.refuse-in-Err-Illegal.ensures.failed

pub returns-in-Err-OpenEnd-clause-reply : goal.returns-in-Err-OpenEnd-clause-reply
returns-in-Err-OpenEnd-clause-reply g c =
    let cause : IsLegal c.args.word.now × (1 < length (outline_of c.args.word.now).segments) =
    subst (IsSolveFault c.args.word.now) c.in-Err-OpenEnd.field-0-is c.in-Err-OpenEnd.ensures.refused in
    refusal_replies (AnswersWord c.args.word.now) (16 < order_of c.args.word.now) Unfinished (g.O.Sink.written c.args.out.now)
    (g.O.Sink.written c.refuse-in-Err-OpenEnd.new.out) c.refuse-in-Err-OpenEnd.result
    (unfinished cause.0 cause.1)
    c.refuse-in-Err-OpenEnd.ensures.outcome c.refuse-in-Err-OpenEnd.ensures.failed

pub returns-in-Err-Wide-clause-reply : goal.returns-in-Err-Wide-clause-reply
returns-in-Err-Wide-clause-reply g c =
    let cause : IsComplete c.args.word.now × IsWideWord c.args.word.now =
    subst (IsSolveFault c.args.word.now) c.in-Err-Wide.field-0-is c.in-Err-Wide.ensures.refused in
    refusal_replies (AnswersWord c.args.word.now) (16 < order_of c.args.word.now) Wide (g.O.Sink.written c.args.out.now)
    (g.O.Sink.written c.refuse-in-Err-Wide.new.out) c.refuse-in-Err-Wide.result
    (wide_word cause.0 cause.1)
    c.refuse-in-Err-Wide.ensures.outcome c.refuse-in-Err-Wide.ensures.failed

pub returns-in-Ok-Found-clause-cause : goal.returns-in-Ok-Found-clause-cause
returns-in-Ok-Found-clause-cause g c =
    cause_told (g.O.Sink.faults c.args.out.now) (g.O.Sink.faults c.write_all.new.self) c.write_all.result c.accepted.result c.write_all.ensures.cause
    c.accepted.ensures

pub returns-in-Ok-Nothing-clause-cause : goal.returns-in-Ok-Nothing-clause-cause
returns-in-Ok-Nothing-clause-cause g c = c.refuse.ensures.cause

pub returns-in-Err-Illegal-clause-cause : goal.returns-in-Err-Illegal-clause-cause
returns-in-Err-Illegal-clause-cause g c = c.refuse-in-Err-Illegal.ensures.cause

pub returns-in-Err-OpenEnd-clause-cause : goal.returns-in-Err-OpenEnd-clause-cause
returns-in-Err-OpenEnd-clause-cause g c = c.refuse-in-Err-OpenEnd.ensures.cause

pub returns-in-Err-Wide-clause-cause : goal.returns-in-Err-Wide-clause-cause
returns-in-Err-Wide-clause-cause g c = c.refuse-in-Err-Wide.ensures.cause

pub realise_in-requires : goal.realise_in-requires
realise_in-requires g c = c.requires

pub as_slice-requires : goal.as_slice-requires
as_slice-requires g c = lit< tt

pub returns-in-Err-NoMemory-clause-reply : goal.returns-in-Err-NoMemory-clause-reply
returns-in-Err-NoMemory-clause-reply g c =
    let fault = subst (IsSolveFault c.args.word.now) c.in-Err-NoMemory.field-0-is c.in-Err-NoMemory.ensures.refused in
    record { cause = fault.1; kept = keeps-itself (g.O.Sink.written c.args.out.now) }

pub returns-in-Err-NoMemory-clause-cause : goal.returns-in-Err-NoMemory-clause-cause
returns-in-Err-NoMemory-clause-cause g c = record { later = omega arith; ok = refl; failed = tt }
