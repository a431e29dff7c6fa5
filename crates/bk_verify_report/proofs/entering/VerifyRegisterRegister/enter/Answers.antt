use Rattle.std.proofs.Common.{Bor, Option, [], ap, arith, false, refl, subst, sym, true, ◌+◌, ◌∙◌, ◌∷◌}
use Rattle.std.specs.Option.{option_copied}
use Rattle.std.specs.Prelude.{IfOk, OnErr}
use Rattle.bk_laws.proofs.Outcomes.{if_ok-of_error, on_err-intro}
use Rattle.bk_tiling.specs.Tiling.{Tiling}
use Rattle.bk_report.specs.ListLines.{refused_line}
use Rattle.bk_answer.specs.Item.{IsLaidLine}
use Rattle.bk_ports.specs.WrittenAnswer.{HasOutcome, IsAnswerBegun}
use Rattle.bk_verify_report.proofs.Entered.{begun_one, line_entered_without_a_piece, written_one}
use Rattle.bk_verify_report.specs.ListLine.{CountsAreBelow, EntersLine, MayWantAt, no_item, refuses}
use Rattle.bk_verify_report.specs.declared.entering.Verifying.{Verifying}
use Rattle.bk_verify_report.specs.EmptyIsPassedOver.{counts_below_next}
use Rattle.bk_answer.proofs.Failing.{cause-of_error, cause-of_same}
use Rattle.bk_verify_report.proofs.entering.VerifyRegisterRegister.enter.Goals as goal

pub returns-in-Ok-None-clause-outcome : goal.returns-in-Ok-None-clause-outcome
returns-in-Ok-None-clause-outcome g c =
    let skip = subst (λ (o : Option (Bor Tiling)). IsLaidLine c.args.line.now (option_copied o)) c.in-Ok-None.field-0-is c.in-Ok-None.ensures.laid in
    line_entered_without_a_piece c.args.self.now c.args.number c.args.line.now false c.self.inside.kept (g.O.Sink.written c.args.out.now)
    (g.O.Sink.written c.args.out.now)
    (subst (λ (s : Verifying). EntersLine c.args.self.now c.args.number c.args.line.now (record { pieces = []; refused = false }) s)
    (sym c.self.view_is) (no_item skip)) refl

pub returns-in_ok-write_all-in-Err-clause-outcome : goal.returns-in_ok-write_all-in-Err-clause-outcome
returns-in_ok-write_all-in-Err-clause-outcome g c =
    written_one c.args.self.now c.args.number c.args.line.now true
    (record c.self.inside.kept { lines = record c.self.inside.kept.lines { refused = c.self.inside.kept.lines.refused + 1 } })
    (g.O.Sink.written c.args.out.now) (g.O.Sink.written c.write_all.new.self) (refused_line c.args.number c.in-Err.refused) c.as_slice.result.now
    (c.as_slice.ensures.value ∙ c.write_line_refused.ensures)
    (subst (λ (s : Verifying). EntersLine c.args.self.now c.args.number c.args.line.now
    (record { pieces = refused_line c.args.number c.in-Err.refused ∷ []; refused = true })
    (record s { lines = record s.lines { refused = s.lines.refused + 1 } })) (sym c.self.view_is) (refuses c.in-Err.refused c.in-Err.ensures.refused))
    c.in_ok-write_all-in-Err.ensures.ok

pub returns-in_err-write_all-in-Err-clause-failed : goal.returns-in_err-write_all-in-Err-clause-failed
returns-in_err-write_all-in-Err-clause-failed g c =
    on_err-intro c.from_residual.result
    (begun_one c.args.self.now c.args.number c.args.line.now true
    (record c.args.self.now { lines = record c.args.self.now.lines { refused = c.args.self.now.lines.refused + 1 } })
    (g.O.Sink.written c.args.out.now) (g.O.Sink.written c.write_all.new.self) (refused_line c.args.number c.in-Err.refused) c.as_slice.result.now
    (c.as_slice.ensures.value ∙ c.write_line_refused.ensures) (refuses c.in-Err.refused c.in-Err.ensures.refused) c.in_err-write_all-in-Err.ensures.err)

pub feed-requires-clause-early : goal.feed-requires-clause-early
feed-requires-clause-early g c = c.requires.early

pub feed-requires-clause-ready : goal.feed-requires-clause-ready
feed-requires-clause-ready g c = subst (λ (s : Verifying). CountsAreBelow s c.args.number) (sym c.self.view_is) c.requires.ready

pub overflow_add-self : goal.overflow_add-self
overflow_add-self g c = omega (arith, c.requires.early, c.requires.ready.refused, ap (λ (s : Verifying). s.lines.refused) c.self.view_is)

pub returns-in-Ok-None-clause-cause : goal.returns-in-Ok-None-clause-cause
returns-in-Ok-None-clause-cause g c = cause-of_same refl

pub returns-in-Ok-None-clause-ready : goal.returns-in-Ok-None-clause-ready
returns-in-Ok-None-clause-ready g c =
    counts_below_next c.self.inside.kept c.args.number (subst (λ (s : Verifying). CountsAreBelow s c.args.number) (sym c.self.view_is) c.requires.ready)

pub returns-in-Ok-Some-clause-outcome : goal.returns-in-Ok-Some-clause-outcome
returns-in-Ok-Some-clause-outcome g c =
    let has = subst (λ (o : Option (Bor Tiling)). IsLaidLine c.args.line.now (option_copied o)) c.in-Ok-Some.field-0-is c.in-Ok-Some.ensures.laid in
    subst (λ (s : Verifying). IfOk c.feed.result (λ o. HasOutcome (λ pieces refused. EntersLine s c.args.number c.args.line.now
    (record { pieces = pieces; refused = refused })
    c.feed.new.state)
    (MayWantAt s c.args.number c.args.line.now) (g.O.Sink.written c.args.out.now) (g.O.Sink.written c.feed.new.out) o)) c.self.view_is
    (c.feed.ensures.outcome c.args.line.now has)

pub returns-in-Ok-Some-clause-failed : goal.returns-in-Ok-Some-clause-failed
returns-in-Ok-Some-clause-failed g c =
    let has = subst (λ (o : Option (Bor Tiling)). IsLaidLine c.args.line.now (option_copied o)) c.in-Ok-Some.field-0-is c.in-Ok-Some.ensures.laid in
    subst (λ (s : Verifying). OnErr c.feed.result (IsAnswerBegun (λ pieces refused. (last : Verifying) × EntersLine s c.args.number c.args.line.now
    (record { pieces = pieces; refused = refused }) last)
    (g.O.Sink.written c.args.out.now) (g.O.Sink.written c.feed.new.out)))
    c.self.view_is (c.feed.ensures.failed c.args.line.now has)

pub returns-in-Ok-Some-clause-cause : goal.returns-in-Ok-Some-clause-cause
returns-in-Ok-Some-clause-cause g c = c.feed.ensures.cause

pub returns-in-Ok-Some-clause-ready : goal.returns-in-Ok-Some-clause-ready
returns-in-Ok-Some-clause-ready g c = c.feed.ensures.ready

pub returns-in_err-write_all-in-Err-clause-outcome : goal.returns-in_err-write_all-in-Err-clause-outcome
returns-in_err-write_all-in-Err-clause-outcome g c =
    if_ok-of_error _ c.from_residual.result _ c.from_residual.ensures.1

pub returns-in_err-write_all-in-Err-clause-cause : goal.returns-in_err-write_all-in-Err-clause-cause
returns-in_err-write_all-in-Err-clause-cause g c =
    cause-of_error _ c.from_residual.result c.from_residual.ensures.1 c.in_err-write_all-in-Err.ensures.cause

pub returns-in_err-write_all-in-Err-clause-ready : goal.returns-in_err-write_all-in-Err-clause-ready
returns-in_err-write_all-in-Err-clause-ready g c =
    if_ok-of_error _ c.from_residual.result _ c.from_residual.ensures.1

pub returns-in_ok-write_all-in-Err-clause-cause : goal.returns-in_ok-write_all-in-Err-clause-cause
returns-in_ok-write_all-in-Err-clause-cause g c = cause-of_same c.in_ok-write_all-in-Err.ensures.cause.ok

pub returns-in_ok-write_all-in-Err-clause-ready : goal.returns-in_ok-write_all-in-Err-clause-ready
returns-in_ok-write_all-in-Err-clause-ready g c =
    let ready = c.requires.ready in
    record {
      foreign = omega (arith, ready.foreign, ap (λ (s : Verifying). s.lines.foreign) c.self.view_is);
      repeated = omega (arith, ready.repeated, ap (λ (s : Verifying). s.lines.repeated) c.self.view_is);
      refused = omega (arith, ready.refused, ap (λ (s : Verifying). s.lines.refused) c.self.view_is);
    }
