use Rattle.std.proofs.Common.{arith, false, lit<, refl, subst, ◌+◌, ◌∙◌}
use Rattle.std.proofs.KnownBytes.{Keeps-refl}
use Rattle.bk_laws.proofs.Outcomes.{if_ok-of_error, on_err-intro}
use Rattle.bk_report.specs.ListLines.{foreign_line, repeats_line}
use Rattle.bk_verify_report.specs.KeptEntries.{IsFed}
use Rattle.bk_verify_report.specs.declared.entries.Fed.{Fed}
use Rattle.bk_verify_report.specs.declared.entries.Fed.TheVariants.{Foreign, New, Repeats}
use Rattle.bk_verify_report.proofs.Entered.{begun_one, line_entered_without_a_piece, written_one}
use Rattle.bk_verify_report.specs.ListLine.{feeds}
use Rattle.bk_answer.proofs.Failing.{cause-of_error, cause-of_same}
use Rattle.bk_verify_report.proofs.entering.feed.Goals as goal

pub returns-in-Ok-New-clause-outcome : goal.returns-in-Ok-New-clause-outcome
returns-in-Ok-New-clause-outcome g c line has =
    let fed = subst (λ (f : Fed). IsFed c.args.state.now.entries c.args.number c.args.tiling.now f c.feed.new.self) c.in-Ok-New.field-0-is
    c.in-Ok-New.ensures.fed in
    line_entered_without_a_piece c.args.state.now c.args.number line false (record c.args.state.now { entries = c.feed.new.self })
    (g.O.Sink.written c.args.out.now) (g.O.Sink.written c.args.out.now)
    (feeds c.args.tiling.now New c.feed.new.self has fed) refl

pub returns-in_ok-write_all-in-Ok-Repeats-clause-outcome : goal.returns-in_ok-write_all-in-Ok-Repeats-clause-outcome
returns-in_ok-write_all-in-Ok-Repeats-clause-outcome g c line has =
    let fed = subst (λ (f : Fed). IsFed c.args.state.now.entries c.args.number c.args.tiling.now f c.feed.new.self) c.in-Ok-Repeats.field-0-is
    c.in-Ok-Repeats.ensures.fed in
    written_one c.args.state.now c.args.number line false (record c.args.state.now
    { entries = c.feed.new.self; lines = record c.args.state.now.lines { repeated = c.args.state.now.lines.repeated + 1 } })
    (g.O.Sink.written c.args.out.now) (g.O.Sink.written c.write_all.new.self) (repeats_line c.args.number c.in-Ok-Repeats.first) c.as_slice.result.now
    (c.as_slice.ensures.value ∙ c.write_repeats.ensures) (feeds c.args.tiling.now (Repeats c.in-Ok-Repeats.first) c.feed.new.self has fed)
    c.in_ok-write_all-in-Ok-Repeats.ensures.ok

pub returns-in_err-write_all-in-Ok-Repeats-clause-failed : goal.returns-in_err-write_all-in-Ok-Repeats-clause-failed
returns-in_err-write_all-in-Ok-Repeats-clause-failed g c line has =
    let fed = subst (λ (f : Fed). IsFed c.args.state.now.entries c.args.number c.args.tiling.now f c.feed.new.self) c.in-Ok-Repeats.field-0-is
    c.in-Ok-Repeats.ensures.fed in
    on_err-intro c.from_residual.result
    (begun_one c.args.state.now c.args.number line false (record c.args.state.now
    { entries = c.feed.new.self; lines = record c.args.state.now.lines { repeated = c.args.state.now.lines.repeated + 1 } })
    (g.O.Sink.written c.args.out.now) (g.O.Sink.written c.write_all.new.self) (repeats_line c.args.number c.in-Ok-Repeats.first) c.as_slice.result.now
    (c.as_slice.ensures.value ∙ c.write_repeats.ensures) (feeds c.args.tiling.now (Repeats c.in-Ok-Repeats.first) c.feed.new.self has fed)
    c.in_err-write_all-in-Ok-Repeats.ensures.err)

pub returns-in_ok-write_all-in-Ok-Foreign-clause-outcome : goal.returns-in_ok-write_all-in-Ok-Foreign-clause-outcome
returns-in_ok-write_all-in-Ok-Foreign-clause-outcome g c line has =
    let fed = subst (λ (f : Fed). IsFed c.args.state.now.entries c.args.number c.args.tiling.now f c.feed.new.self) c.in-Ok-Foreign.field-0-is
    c.in-Ok-Foreign.ensures.fed in
    written_one c.args.state.now c.args.number line false (record c.args.state.now
    { entries = c.feed.new.self; lines = record c.args.state.now.lines { foreign = c.args.state.now.lines.foreign + 1 } })
    (g.O.Sink.written c.args.out.now) (g.O.Sink.written c.write_all-in-Ok-Foreign.new.self) (foreign_line c.args.number) c.as_slice-in-Ok-Foreign.result.now
    (c.as_slice-in-Ok-Foreign.ensures.value ∙ c.write_foreign.ensures) (feeds c.args.tiling.now Foreign c.feed.new.self has fed)
    c.in_ok-write_all-in-Ok-Foreign.ensures.ok

pub returns-in_err-write_all-in-Ok-Foreign-clause-failed : goal.returns-in_err-write_all-in-Ok-Foreign-clause-failed
returns-in_err-write_all-in-Ok-Foreign-clause-failed g c line has =
    let fed = subst (λ (f : Fed). IsFed c.args.state.now.entries c.args.number c.args.tiling.now f c.feed.new.self) c.in-Ok-Foreign.field-0-is
    c.in-Ok-Foreign.ensures.fed in
    on_err-intro c.from_residual-in_err-write_all-in-Ok-Foreign.result
    (begun_one c.args.state.now c.args.number line false (record c.args.state.now
    { entries = c.feed.new.self; lines = record c.args.state.now.lines { foreign = c.args.state.now.lines.foreign + 1 } })
    (g.O.Sink.written c.args.out.now) (g.O.Sink.written c.write_all-in-Ok-Foreign.new.self) (foreign_line c.args.number) c.as_slice-in-Ok-Foreign.result.now
    (c.as_slice-in-Ok-Foreign.ensures.value ∙ c.write_foreign.ensures) (feeds c.args.tiling.now Foreign c.feed.new.self has fed)
    c.in_err-write_all-in-Ok-Foreign.ensures.err)

pub returns-in-Err-clause-cause : goal.returns-in-Err-clause-cause
returns-in-Err-clause-cause g c = cause-of_same refl

pub returns-in-Err-clause-ready : goal.returns-in-Err-clause-ready
returns-in-Err-clause-ready g c =
    let ready = c.requires.ready in
    record { foreign = omega (arith, ready.foreign); repeated = omega (arith, ready.repeated); refused = omega (arith, ready.refused) }

pub returns-in-Ok-New-clause-cause : goal.returns-in-Ok-New-clause-cause
returns-in-Ok-New-clause-cause g c = cause-of_same refl

pub returns-in-Ok-New-clause-ready : goal.returns-in-Ok-New-clause-ready
returns-in-Ok-New-clause-ready g c =
    let ready = c.requires.ready in
    record { foreign = omega (arith, ready.foreign); repeated = omega (arith, ready.repeated); refused = omega (arith, ready.refused) }

pub returns-in_err-write_all-in-Ok-Repeats-clause-outcome : goal.returns-in_err-write_all-in-Ok-Repeats-clause-outcome
returns-in_err-write_all-in-Ok-Repeats-clause-outcome g c line has =
    if_ok-of_error _ c.from_residual.result _ c.from_residual.ensures.1

pub returns-in_err-write_all-in-Ok-Repeats-clause-cause : goal.returns-in_err-write_all-in-Ok-Repeats-clause-cause
returns-in_err-write_all-in-Ok-Repeats-clause-cause g c =
    cause-of_error _ c.from_residual.result c.from_residual.ensures.1 c.in_err-write_all-in-Ok-Repeats.ensures.cause

pub returns-in_err-write_all-in-Ok-Repeats-clause-ready : goal.returns-in_err-write_all-in-Ok-Repeats-clause-ready
returns-in_err-write_all-in-Ok-Repeats-clause-ready g c =
    if_ok-of_error _ c.from_residual.result _ c.from_residual.ensures.1

pub returns-in_ok-write_all-in-Ok-Repeats-clause-cause : goal.returns-in_ok-write_all-in-Ok-Repeats-clause-cause
returns-in_ok-write_all-in-Ok-Repeats-clause-cause g c = cause-of_same c.in_ok-write_all-in-Ok-Repeats.ensures.cause.ok

pub returns-in_ok-write_all-in-Ok-Repeats-clause-ready : goal.returns-in_ok-write_all-in-Ok-Repeats-clause-ready
returns-in_ok-write_all-in-Ok-Repeats-clause-ready g c =
    let ready = c.requires.ready in
    record { foreign = omega (arith, ready.foreign); repeated = omega (arith, ready.repeated); refused = omega (arith, ready.refused) }

pub overflow_add-state : goal.overflow_add-state
overflow_add-state g c = omega (arith, c.requires.early, c.requires.ready.repeated)

pub returns-in_err-write_all-in-Ok-Foreign-clause-outcome : goal.returns-in_err-write_all-in-Ok-Foreign-clause-outcome
returns-in_err-write_all-in-Ok-Foreign-clause-outcome g c line has =
    if_ok-of_error _ c.from_residual-in_err-write_all-in-Ok-Foreign.result _ c.from_residual-in_err-write_all-in-Ok-Foreign.ensures.1

pub returns-in_err-write_all-in-Ok-Foreign-clause-cause : goal.returns-in_err-write_all-in-Ok-Foreign-clause-cause
returns-in_err-write_all-in-Ok-Foreign-clause-cause g c =
    cause-of_error _ c.from_residual-in_err-write_all-in-Ok-Foreign.result c.from_residual-in_err-write_all-in-Ok-Foreign.ensures.1
    c.in_err-write_all-in-Ok-Foreign.ensures.cause

pub returns-in_err-write_all-in-Ok-Foreign-clause-ready : goal.returns-in_err-write_all-in-Ok-Foreign-clause-ready
returns-in_err-write_all-in-Ok-Foreign-clause-ready g c =
    if_ok-of_error _ c.from_residual-in_err-write_all-in-Ok-Foreign.result _ c.from_residual-in_err-write_all-in-Ok-Foreign.ensures.1

pub returns-in_ok-write_all-in-Ok-Foreign-clause-cause : goal.returns-in_ok-write_all-in-Ok-Foreign-clause-cause
returns-in_ok-write_all-in-Ok-Foreign-clause-cause g c = cause-of_same c.in_ok-write_all-in-Ok-Foreign.ensures.cause.ok

pub returns-in_ok-write_all-in-Ok-Foreign-clause-ready : goal.returns-in_ok-write_all-in-Ok-Foreign-clause-ready
returns-in_ok-write_all-in-Ok-Foreign-clause-ready g c =
    let ready = c.requires.ready in
    record { foreign = omega (arith, ready.foreign); repeated = omega (arith, ready.repeated); refused = omega (arith, ready.refused) }

pub overflow_add-state-in-Ok-Foreign : goal.overflow_add-state-in-Ok-Foreign
overflow_add-state-in-Ok-Foreign g c = omega (arith, c.requires.early, c.requires.ready.foreign)

pub as_slice-requires : goal.as_slice-requires
as_slice-requires g c = lit< tt

pub as_slice-requires-in-Ok-Foreign : goal.as_slice-requires-in-Ok-Foreign
as_slice-requires-in-Ok-Foreign g c = lit< tt

pub returns-in-Err-clause-outcome : goal.returns-in-Err-clause-outcome
returns-in-Err-clause-outcome g c line has = record {
  cause = record { tiling = c.args.tiling.now; has = has; sight = c.in-Err.ensures.wanting };
  kept = Keeps-refl (g.O.Sink.written c.args.out.now);
}
