use Rattle.std.proofs.Common.{[], ap, refl, ℕ, ◌∙◌}
use Rattle.bk_laws.proofs.Outcomes.{if_ok-of_error, on_err-intro}
use Rattle.bk_report.specs.ListLines.{verified_line}
use Rattle.bk_report.specs.declared.listing_lines.Last.TheVariants.{End}
use Rattle.bk_verify_report.proofs.LeftBehind.{closes_report, closing_begun, closing_broken, counts_of, end_limit, end_wide, lacking}
use Rattle.bk_verify_report.specs.ReportEnd.{kept_of_rest}
use Rattle.bk_answer.proofs.Failing.{cause-of_error, cause-of_error_later, cause-of_same}
use Rattle.bk_verify_report.proofs.closing.close_rest.Goals as goal

pub returns-in_err-missing-clause-begun : goal.returns-in_err-missing-clause-begun
returns-in_err-missing-clause-begun g c =
    on_err-intro c.from_residual.result
    (closing_broken c.args.rest.now.walk.order (kept_of_rest c.args.rest.now c.args.lines) (g.O.Sink.written c.args.out.now)
    (g.O.Sink.written c.write_missing_members.new.out) refl c.in_err-missing.ensures.begun)

pub returns-in_err-write_all-clause-begun : goal.returns-in_err-write_all-clause-begun
returns-in_err-write_all-clause-begun g c =
    on_err-intro c.from_residual-in_err-write_all.result
    (closing_begun c.args.rest.now.walk.order (kept_of_rest c.args.rest.now c.args.lines) refl _ _ (g.O.Sink.written c.args.out.now)
    (g.O.Sink.written c.write_missing_members.new.out)
    (lacking c.args.rest.now c.write_missing_members.new.rest _ c.members.result (g.O.Sink.written c.args.out.now)
    (g.O.Sink.written c.write_missing_members.new.out) c.in_ok-missing.ensures.listed c.in_ok-missing.ensures.all c.in_ok-missing.ensures.ended
    c.write_missing_members.ensures.order c.members.ensures.reached)
    c.as_slice.result.now (c.as_slice.ensures.value ∙ c.write_verified.ensures ∙ ap (λ k. verified_line End c.order.result k []) c.in_order.ensures
    ∙ ap (λ (n : ℕ). verified_line End n (counts_of (kept_of_rest c.args.rest.now c.args.lines) c.members.result c.in_ok-missing.missing) [])
    (c.order.ensures ∙ c.write_missing_members.ensures.order))
    (g.O.Sink.written c.write_all.new.self) c.in_err-write_all.ensures.err)

pub returns-clause-closed : goal.returns-clause-closed
returns-clause-closed g c =
    closes_report c.args.rest.now.walk.order (kept_of_rest c.args.rest.now c.args.lines) refl _ _ (g.O.Sink.written c.args.out.now)
    (g.O.Sink.written c.write_missing_members.new.out)
    (lacking c.args.rest.now c.write_missing_members.new.rest _ c.members.result (g.O.Sink.written c.args.out.now)
    (g.O.Sink.written c.write_missing_members.new.out) c.in_ok-missing.ensures.listed c.in_ok-missing.ensures.all c.in_ok-missing.ensures.ended
    c.write_missing_members.ensures.order c.members.ensures.reached)
    c.as_slice.result.now (c.as_slice.ensures.value ∙ c.write_verified.ensures ∙ ap (λ k. verified_line End c.order.result k []) c.in_order.ensures
    ∙ ap (λ (n : ℕ). verified_line End n (counts_of (kept_of_rest c.args.rest.now c.args.lines) c.members.result c.in_ok-missing.missing) [])
    (c.order.ensures ∙ c.write_missing_members.ensures.order))
    (g.O.Sink.written c.write_all.new.self) c.in_ok-write_all.ensures.ok
    c.has_fault.result c.has_fault.ensures

pub returns-in_err-missing-clause-closed : goal.returns-in_err-missing-clause-closed
returns-in_err-missing-clause-closed g c =
    if_ok-of_error _ c.from_residual.result _ c.from_residual.ensures.1

pub returns-in_err-missing-clause-cause : goal.returns-in_err-missing-clause-cause
returns-in_err-missing-clause-cause g c =
    cause-of_error _ c.from_residual.result c.from_residual.ensures.1 c.in_err-missing.ensures.cause

pub returns-in_err-write_all-clause-closed : goal.returns-in_err-write_all-clause-closed
returns-in_err-write_all-clause-closed g c =
    if_ok-of_error _ c.from_residual-in_err-write_all.result _ c.from_residual-in_err-write_all.ensures.1

pub returns-in_err-write_all-clause-cause : goal.returns-in_err-write_all-clause-cause
returns-in_err-write_all-clause-cause g c =
    cause-of_error_later _ c.from_residual-in_err-write_all.result c.from_residual-in_err-write_all.ensures.1
    c.in_ok-missing.ensures.cause.ok c.in_err-write_all.ensures.cause

pub returns-clause-cause : goal.returns-clause-cause
returns-clause-cause g c =
    let cause = c.in_ok-write_all.ensures.cause in
    let same = cause.ok ∙ c.in_ok-missing.ensures.cause.ok in
    cause-of_same same

pub write_missing_members-requires-clause-most : goal.write_missing_members-requires-clause-most
write_missing_members-requires-clause-most g c = c.requires.most

pub write_missing_members-requires-clause-start : goal.write_missing_members-requires-clause-start
write_missing_members-requires-clause-start g c = c.requires.start

pub write_verified-requires-clause-ended : goal.write_verified-requires-clause-ended
write_verified-requires-clause-ended g c = end_limit

pub write_verified-requires-clause-some : goal.write_verified-requires-clause-some
write_verified-requires-clause-some g c = λ e. absurd (end_wide e)
