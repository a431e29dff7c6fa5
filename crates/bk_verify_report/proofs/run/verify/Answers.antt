use Rattle.std.proofs.Common.{false, inl, inr, refl, subst, sym, true, ℕ, ◌∙◌, ◌≤◌}
use Rattle.bk_ports.specs.Causes.{Rose}
use Rattle.bk_verify_report.proofs.Ending.{ends_whole, last_order, read_whole_where_closing_failed}
use Rattle.bk_verify_report.proofs.run.verify.Goals as goal

pub returns-in-Err-clause-verified : goal.returns-in-Err-clause-verified
returns-in-Err-clause-verified g c = c.in-Err.ensures.stopped

pub returns-in-Err-clause-complete : goal.returns-in-Err-clause-complete
returns-in-Err-clause-complete g c = c.in-Err.ensures.complete

pub returns-in-Err-clause-faults : goal.returns-in-Err-clause-faults
returns-in-Err-clause-faults g c = c.in-Err.ensures.faults

pub returns-in-Ok-true-clause-verified : goal.returns-in-Ok-true-clause-verified
returns-in-Ok-true-clause-verified g c =
    ends_whole c.args.order c.in-Ok.list (g.S.Source.left c.args.source.now) (g.S.Source.left c.read_list.new.source)
    (g.O.Sink.written c.args.out.now) (g.O.Sink.written c.read_list.new.out) c.in-Ok.ensures.read
    (g.O.Sink.written c.close_report.new.out) true c.in-Ok-true.field-0 c.in-Ok-true.field-0-test c.in-Ok-true.ensures.closed

pub returns-in-Ok-true-clause-complete : goal.returns-in-Ok-true-clause-complete
returns-in-Ok-true-clause-complete g c = λ calm. inl (true, refl)

pub returns-in-Ok-true-clause-faults : goal.returns-in-Ok-true-clause-faults
returns-in-Ok-true-clause-faults g c = (c.in-Ok.ensures.reads, (c.in-Ok-true.ensures.cause).ok ∙ c.in-Ok.ensures.writes)

pub returns-in-Ok-false-clause-verified : goal.returns-in-Ok-false-clause-verified
returns-in-Ok-false-clause-verified g c =
    ends_whole c.args.order c.in-Ok.list (g.S.Source.left c.args.source.now) (g.S.Source.left c.read_list.new.source)
    (g.O.Sink.written c.args.out.now) (g.O.Sink.written c.read_list.new.out) c.in-Ok.ensures.read
    (g.O.Sink.written c.close_report.new.out) false c.in-Ok-false.field-0 c.in-Ok-false.field-0-test c.in-Ok-false.ensures.closed

pub returns-in-Ok-false-clause-complete : goal.returns-in-Ok-false-clause-complete
returns-in-Ok-false-clause-complete g c = λ calm. inl (false, refl)

pub returns-in-Ok-false-clause-faults : goal.returns-in-Ok-false-clause-faults
returns-in-Ok-false-clause-faults g c = (c.in-Ok.ensures.reads, (c.in-Ok-false.ensures.cause).ok ∙ c.in-Ok.ensures.writes)

pub returns-in-Err-close_report-clause-verified : goal.returns-in-Err-close_report-clause-verified
returns-in-Err-close_report-clause-verified g c =
    inr (read_whole_where_closing_failed c.args.order c.in-Ok.list (g.S.Source.left c.args.source.now) (g.S.Source.left c.read_list.new.source)
    (g.O.Sink.written c.args.out.now) (g.O.Sink.written c.read_list.new.out) c.in-Ok.ensures.read
    (g.O.Sink.written c.close_report.new.out) c.in-Err-close_report.ensures.begun)

pub returns-in-Err-close_report-clause-complete : goal.returns-in-Err-close_report-clause-complete
returns-in-Err-close_report-clause-complete g c = λ calm. absurd ((calm.no_fault).writes
    (subst (λ (k : ℕ). Rose k (g.O.Sink.faults c.close_report.new.out)) c.in-Ok.ensures.writes (c.in-Err-close_report.ensures.cause).failed))

pub returns-in-Err-close_report-clause-faults : goal.returns-in-Err-close_report-clause-faults
returns-in-Err-close_report-clause-faults g c = (
  c.in-Ok.ensures.reads,
  subst (λ (k : ℕ). Rose k (g.O.Sink.faults c.close_report.new.out)) c.in-Ok.ensures.writes (c.in-Err-close_report.ensures.cause).failed,
)

pub read_list-requires-clause-least : goal.read_list-requires-clause-least
read_list-requires-clause-least g c = c.requires.least

pub read_list-requires-clause-most : goal.read_list-requires-clause-most
read_list-requires-clause-most g c = c.requires.most

pub close_report-requires-clause-most : goal.close_report-requires-clause-most
close_report-requires-clause-most g c =
    let order = last_order c.args.order c.in-Ok.list (g.S.Source.left c.args.source.now) (g.S.Source.left c.read_list.new.source)
    (g.O.Sink.written c.args.out.now) (g.O.Sink.written c.read_list.new.out) c.in-Ok.ensures.read in
    subst (λ (k : ℕ). k ≤ 16) (sym order) c.requires.most

pub close_report-requires-clause-name : goal.close_report-requires-clause-name
close_report-requires-clause-name g c = refl

pub close_report-requires-clause-parts : goal.close_report-requires-clause-parts
close_report-requires-clause-parts g c = refl
