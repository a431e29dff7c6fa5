-- What is written by the rest is written by the entries that it was made from.
use Rattle.std.specs.Prelude.{IfOk, OnErr}
use Rattle.std.proofs.Common.{ap, subst, sym, ◌≤◌}
use Rattle.bk_verify_report.specs.MissingLines.{ClosesReport, IsClosingBegun}
use Rattle.bk_verify_report.specs.ReportEnd.{kept_of_rest}
use Rattle.bk_verify_report.specs.Rest.{RestState}
use Rattle.bk_verify_report.proofs.closing.close_report.Goals as goal

pub new-steps-requires-clause-name : goal.new-steps-requires-clause-name
new-steps-requires-clause-name g c = c.requires.name

pub new-steps-requires-clause-parts : goal.new-steps-requires-clause-parts
new-steps-requires-clause-parts g c = c.requires.parts

pub new-steps-requires-clause-some : goal.new-steps-requires-clause-some
new-steps-requires-clause-some g c = c.requires.some

pub close_rest-requires-clause-most : goal.close_rest-requires-clause-most
close_rest-requires-clause-most g c = subst (λ (s : RestState). s.walk.order ≤ 16) (sym c.of-rest.ensures) c.requires.most

pub close_rest-requires-clause-start : goal.close_rest-requires-clause-start
close_rest-requires-clause-start g c = ap (λ (s : RestState). s.walk.cursor) c.of-rest.ensures

pub returns-clause-closed : goal.returns-clause-closed
returns-clause-closed g c =
    subst (λ (s : RestState). IfOk c.close_rest.result (λ differs. ClosesReport s.walk.order
    (kept_of_rest s c.args.state.lines) differs
    (g.O.Sink.written c.args.out.now) (g.O.Sink.written c.close_rest.new.out))) c.of-rest.ensures c.close_rest.ensures.closed

pub returns-clause-begun : goal.returns-clause-begun
returns-clause-begun g c =
    subst (λ (s : RestState). OnErr c.close_rest.result (IsClosingBegun s.walk.order
    (kept_of_rest s c.args.state.lines)
    (g.O.Sink.written c.args.out.now) (g.O.Sink.written c.close_rest.new.out))) c.of-rest.ensures c.close_rest.ensures.begun

pub returns-clause-cause : goal.returns-clause-cause
returns-clause-cause g c = c.close_rest.ensures.cause
