use Rattle.std.proofs.Common.{false, true}
use Rattle.std.proofs.lemmas.Result.{err_from_is_err_and}
use Rattle.bk_ports.proofs.Pieces.{writes_one, begins_one}
use Rattle.bk_run_tests.proofs.rows.lines_rows.LengthsAnswerer.answer.Goals as goal

pub returns-in_err-write_all-clause-failed : goal.returns-in_err-write_all-clause-failed
returns-in_err-write_all-clause-failed g c =
    let p = err_from_is_err_and c.from_residual.result c.from_residual.ensures.1 in
    rw p.1 (begins_one _ false c.deref.result.now (g.O.Sink.written c.args.out.now) (g.O.Sink.written c.write_all.new.self) tt c.in_err-write_all.ensures.err)

pub returns-then-eq-2-clause-outcome : goal.returns-then-eq-2-clause-outcome
returns-then-eq-2-clause-outcome g c =
    writes_one _ true c.deref.result.now (g.O.Sink.written c.args.out.now) (g.O.Sink.written c.write_all.new.self) tt c.in_ok-write_all.ensures.ok

pub returns-else-eq-2-clause-outcome : goal.returns-else-eq-2-clause-outcome
returns-else-eq-2-clause-outcome g c =
    writes_one _ false c.deref.result.now (g.O.Sink.written c.args.out.now) (g.O.Sink.written c.write_all.new.self) tt c.in_ok-write_all.ensures.ok
