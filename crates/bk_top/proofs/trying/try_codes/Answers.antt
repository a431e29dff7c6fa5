use Rattle.bk_top.proofs.Endings.{tried_begun, tried_whole}
use Rattle.bk_top.specs.Outside.{port}
use Rattle.bk_top.proofs.trying.try_codes.Goals as goal

pub returns-in-Ok : goal.returns-in-Ok
returns-in-Ok g c =
    tried_whole c.args.seed c.args.count (port g.O.Sink.written g.O.Sink.faults c.args.out.now)
    (port g.O.Sink.written g.O.Sink.faults c.write_all.new.self)
    c.trial.new.out.items c.as_slice.result.now c.trial.ensures c.as_slice.ensures.value c.in-Ok.ensures.ok (c.in-Ok.ensures.cause).ok

pub returns-in-Err : goal.returns-in-Err
returns-in-Err g c =
    tried_begun c.args.seed c.args.count (port g.O.Sink.written g.O.Sink.faults c.args.out.now)
    (port g.O.Sink.written g.O.Sink.faults c.write_all.new.self)
    c.trial.new.out.items c.as_slice.result.now c.trial.ensures c.as_slice.ensures.value c.in-Err.ensures.err (c.in-Err.ensures.cause).failed
