use Rattle.std.proofs.Common.{inl}
use Rattle.bk_ports.proofs.OtherOutputs.{stop_told}
use Rattle.bk_ports.specs.Ending.{streams_between}
use Rattle.bk_alike.proofs.ClosedLists.{badly_told, closes_broken, closes_well, entered_from_the_start_of_listing, has_verdict, stops_listing, verdict_told}
use Rattle.bk_alike.proofs.ClosedLists.{well_told}
use Rattle.bk_alike.proofs.list_run.list_into.Goals as goal

pub returns-in-Ok-clause-ending : goal.returns-in-Ok-clause-ending
returns-in-Ok-clause-ending g c =
    closes_well c.args.wanted c.enter_lines-ended.new.register (g.S.Source.left c.args.source.now) (g.S.Source.left c.enter_lines-ended.new.source)
    (g.O.Sink.written c.args.out.now) (g.O.Sink.written c.enter_lines-ended.new.out) (g.O.Sink.written c.write_closing.new.out) c.enter_lines-ended.result
    (entered_from_the_start_of_listing c.args.list.now _ _ _ c.requires c.enter_lines-ended.ensures.ending)
    (verdict_told c.enter_lines-ended.result c.in-NoneRefused.is) c.write_closing.result c.write_closing.ensures.lines c.in-Ok.is

pub returns-in-Err-clause-ending : goal.returns-in-Err-clause-ending
returns-in-Err-clause-ending g c =
    closes_broken c.args.wanted c.enter_lines-ended.new.register (g.S.Source.left c.args.source.now) (g.S.Source.left c.enter_lines-ended.new.source)
    (g.O.Sink.written c.args.out.now) (g.O.Sink.written c.enter_lines-ended.new.out) (g.O.Sink.written c.write_closing.new.out) c.enter_lines-ended.result
    (entered_from_the_start_of_listing c.args.list.now _ _ _ c.requires c.enter_lines-ended.ensures.ending)
    (verdict_told c.enter_lines-ended.result c.in-NoneRefused.is) c.write_closing.result c.write_closing.ensures.lines c.in-Err.field-0 c.in-Err.is

pub returns-in-Ok-clause-complete : goal.returns-in-Ok-clause-complete
returns-in-Ok-clause-complete g c _ = inl (has_verdict c.enter_lines-ended.result (verdict_told c.enter_lines-ended.result c.in-NoneRefused.is))

pub returns-in-Ok-clause-faults : goal.returns-in-Ok-clause-faults
returns-in-Ok-clause-faults g c =
    well_told (g.S.Source.faults c.args.source.now) (g.S.Source.faults c.enter_lines-ended.new.source) (g.O.Sink.faults c.args.out.now)
    (g.O.Sink.faults c.enter_lines-ended.new.out) (g.O.Sink.faults c.write_closing.new.out) c.enter_lines-ended.result
    c.enter_lines-ended.ensures.faults c.write_closing.result c.write_closing.ensures.cause c.in-Ok.is

pub returns-in-Err-clause-faults : goal.returns-in-Err-clause-faults
returns-in-Err-clause-faults g c =
    badly_told (g.S.Source.faults c.args.source.now) (g.S.Source.faults c.enter_lines-ended.new.source) (g.O.Sink.faults c.args.out.now)
    (g.O.Sink.faults c.enter_lines-ended.new.out) (g.O.Sink.faults c.write_closing.new.out) c.enter_lines-ended.result
    (verdict_told c.enter_lines-ended.result c.in-NoneRefused.is) c.enter_lines-ended.ensures.faults c.write_closing.result
    c.write_closing.ensures.cause c.in-Err.field-0 c.in-Err.is

pub returns-in-Err-clause-complete : goal.returns-in-Err-clause-complete
returns-in-Err-clause-complete g c calm = absurd (calm.no_fault.writes (returns-in-Err-clause-faults g c).1)

pub returns-in-ReadFailed : goal.returns-in-ReadFailed
returns-in-ReadFailed g c = record {
  ending =
      stops_listing c.args.wanted c.enter_lines-ended.new.register
      (streams_between g.S.Source.left g.O.Sink.written (c.args.source.now, c.args.out.now) (c.enter_lines-ended.new.source, c.enter_lines-ended.new.out))
      c.enter_lines-ended.result (stop_told c.enter_lines-ended.result c.in-ReadFailed.is)
      (entered_from_the_start_of_listing c.args.list.now _ _ _ c.requires c.enter_lines-ended.ensures.ending);
  complete = c.enter_lines-ended.ensures.complete;
  faults = c.enter_lines-ended.ensures.faults;
}
