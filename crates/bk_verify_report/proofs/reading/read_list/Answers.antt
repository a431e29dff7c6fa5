use Rattle.std.proofs.Common.{subst, sym}
use Rattle.bk_ports.proofs.OtherOutputs.{stop_told}
use Rattle.bk_ports.specs.Ending.{streams_between}
use Rattle.bk_ports.specs.Entering.{entering_from, entries_of}
use Rattle.bk_verify_report.proofs.Ending.{calm_at, whole_at}
use Rattle.bk_verify_report.proofs.EndingAtLines.{entered_from_none_entered, stops_at_lines}
use Rattle.bk_verify_report.specs.ListLine.{none_entered}
use Rattle.bk_verify_report.specs.ListReading.{IsListRead, rules}
use Rattle.bk_verify_report.specs.declared.entering.Verifying.{Verifying}
use Rattle.bk_verify_report.proofs.reading.read_list.Goals as goal

pub returns-in-NoneRefused-clause-read : goal.returns-in-NoneRefused-clause-read
returns-in-NoneRefused-clause-read g c =
    let all = whole_at (entries_of (entering_from rules (none_entered c.args.order) 1) c.enter_lines-ended.new.register)
    (streams_between g.S.Source.left g.O.Sink.written (c.args.source.now, c.args.out.now) (c.enter_lines-ended.new.source, c.enter_lines-ended.new.out))
    c.enter_lines-ended.result c.in-NoneRefused.is
    (entered_from_none_entered c.args.order c.new-register.result c.enter_lines-ended.new.register _
    c.enter_lines-ended.result c.new-register.ensures c.enter_lines-ended.ensures.ending) in
    subst (λ (s : Verifying). IsListRead c.args.order
    (streams_between g.S.Source.left g.O.Sink.written (c.args.source.now, c.args.out.now) (c.enter_lines-ended.new.source, c.enter_lines-ended.new.out))
    s) (sym c.into_kept.ensures) (record { refused = all.0; whole = all.1 })

pub returns-in-NoneRefused-clause-reads : goal.returns-in-NoneRefused-clause-reads
returns-in-NoneRefused-clause-reads g c = (calm_at _ c.enter_lines-ended.result c.in-NoneRefused.is c.enter_lines-ended.ensures.faults).0

pub returns-in-NoneRefused-clause-writes : goal.returns-in-NoneRefused-clause-writes
returns-in-NoneRefused-clause-writes g c = (calm_at _ c.enter_lines-ended.result c.in-NoneRefused.is c.enter_lines-ended.ensures.faults).1

pub returns-in-NoneRefused-clause-stopped : goal.returns-in-NoneRefused-clause-stopped
returns-in-NoneRefused-clause-stopped g c = tt

pub returns-in-NoneRefused-clause-complete : goal.returns-in-NoneRefused-clause-complete
returns-in-NoneRefused-clause-complete g c = tt

pub returns-in-NoneRefused-clause-faults : goal.returns-in-NoneRefused-clause-faults
returns-in-NoneRefused-clause-faults g c = tt

pub returns-in-ReadFailed : goal.returns-in-ReadFailed
returns-in-ReadFailed g c = record {
  read = tt;
  reads = tt;
  writes = tt;
  stopped =
      stops_at_lines c.args.order _ c.enter_lines-ended.new.register c.enter_lines-ended.result (stop_told c.enter_lines-ended.result c.in-ReadFailed.is)
      (entered_from_none_entered c.args.order c.new-register.result c.enter_lines-ended.new.register _
      c.enter_lines-ended.result c.new-register.ensures c.enter_lines-ended.ensures.ending);
  complete = c.enter_lines-ended.ensures.complete;
  faults = c.enter_lines-ended.ensures.faults;
}
