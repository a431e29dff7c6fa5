use Rattle.std.proofs.Common.{List, subst, ℕ, ◌∙◌}
use Rattle.std.specs.Io.KnownBytes.{Appends}
use Rattle.std.specs.Prelude.{OnErr, OnOk}
use Rattle.bk_ports.specs.Causes.{AppendsPrefix}
use Rattle.bk_verify_report.proofs.missing_line.write_missing_entry.Goals as goal

pub returns-clause-written : goal.returns-clause-written
returns-clause-written g c =
    subst (λ (line : List ℕ). OnOk c.write_all.result (Appends (g.O.Sink.written c.args.out.now) (g.O.Sink.written c.write_all.new.self) line))
    (c.as_slice.ensures.value ∙ c.write_missing.ensures) c.write_all.ensures.ok

pub returns-clause-begun : goal.returns-clause-begun
returns-clause-begun g c =
    subst (λ (line : List ℕ). OnErr c.write_all.result (AppendsPrefix (g.O.Sink.written c.args.out.now) (g.O.Sink.written c.write_all.new.self) line))
    (c.as_slice.ensures.value ∙ c.write_missing.ensures) c.write_all.ensures.err
