use Rattle.std.proofs.Common.{Result, ap, sym, ◌∙◌}
use Rattle.bk_ports.specs.ToldCalls.{count_after, told_of}
use Rattle.bk_ports.proofs.standard.told.Goals as goal

pub returns-in-Ok-clause-told : goal.returns-in-Ok-clause-told
returns-in-Ok-clause-told g c = ap (λ (called : Result g.row.T.Denot g.row.E.Denot). told_of called) (sym c.in-Ok.is)

pub returns-clause-told : goal.returns-clause-told
returns-clause-told g c = ap (λ (called : Result g.row.T.Denot g.row.E.Denot). told_of called) (sym c.in-Err.is)

pub returns-in-Ok-clause-count : goal.returns-in-Ok-clause-count
returns-in-Ok-clause-count g c =
    ap (λ (called : Result g.row.T.Denot g.row.E.Denot). count_after called c.args.faults.now) (sym c.in-Ok.is)

pub returns-clause-count : goal.returns-clause-count
returns-clause-count g c =
    c.saturating_add.ensures
    ∙ ap (λ (called : Result g.row.T.Denot g.row.E.Denot). count_after called c.args.faults.now) (sym c.in-Err.is)
