use Rattle.std.specs.Prelude.{codes, decimal}
use Rattle.std.proofs.Common.{[], sym, ◌∷◌}
use Rattle.bk_report.proofs.TemplateLaws.{line-ended}
use Rattle.bk_report.proofs.list_reports.write_repeats.Goals as goal

pub returns : goal.returns
returns c =
    rw (c.push_filled.ensures.text, c.clear.ensures)
    (sym (line-ended (codes "line" ∷ decimal c.args.line ∷ codes "repeats" ∷ decimal c.args.first ∷ [])))
