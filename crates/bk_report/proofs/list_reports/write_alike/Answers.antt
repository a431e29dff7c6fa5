use Rattle.std.specs.Prelude.{codes, decimal}
use Rattle.std.proofs.Common.{[], sym, ◌∷◌}
use Rattle.bk_report.proofs.TemplateLaws.{line-ended}
use Rattle.bk_report.proofs.list_reports.write_alike.Goals as goal

pub returns : goal.returns
returns c =
    rw (c.push_filled.ensures.text, c.clear.ensures)
    (sym (line-ended (codes ";" ∷ codes "groups" ∷ decimal c.args.groups ∷ codes "items" ∷ decimal c.args.items
    ∷ codes "refused" ∷ decimal c.args.refused ∷ [])))
