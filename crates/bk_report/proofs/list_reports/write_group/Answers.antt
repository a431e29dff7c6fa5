use Rattle.std.specs.Prelude.{decimal}
use Rattle.std.proofs.Common.{[], sym, ◌∷◌}
use Rattle.bk_text.specs.CodeText.{size_text}
use Rattle.bk_report.proofs.TemplateLaws.{line-ended}
use Rattle.bk_report.proofs.list_reports.write_group.Goals as goal

pub returns : goal.returns
returns c =
    rw (c.push_filled.ensures.text, c.write_size.ensures.text, c.clear.ensures)
    (sym (line-ended (size_text c.args.width c.args.height ∷ decimal c.args.items ∷ [])))
