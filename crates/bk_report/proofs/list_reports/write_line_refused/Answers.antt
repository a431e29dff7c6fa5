use Rattle.std.specs.Prelude.{decimal}
use Rattle.bk_report.specs.Refusals.{refusal_text}
use Rattle.bk_report.proofs.ListPieces.{refused_pieces}
use Rattle.bk_report.proofs.list_reports.write_line_refused.Goals as goal

pub returns : goal.returns
returns c =
    rw (c.push.ensures.items, c.push_refusal.ensures.text, c.push_filled.ensures.text, c.clear.ensures)
    (refused_pieces (decimal c.args.line) (refusal_text c.args.refused.now))
