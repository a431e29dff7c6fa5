use Rattle.std.specs.Prelude.{decimal}
use Rattle.bk_code.specs.Code.{code_of}
use Rattle.bk_text.specs.CodeText.{code_text}
use Rattle.bk_report.proofs.ListPieces.{two_pieces}
use Rattle.bk_report.proofs.list_reports.write_member.Goals as goal

pub returns : goal.returns
returns c =
    rw (c.push.ensures.items, c.push_code.ensures.text, c.push_filled.ensures.text, c.clear.ensures)
    (two_pieces (decimal c.args.line) (code_text (code_of c.args.tiling.now)))
