use Rattle.std.specs.Prelude.{decimal}
use Rattle.bk_code.specs.Code.{code_of}
use Rattle.bk_text.specs.CodeText.{code_text, size_text}
use Rattle.bk_report.proofs.ListPieces.{pair_pieces}
use Rattle.bk_report.proofs.list_reports.write_pair.Goals as goal

pub returns : goal.returns
returns c =
    rw (c.push.ensures.items, c.push_tiling.ensures.text, c.push_filled.ensures.text, c.clear.ensures)
    (pair_pieces (decimal c.args.first) (decimal c.args.second) (size_text c.args.tiling.now.width c.args.tiling.now.height)
    (code_text (code_of c.args.tiling.now)))
