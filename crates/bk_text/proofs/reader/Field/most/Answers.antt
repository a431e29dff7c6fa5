use Rattle.std.proofs.Common.{rules}
use Rattle.bk_text.proofs.reader.Field.most.Goals as goal

pub returns-in-RowSide : goal.returns-in-RowSide
returns-in-RowSide c = search rules
