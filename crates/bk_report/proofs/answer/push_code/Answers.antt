use Rattle.bk_code.proofs.CodeOfTiling.{code_some}
use Rattle.bk_report.proofs.answer.push_code.Goals as goal

pub write_code-requires-clause-some : goal.write_code-requires-clause-some
write_code-requires-clause-some c = rw c.code_of.ensures (code_some c.args.tiling.now c.order-order.ensures.kept.tiling)
