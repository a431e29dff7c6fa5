use Rattle.std.proofs.Common.{arith}
use Rattle.bk_text.proofs.NumberBytes.{one_digit}
use Rattle.bk_text.proofs.sides.with_digit.Goals as goal

pub returns : goal.returns
returns c = one_digit c.args.greatest c.args.byte c.args.number _ (omega arith) (omega arith) (omega arith) (omega arith) (omega arith)
