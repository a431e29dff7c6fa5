use Rattle.std.proofs.Common.{rules}
use Rattle.bk_code.proofs.cmp_codes.Goals as goal

pub returns : goal.returns
returns c = search rules
