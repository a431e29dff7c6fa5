use Rattle.std.proofs.Common.{ap, arith, length}
use Rattle.bk_ask.proofs.write_help.Goals as goal

pub push_bytes-requires : goal.push_bytes-requires
push_bytes-requires c = omega (arith, ap length c.write_usage.ensures)

pub returns : goal.returns
returns c = rw (c.push_bytes.ensures, c.write_usage.ensures)
