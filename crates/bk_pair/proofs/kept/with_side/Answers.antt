use Rattle.bk_laws.proofs.Bits.{bit_at-added_only_64}
use Rattle.bk_pair.proofs.kept.with_side.Goals as goal

pub returns-then-side-lt64 : goal.returns-then-side-lt64
returns-then-side-lt64 c = bit_at-added_only_64 c.args.small c.args.side c.if-side-lt64.true
