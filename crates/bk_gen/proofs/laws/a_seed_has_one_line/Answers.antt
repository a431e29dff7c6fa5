use Rattle.bk_gen.proofs.Tallies.{one_line}
use Rattle.bk_gen.proofs.laws.a_seed_has_one_line.Goals as goal

pub returns : goal.returns
returns c = one_line
