use Rattle.bk_tiling.proofs.OneRefusal.{refused_or_accepted}
use Rattle.bk_tiling.proofs.laws.a_refused_list_is_not_accepted.Goals as goal

pub returns : goal.returns
returns c = refused_or_accepted
