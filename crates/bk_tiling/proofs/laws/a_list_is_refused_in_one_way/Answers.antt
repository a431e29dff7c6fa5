use Rattle.bk_tiling.proofs.OneRefusal.{refused_once}
use Rattle.bk_tiling.proofs.laws.a_list_is_refused_in_one_way.Goals as goal

pub returns : goal.returns
returns c = refused_once
