use Rattle.bk_packed.proofs.PackedOrder.{packed_places_compare}
use Rattle.bk_packed.proofs.laws.packed_places_compare.Goals as goal

pub returns : goal.returns
returns c = packed_places_compare
