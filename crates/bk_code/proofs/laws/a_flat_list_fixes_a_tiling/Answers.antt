use Rattle.bk_code.proofs.FlatList.{a_flat_list_fixes_a_tiling}
use Rattle.bk_code.proofs.laws.a_flat_list_fixes_a_tiling.Goals as goal

pub returns : goal.returns
returns c t u tiling other widths same = a_flat_list_fixes_a_tiling t u tiling other widths same
