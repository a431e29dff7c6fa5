use Rattle.std.proofs.Common.{take, ◌++◌, ◌≡◌}
use Rattle.std.specs.Prelude.{option_to_list}
use Rattle.bk_lay.proofs.SignLists.{last_of_levels}
use Rattle.bk_lay.specs.LevelRuns.{bottoms_of}
use Rattle.bk_lay.specs.TilingWord.{signs_between}
use Rattle.bk_lay.proofs.signs.write_signs.Given as goal

abbrev pub invariant-loop-q : goal.invariant-loop-q
invariant-loop-q l = record {
  signs : l.signs.items ≡ signs_between (option_to_list l.fn.before ++ bottoms_of (take l.q-index l.squares));
  last : l.last ≡ last_of_levels (option_to_list l.fn.before ++ bottoms_of (take l.q-index l.squares));
}
