use Rattle.std.proofs.Common.{length, ◌-◌, ◌≡◌}
use Rattle.bk_catalogue.proofs.TreeOfWords.LastSigns.{filled_up}
use Rattle.bk_walk_cuts.proofs.moves.pad.Given as goal

abbrev pub invariant-signs : goal.invariant-signs
invariant-signs l = record {
  count : l.m-inside.count ≡ l.initial.m-inside.count;
  signs : filled_up l.wanted l.m-inside.signs.items ≡ filled_up l.wanted l.initial.m-inside.signs.items;
}

abbrev pub decreases-signs : goal.decreases-signs
decreases-signs l = l.wanted - length l.m-inside.signs.items
