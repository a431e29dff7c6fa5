use Rattle.std.proofs.Common.{◌+◌, ◌≡◌}
use Rattle.bk_word.specs.Play.{numbers_from}
use Rattle.bk_walk_cuts.proofs.levels.new_numbers.Given as goal

abbrev pub invariant-loop-i : goal.invariant-loop-i
invariant-loop-i l = l.numbers.items ≡ numbers_from (l.hung + 1) l.i
