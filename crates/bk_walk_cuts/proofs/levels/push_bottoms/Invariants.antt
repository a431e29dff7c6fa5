use Rattle.std.proofs.Common.{map, ◌++◌, ◌+◌, ◌-◌, ◌≡◌}
use Rattle.bk_word.specs.Play.{numbers_from}
use Rattle.bk_forms.specs.Form.{with_column}
use Rattle.bk_walk_cuts.proofs.levels.push_bottoms.Given as goal

abbrev pub invariant-loop-i : goal.invariant-loop-i
invariant-loop-i g l = l.levels.items ≡ l.initial.levels.items ++ map (λ n. with_column l.valley (n - 1)) (numbers_from (l.hung + 1) l.i)
