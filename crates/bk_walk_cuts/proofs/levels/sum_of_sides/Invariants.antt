use Rattle.std.specs.Prelude.{fold}
use Rattle.std.proofs.Common.{drop, ◌-◌, ◌≡◌}
use Rattle.bk_forms.specs.Form.{with_column}
use Rattle.bk_walk_cuts.specs.SideForms.{sum_of_sides}
use Rattle.bk_walk_cuts.specs.Trace.{IsSmall}
use Rattle.bk_walk_cuts.proofs.levels.sum_of_sides.Given as goal

abbrev pub invariant-loop-number : goal.invariant-loop-number
invariant-loop-number l = record {
  added : fold (λ form n. with_column form (n - 1)) l.sum (drop l.number-index l.numbers) ≡ sum_of_sides l.numbers;
  small : IsSmall l.number-index l.sum;
}
