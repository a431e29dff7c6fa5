use Rattle.std.proofs.Common.{[], take, ◌++◌, ◌≤◌}
use Rattle.bk_catalogue.specs.Tally.{IsTally}
use Rattle.bk_catalogue.proofs.tally.closing_bound.Given as goal

abbrev pub invariant-signs : goal.invariant-signs
invariant-signs l = record {
  tally : IsTally ([] ++ take l.sign-index l.signs) l.tally.bound l.tally.aboves;
  low : l.tally.aboves ≤ l.tally.bound;
  few : l.tally.bound ≤ l.sign-index;
}
