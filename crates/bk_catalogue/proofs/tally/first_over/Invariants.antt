use Rattle.std.proofs.Common.{take, ◌++◌, ◌≤◌}
use Rattle.bk_catalogue.specs.Tally.{IsTally}
use Rattle.bk_catalogue.proofs.tally.first_over.Given as goal

abbrev pub invariant-signs : goal.invariant-signs
invariant-signs l = record {
  tally : IsTally (l.before ++ take l.i l.signs) l.tally.bound l.tally.aboves;
  low : l.tally.aboves ≤ l.tally.bound;
  room : l.tally.bound ≤ l.room;
}
