use Rattle.std.proofs.Common.{drop, sum, take, ◌+◌, ◌≡◌}
use Rattle.bk_word.specs.Outline.{valley_place}
use Rattle.bk_play.proofs.records.leftmost.Given as goal

abbrev pub invariant-loop-i : goal.invariant-loop-i
invariant-loop-i l = record {
  place : valley_place l.signs ≡ l.i + valley_place (drop l.i l.signs);
  first : l.first ≡ sum (take l.i l.sizes);
}
