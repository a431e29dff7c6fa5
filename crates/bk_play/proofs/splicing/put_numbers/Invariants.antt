use Rattle.std.proofs.Common.{length, take, ◌+◌, ◌≡◌}
use Rattle.bk_word.specs.Play.{numbers_from}
use Rattle.bk_play.proofs.splicing.put_numbers.Given as goal

abbrev pub invariant-loop-place : goal.invariant-loop-place
invariant-loop-place l = record {
  long : length l.room ≡ length l.fn.room;
  next : l.next ≡ l.first + l.place-index;
  put : take l.place-index l.room ≡ numbers_from l.first l.place-index;
}
