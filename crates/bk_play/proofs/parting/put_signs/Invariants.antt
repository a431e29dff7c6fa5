use Rattle.std.proofs.Common.{count_by, filter, length, take, ◌≡◌}
use Rattle.bk_word.specs.Play.{parts}
use Rattle.bk_play.proofs.parting.put_signs.Given as goal

abbrev pub invariant-loop-sign : goal.invariant-loop-sign
invariant-loop-sign l = record {
  long : length l.room ≡ count_by parts l.moved;
  place : l.place ≡ count_by parts (take l.sign-index l.moved);
  put : take l.place l.room ≡ filter parts (take l.sign-index l.moved);
}
