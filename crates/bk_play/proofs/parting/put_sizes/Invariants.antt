use Rattle.std.proofs.Common.{count_by, drop, length, take, ◌++◌, ◌+◌, ◌-◌, ◌<◌, ◌≡◌}
use Rattle.bk_word.specs.Play.{parts}
use Rattle.bk_play.specs.Skeleton.{joined_sizes}
use Rattle.bk_play.proofs.parting.put_sizes.Given as goal

abbrev pub invariant-loop-i : goal.invariant-loop-i
invariant-loop-i l = record {
  long : length l.room ≡ count_by parts l.moved + 1;
  place : l.place ≡ count_by parts (take l.i l.moved);
  small : l.i < length l.moved → l.size + (length l.moved - l.i) + l.last < 256;
  ended : l.i ≡ length l.moved → l.size < 256;
  put : joined_sizes l.first l.last l.moved ≡ take l.place l.room ++ joined_sizes l.size l.last (drop l.i l.moved);
}
