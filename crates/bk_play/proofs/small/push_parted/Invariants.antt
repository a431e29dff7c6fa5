use Rattle.std.proofs.Common.{count_by, drop, filter, length, take, ◌++◌, ◌+◌, ◌-◌, ◌<◌, ◌≡◌}
use Rattle.bk_word.specs.Play.{parts}
use Rattle.bk_play.specs.Skeleton.{joined_sizes}
use Rattle.bk_play.proofs.small.push_parted.Given as goal

abbrev pub invariant-loop-i : goal.invariant-loop-i
invariant-loop-i l = record {
  sizes_long : length l.sizes.items ≡ length l.fn.sizes.items + count_by parts (take l.i l.moved);
  signs_long : length l.signs.items ≡ length l.fn.signs.items + count_by parts (take l.i l.moved);
  small : l.i < length l.moved → l.size + (length l.moved - l.i) + l.last < 256;
  ended : l.i ≡ length l.moved → l.size < 256;
  sizes_put : l.fn.sizes.items ++ joined_sizes l.first l.last l.moved ≡ l.sizes.items ++ joined_sizes l.size l.last (drop l.i l.moved);
  signs_put : l.signs.items ≡ l.fn.signs.items ++ filter parts (take l.i l.moved);
}
