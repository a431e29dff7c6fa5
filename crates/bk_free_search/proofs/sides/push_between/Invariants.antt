use Rattle.std.proofs.Common.{length, ◌++◌, ◌+◌, ◌-◌, ◌≡◌}
use Rattle.bk_word.specs.Play.{numbers_from}
use Rattle.bk_free_search.proofs.sides.push_between.Given as goal

abbrev pub invariant-others : goal.invariant-others
invariant-others l = record {
  items : l.lines.items ++ numbers_from (l.hung + l.k + 1) (l.count - l.k) ≡ l.fn.lines.items ++ numbers_from (l.hung + 2) (l.count - 1);
  long : length l.lines.items + 1 ≡ length l.fn.lines.items + l.k;
}
