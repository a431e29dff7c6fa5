use Rattle.std.proofs.Common.{length, replicate, ◌++◌, ◌+◌, ◌-◌, ◌∷◌, ◌≡◌, ◌≤◌}
use Rattle.bk_walk_cuts.proofs.lined.push_lines.Given as goal

abbrev pub invariant-others : goal.invariant-others
invariant-others g l = record {
  items : l.lines.items ≡ l.fn.lines.items ++ l.valley ∷ replicate (l.counter - 1) l.is_first;
  count : length l.lines.items ≡ length l.fn.lines.items + l.counter;
  some : 1 ≤ l.counter;
}
