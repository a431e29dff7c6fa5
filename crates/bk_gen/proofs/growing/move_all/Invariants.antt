use Rattle.std.proofs.Common.{◌≡◌}
use Rattle.bk_gen.proofs.MovedFront.{front_moved}
use Rattle.bk_gen.proofs.growing.move_all.Given as goal

abbrev pub invariant-loop-q : goal.invariant-loop-q
invariant-loop-q l = l.squares ≡ front_moved l.right l.down l.q-index l.fn.squares
