use Rattle.std.proofs.Common.{take, ◌≡◌}
use Rattle.bk_walk.proofs.walk.word_played.Given as goal

abbrev pub invariant-moves : goal.invariant-moves
invariant-moves l = l.word ≡ take l.i l.skel
