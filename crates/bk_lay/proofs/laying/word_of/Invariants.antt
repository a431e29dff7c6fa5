use Rattle.std.proofs.Common.{length, ◌-◌}
use Rattle.bk_word.specs.Word.{order_of}
use Rattle.bk_lay.specs.LaidMoves.{IsLaidTo}
use Rattle.bk_lay.proofs.laying.word_of.Given as goal

abbrev pub invariant-moves : goal.invariant-moves
invariant-moves l = IsLaidTo l.tiling l.word l.laying

abbrev pub decreases-moves : goal.decreases-moves
decreases-moves l = length l.tiling.squares - order_of l.word
