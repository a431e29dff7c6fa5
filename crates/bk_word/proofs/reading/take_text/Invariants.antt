use Rattle.std.specs.Prelude.{take}
use Rattle.bk_word.proofs.WordProgress.{Progress}
use Rattle.bk_word.proofs.reading.take_text.Given as goal

abbrev pub invariant-loop-at : goal.invariant-loop-at
invariant-loop-at l = Progress (take l.at l.text) l.place l.taken
