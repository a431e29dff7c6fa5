use Rattle.std.proofs.Common.{length, take, ◌≡◌}
use Rattle.bk_packed.specs.Packed.{word_digits}
use Rattle.bk_packed.specs.ReadMoves.{HasDigits}
use Rattle.bk_packed.proofs.reading.shared_moves.Given as goal

abbrev pub invariant-moves : goal.invariant-moves
invariant-moves l = record { place : l.place ≡ length (word_digits (take l.i l.skel)); has : HasDigits l.number 0 (word_digits (take l.i l.skel)) }
