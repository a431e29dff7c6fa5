use Rattle.bk_skel.proofs.PlayedWord.{IsPlayedTo}
use Rattle.bk_skel.proofs.realising.play_word.Given as goal

abbrev pub invariant-loop-i : goal.invariant-loop-i
invariant-loop-i l = IsPlayedTo l.word l.i l.skel
