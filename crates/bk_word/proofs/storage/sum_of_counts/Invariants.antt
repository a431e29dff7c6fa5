use Rattle.std.specs.Prelude.{drop, ◌+◌, ◌≡◌}
use Rattle.bk_word.specs.StoredWord.{word_in}
use Rattle.bk_word.specs.Word.{order_of}
use Rattle.bk_word.proofs.storage.sum_of_counts.Given as goal

abbrev pub invariant-loop-byte : goal.invariant-loop-byte
invariant-loop-byte l = l.order + order_of (word_in (drop l.byte-index l.bytes)) ≡ order_of (word_in l.bytes)
