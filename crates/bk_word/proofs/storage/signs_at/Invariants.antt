use Rattle.std.specs.Prelude.{drop, ◌++◌, ◌≡◌}
use Rattle.bk_word.specs.StoredWord.{leading_signs}
use Rattle.bk_word.proofs.storage.signs_at.Given as goal

abbrev pub invariant-loop-byte : goal.invariant-loop-byte
invariant-loop-byte l = l.signs.items ++ leading_signs (drop l.byte-index l.bytes) ≡ leading_signs l.bytes
