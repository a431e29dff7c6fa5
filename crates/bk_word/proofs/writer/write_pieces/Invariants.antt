use Rattle.std.specs.Prelude.{flat_map, take, ◌++◌, ◌≡◌}
use Rattle.bk_word.specs.StoredWord.{piece}
use Rattle.bk_word.proofs.writer.write_pieces.Given as goal

abbrev pub invariant-loop-byte : goal.invariant-loop-byte
invariant-loop-byte l = l.out.items ≡ l.fn.out.items ++ flat_map piece (take l.byte-index l.bytes)
