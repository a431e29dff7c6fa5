use Rattle.std.specs.Prelude.{map, take, ◌++◌, ◌∷◌, ◌≡◌}
use Rattle.bk_word.specs.StoredWord.{sign_byte}
use Rattle.bk_word.proofs.storage.append_move.Given as goal

abbrev pub invariant-signs : goal.invariant-signs
invariant-signs l = record {
  items : l.bytes.items ≡ l.fn.bytes.items ++ l.count ∷ map sign_byte (take l.sign-index l.signs);
  capacity : l.bytes.capacity ≡ l.fn.bytes.capacity;
}
