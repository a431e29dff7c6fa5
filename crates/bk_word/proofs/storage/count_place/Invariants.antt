use Rattle.std.specs.Prelude.{drop, ◌-◌, ◌≡◌, ◌≤◌}
use Rattle.bk_word.specs.StoredWord.{word_in}
use Rattle.bk_word.proofs.storage.count_place.Given as goal

abbrev pub invariant-loop-place : goal.invariant-loop-place
invariant-loop-place l = record { few : l.left ≤ l.i; behind : word_in (drop l.place l.bytes) ≡ drop (l.i - l.left) (word_in l.bytes) }
