use Rattle.std.proofs.Common.{map, slice_index, ℕ, ◌+◌, ◌<◌, ◌≡◌}
use Rattle.bk_word.specs.Word.{sign_place}
use Rattle.bk_packed.specs.Packed.{digit_at}
use Rattle.bk_packed.proofs.reading.has_signs.Given as goal

abbrev pub invariant-signs : goal.invariant-signs
invariant-signs l = (k : ℕ) → k < l.i → digit_at l.number (l.place + k) ≡ slice_index (map sign_place l.signs) k
