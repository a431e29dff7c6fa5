use Rattle.std.proofs.Common.{take, ◌*◌, ◌+◌, ◌++◌, ◌∷◌, ◌≡◌, ◌≤◌}
use Rattle.std.specs.Prelude.{decimal, flat_map}
use Rattle.arrayvec.specs.ArrayVec.{array_vec_len}
use Rattle.bk_report.specs.declared.net.TheConstants.{LONGEST_PLACE_TEXT}
use Rattle.bk_report.proofs.dual.push_places.Given as goal

abbrev pub invariant-loop-number : goal.invariant-loop-number
invariant-loop-number l =
    (l.out.items ≡ l.fn.out.items ++ flat_map (λ n. 32 ∷ decimal n) (take l.number-index l.numbers))
    × (array_vec_len l.out ≤ array_vec_len l.fn.out + (1 + LONGEST_PLACE_TEXT) * l.number-index)
