use Rattle.std.proofs.Common.{take, ◌*◌, ◌+◌, ◌++◌, ◌∷◌, ◌≡◌, ◌≤◌}
use Rattle.std.specs.Fmt.{signed_decimal}
use Rattle.std.specs.Prelude.{flat_map}
use Rattle.arrayvec.specs.ArrayVec.{array_vec_len}
use Rattle.bk_report.proofs.flow.push_currents.Given as goal

abbrev pub invariant-loop-current : goal.invariant-loop-current
invariant-loop-current l =
    (l.out.items ≡ l.fn.out.items ++ flat_map (λ c. 32 ∷ signed_decimal c) (take l.current-index l.currents))
    × (array_vec_len l.out ≤ array_vec_len l.fn.out + 41 * l.current-index)
