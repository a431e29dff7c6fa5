use Rattle.std.proofs.Common.{take, ◌*◌, ◌+◌, ◌++◌, ◌∷◌, ◌≡◌, ◌≤◌}
use Rattle.std.specs.Prelude.{decimal, flat_map}
use Rattle.arrayvec.specs.ArrayVec.{array_vec_len}
use Rattle.bk_report.proofs.net.push_sides.Given as goal

abbrev pub invariant-loop-q : goal.invariant-loop-q
invariant-loop-q l =
    (l.out.items ≡ l.fn.out.items ++ decimal l.tiling.width ++ flat_map (λ q. 32 ∷ decimal q.s) (take l.q-index l.q-items))
    × (array_vec_len l.out ≤ array_vec_len l.fn.out + 20 + 16 * l.q-index)
