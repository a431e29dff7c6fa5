use Rattle.std.proofs.Common.{take, ◌*◌, ◌+◌, ◌++◌, ◌∷◌, ◌≡◌, ◌≤◌}
use Rattle.std.specs.Prelude.{decimal, flat_map}
use Rattle.arrayvec.specs.ArrayVec.{array_vec_len}
use Rattle.bk_report.specs.Answers.{wire_text}
use Rattle.bk_report.specs.declared.net.TheConstants.{LONGEST_PLACE_TEXT, LONGEST_WIRE_TEXT}
use Rattle.bk_report.proofs.net.push_net.Given as goal

abbrev pub invariant-loop-from : goal.invariant-loop-from
invariant-loop-from l =
    (l.out.items ≡ l.fn.out.items ++ decimal l.net.nodes ++ flat_map (λ w. 32 ∷ wire_text w) (take l.from-index l.from-items))
    × (array_vec_len l.out ≤ array_vec_len l.fn.out + LONGEST_PLACE_TEXT + LONGEST_WIRE_TEXT * l.from-index)
