use Rattle.std.proofs.Common.{drop, length, ◌*◌, ◌+◌, ◌++◌, ◌≡◌, ◌≤◌}
use Rattle.arrayvec.specs.ArrayVec.{array_vec_len}
use Rattle.bk_report.specs.Templates.{filled}
use Rattle.bk_report.proofs.template.push_filled.Given as goal

abbrev pub invariant-loop-byte : goal.invariant-loop-byte
invariant-loop-byte l =
    (l.out.items ++ filled (drop l.byte-index l.text) (drop l.next l.numbers) ≡ l.fn.out.items ++ filled l.text l.numbers)
    × (array_vec_len l.out ≤ array_vec_len l.fn.out + l.byte-index + 20 * l.next)
    × (l.next ≤ length l.numbers)
