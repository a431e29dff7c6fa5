use Rattle.std.proofs.Common.{arith, rules, bit_and, ◌<◌, ◌^◌}
use Rattle.std.proofs.lemmas.Nat.{and_le_l}
use Rattle.bk_laws.proofs.Bits.{bit_at-and_left, bit_at-and_right, some_bit-of_positive}
use Rattle.bk_free_search.proofs.node_lines.lines_if.Goals as goal

pub returns-then-lines-set-ne0-clause-touches : goal.returns-then-lines-set-ne0-clause-touches
returns-then-lines-set-ne0-clause-touches c line has =
    let below : c.args.lines.bits < 2 ^ 32 = search rules in
    let both = some_bit-of_positive (bit_and c.args.lines.bits c.args.set.bits) (omega (arith, below, and_le_l c.args.lines.bits c.args.set.bits))
    (omega (arith, c.if-lines-set-ne0.true)) in
    (both.0, bit_at-and_right c.args.lines.bits c.args.set.bits both.0 both.1, bit_at-and_left c.args.lines.bits c.args.set.bits both.0 both.1)
