use Rattle.std.proofs.Common.{IsTrue, arith, bit_and, nat_eq, not, rules, subst, ℕ, ◌<◌, ◌^◌, ◌≢◌}
use Rattle.std.proofs.lemmas.Nat.{and_le_r}
use Rattle.bk_laws.proofs.Bits.{bit_at-and_left, bit_at-and_right, some_bit-of_positive}
use Rattle.bk_free_search.proofs.node_lines.touch_both.Goals as goal

not_zero : (x : ℕ) → IsTrue (not (nat_eq x 0)) → x ≢ 0
not_zero x told e = absurd (let zero : IsTrue (not (nat_eq 0 0)) = subst (λ (n : ℕ). IsTrue (not (nat_eq n 0))) e told in cc)

pub returns : goal.returns
returns c told =
    let below : c.args.rights.bits < 2 ^ 32 = search rules in
    let both = some_bit-of_positive (bit_and c.lines_with.result.bits c.args.rights.bits)
    (omega (arith, below, and_le_r c.lines_with.result.bits c.args.rights.bits))
    (omega (arith, not_zero (bit_and c.lines_with.result.bits c.args.rights.bits) told)) in record {
      right = both.0;
      in_rights = bit_at-and_right c.lines_with.result.bits c.args.rights.bits both.0 both.1;
      touches = c.lines_with.ensures both.0 (bit_at-and_left c.lines_with.result.bits c.args.rights.bits both.0 both.1);
    }
