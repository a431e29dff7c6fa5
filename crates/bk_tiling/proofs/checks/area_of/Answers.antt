use Rattle.std.proofs.Common.{arith, subst, sym, ℕ, ◌*◌, ◌+◌, ◌∙◌, ◌≤◌}
use Rattle.bk_tiling.proofs.Areas.{area_more, area_small}
use Rattle.bk_tiling.proofs.checks.area_of.Goals as goal

pub squares-preserved : goal.squares-preserved
squares-preserved c = record {
  area = (λ i. c.squares.invariant.area i + c.from.ensures i * c.from-in-squares.ensures i)
      ∙ sym (area_more c.args.squares.now c.squares.q-index (record { x = 0; y = 0; s = 0 }) c.squares-test.true);
  small = let product : c.from.result * c.from-in-squares.result ≤ 999999999999999 * 999999999999999 =
      subst (λ (n : ℕ). n ≤ 999999999999999 * 999999999999999) (sym (λ i. c.from.ensures i * c.from-in-squares.ensures i))
      (area_small c.args.squares.now c.squares.q-index (record { x = 0; y = 0; s = 0 }) c.squares-test.true c.requires.sides) in
      omega (arith, c.squares.invariant.small, product);
}
