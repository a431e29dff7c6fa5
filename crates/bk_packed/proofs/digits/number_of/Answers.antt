use Rattle.std.proofs.Common.{ap, arith, drop, refl, ◌+◌, ◌-◌, ◌∙◌, ◌≡◌}
use Rattle.bk_packed.specs.Packed.{begun_by}
use Rattle.bk_packed.proofs.BaseFour.{IsSumFrom, digit_sum_with_one_more_in_front}
use Rattle.bk_packed.proofs.digits.number_of.Goals as goal

next : (c : goal.After-from) → IsSumFrom c.args.digits.now (c.digits.i - 1) c.digits.number 85070591730234615865843651857942052864 c.from.result
next c =
    let same : c.digits.i ≡ c.digits.i - 1 + 1 = omega (arith, c.digits-test.true) in
    digit_sum_with_one_more_in_front c.args.digits.now (c.digits.i - 1) c.digits.number 85070591730234615865843651857942052864 c.from.result
    (omega (arith, c.digits-test.true, c.digits.invariant.within)) c.requires.few c.requires.digits
    (c.digits.invariant.sum ∙ ap (λ k. begun_by 64 (drop k c.args.digits.now)) same) refl c.from.ensures

pub overflow_mul-number : goal.overflow_mul-number
overflow_mul-number c = omega (arith, (next c).small)

pub overflow_add-number : goal.overflow_add-number
overflow_add-number c = omega (arith, (next c).small)

pub digits-preserved : goal.digits-preserved
digits-preserved c = record { within = omega (arith, c.digits.invariant.within); sum = (next c).sum }
