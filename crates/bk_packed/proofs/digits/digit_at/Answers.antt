use Rattle.std.proofs.Common.{ap, arith, ◌%◌, ◌*◌, ◌-◌, ◌/◌, ◌^◌, ◌∙◌, ◌≡◌}
use Rattle.bk_laws.proofs.Multiples.{pow_two-even_is_pow_four}
use Rattle.bk_packed.proofs.digits.digit_at.Goals as goal

pub returns : goal.returns
returns c =
    let e : 126 - 2 * c.args.place ≡ 2 * (63 - c.args.place) = omega arith in
    ap (λ n. c.args.number / n % 4) (ap (λ k. 2 ^ k) e ∙ pow_two-even_is_pow_four (63 - c.args.place))
