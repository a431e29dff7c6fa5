use Rattle.std.proofs.Common.{arith, ◌<◌, ◌^◌, ◌≡◌}
use Rattle.bk_frac.proofs.Coprime.{gcd-below}
use Rattle.bk_frac.specs.Divisor.{gcd}
use Rattle.bk_sym.proofs.common.Goals as goal

pub overflow_cast-result : goal.overflow_cast-result
overflow_cast-result c =
    let e : c.gcd.result ≡ gcd c.args.a c.args.b = cc in
    let small : gcd c.args.a c.args.b < 2 ^ 64 = gcd-below c.args.a c.args.b (2 ^ 64) (omega arith) (omega arith) in
    omega (arith, e, small)
