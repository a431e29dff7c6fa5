use Rattle.std.proofs.Common.{arith, ◌≡◌}
use Rattle.bk_tiling.specs.Tiling.{Tiling}
use Rattle.bk_sym.proofs.OwnCanonical.{own_from, own_greatest, own_one}
use Rattle.bk_sym.proofs.ScaledDown.{side_divisor}
use Rattle.bk_sym.proofs.is_canonical.Goals as goal

pub returns-then-side_divisor-gt1 : goal.returns-then-side_divisor-gt1
returns-then-side_divisor-gt1 c = (
  λ e. cc,
  λ own. absurd (omega (arith, c.if-side_divisor-gt1.true, c.side_divisor.ensures.value, own_one c.args.tiling.now c.height.ensures.kept.tiling own)),
)

pub returns : goal.returns
returns c =
    let t : Tiling = c.args.tiling.now in
    let one : side_divisor t ≡ 1 = omega (arith, c.if-side_divisor-gt1.false, c.side_divisor.ensures.value, c.side_divisor.ensures.some) in (
      λ h. own_from t c.height.ensures.kept.tiling (omega (arith, c.height.ensures.value, c.width.ensures.value)) one (c.is_greatest.ensures.0 h),
      λ own. c.is_greatest.ensures.1 (own_greatest t c.height.ensures.kept.tiling own),
    )
