use Rattle.std.proofs.Common.{[], arith, refl, subst, ℕ}
use Rattle.bk_tiling.proofs.TilingLaws.{wide_enough}
use Rattle.bk_lay.proofs.LaidMoveLaws.{laid_at_start}
use Rattle.bk_lay.specs.LevelRuns.{IsOutline}
use Rattle.bk_lay.proofs.laying.Laying.begin.Goals as goal

pub begin-requires : goal.begin-requires
begin-requires c = omega (arith, wide_enough c.args.tiling.now c.width.ensures.kept.tiling, c.width.ensures.value)

pub returns-clause-laid : goal.returns-clause-laid
returns-clause-laid c = laid_at_start c.args.tiling.now c.width.ensures.kept [] c.begin.new.self refl
    (subst (λ (width : ℕ). IsOutline width [] c.begin.new.self) c.width.ensures.value c.begin.ensures.outline) c.begin.ensures.alone
