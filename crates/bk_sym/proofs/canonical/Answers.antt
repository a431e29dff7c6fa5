use Rattle.std.proofs.Common.{sym, ◌∙◌}
use Rattle.bk_sym.proofs.Greatest.{canonical_of}
use Rattle.bk_sym.proofs.OwnCanonical.{scaled-one}
use Rattle.bk_sym.proofs.canonical.Goals as goal

pub returns-then-side_divisor-eq1-clause-canonical : goal.returns-then-side_divisor-eq1-clause-canonical
returns-then-side_divisor-eq1-clause-canonical c =
    canonical_of c.args.tiling.now c.args.tiling.now c.greatest_image.result
    (sym (scaled-one c.args.tiling.now c.side_divisor.ensures.kept.tiling (sym c.side_divisor.ensures.value ∙ c.if-side_divisor-eq1.true)))
    c.greatest_image.ensures.greatest
