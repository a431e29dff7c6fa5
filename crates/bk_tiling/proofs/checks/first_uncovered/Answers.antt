use Rattle.std.proofs.Common.{sym, ◌*◌, ◌∙◌}
use Rattle.bk_tiling.proofs.Areas.{covered_by_area}
use Rattle.bk_tiling.proofs.checks.first_uncovered.Goals as goal

pub returns-then-area_of-from-clause-none : goal.returns-then-area_of-from-clause-none
returns-then-area_of-from-clause-none c =
    covered_by_area c.args.width c.args.height c.args.squares.now c.requires.within c.requires.apart
    (sym c.area_of.ensures ∙ c.if-area_of-from.true ∙ (λ i. c.from.ensures i * c.from-2.ensures i))
