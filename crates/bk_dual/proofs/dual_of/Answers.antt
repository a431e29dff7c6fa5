use Rattle.std.proofs.Common.{ap, subst, sym, ◌∙◌}
use Rattle.bk_tiling.specs.Tiling.{IsTiling}
use Rattle.bk_sym.specs.Image.{image}
use Rattle.bk_sym.specs.declared.Turn.TheVariants.{Swap}
use Rattle.bk_net.specs.Flow.{Flow, IsOneFlow}
use Rattle.bk_net.specs.SmithFlow.{smith_flow}
use Rattle.bk_dual.proofs.Numbers.{dual_flow_is}
use Rattle.bk_dual.proofs.dual_of.Goals as goal

pub returns-clause-flow : goal.returns-clause-flow
returns-clause-flow c =
    let turned : IsTiling (image Swap c.args.tiling.now) = subst IsTiling c.image.ensures.value (c.image.ensures.kept).tiling in
    subst (λ (f : Flow). IsOneFlow c.net_of-net.result.0 f)
    (ap smith_flow c.image.ensures.value ∙ sym (dual_flow_is c.args.tiling.now turned))
    c.net_of-net.ensures.flow
