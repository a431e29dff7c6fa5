use Rattle.std.proofs.Common.{ap, arith, length, ◌∙◌}
use Rattle.bk_net.proofs.NodeNumbers.{at_bottom, lower_edge_fits, numbers_many}
use Rattle.bk_net.proofs.diagram.node_below.Goals as goal

pub overflow_add-q : goal.overflow_add-q
overflow_add-q c = omega (arith, lower_edge_fits c.args.tiling.now c.height-height.ensures.kept c.args.q c.requires.one)

pub returns-then-q-height : goal.returns-then-q-height
returns-then-q-height c =
    c.requires.bottom ∙ at_bottom c.args.tiling.now (c.height-height.ensures.kept).tiling c.args.q c.requires.one (c.if-q-height.true
    ∙ c.height-height.ensures.value)

pub bounds-nodes-place_below : goal.bounds-nodes-place_below
bounds-nodes-place_below c =
    let kept = c.height-height.ensures.kept in
    omega (arith, ap length c.requires.nodes, numbers_many c.args.tiling.now kept.tiling, c.place_below.ensures.within)
