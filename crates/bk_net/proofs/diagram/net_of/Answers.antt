use Rattle.std.proofs.Common.{[], ap, arith, length, subst, sym, ◌++◌, ◌∙◌, ◌∷◌}
use Rattle.std.proofs.lemmas.List.{length-map}
use Rattle.bk_tiling.specs.SquareGroups.{square_groups}
use Rattle.bk_net.proofs.Hanging.{groups_few}
use Rattle.bk_net.proofs.SidesFlow.{the_one_flow}
use Rattle.bk_net.specs.Diagram.{group_level}
use Rattle.bk_net.specs.Flow.{IsOneFlow}
use Rattle.bk_net.specs.Net.{HasNoLoose, Net}
use Rattle.bk_net.specs.SmithFlow.{smith_flow}
use Rattle.bk_net.proofs.diagram.net_of.Goals as goal

pub returns-clause-joined : goal.returns-clause-joined
returns-clause-joined c = subst HasNoLoose (sym c.wired-net.ensures) (the_one_flow c.args.tiling.now (c.height.ensures.kept).tiling).1

pub returns-clause-flow : goal.returns-clause-flow
returns-clause-flow c =
    subst (λ (net : Net). IsOneFlow net (smith_flow c.args.tiling.now)) (sym c.wired-net.ensures)
    (the_one_flow c.args.tiling.now (c.height.ensures.kept).tiling).2

pub len-requires : goal.len-requires
len-requires c = omega arith

-- there are at most 200 groups, so no more levels
pub overflow_cast-len : goal.overflow_cast-len
overflow_cast-len c = omega (arith, c.len.ensures.value, c.len.ensures.fits)

pub as_slice-requires : goal.as_slice-requires
as_slice-requires c = omega arith

pub wired-net-requires-clause-bottom : goal.wired-net-requires-clause-bottom
wired-net-requires-clause-bottom c =
    c.len.ensures.value ∙ ap length c.groups_of-levels.ensures.levels ∙ length-map (square_groups c.args.tiling.now.squares) group_level

pub wired-net-requires-clause-nodes : goal.wired-net-requires-clause-nodes
wired-net-requires-clause-nodes c = c.as_slice.ensures.value ∙ c.groups_of-levels.ensures.nodes

pub push-requires : goal.push-requires
push-requires c =
    let kept = c.height.ensures.kept in (
      omega arith,
      omega (
        arith,
        ap length c.groups_of-levels.ensures.levels,
        length-map (square_groups c.args.tiling.now.squares) group_level,
        groups_few c.args.tiling.now.squares,
        kept.few,
      ),
    )

pub returns-clause-diagram : goal.returns-clause-diagram
returns-clause-diagram c = c.wired-net.ensures

pub returns-clause-levels : goal.returns-clause-levels
returns-clause-levels c = c.push.ensures.items ∙ (λ k. c.groups_of-levels.ensures.levels k ++ c.height.ensures.value k ∷ [])
