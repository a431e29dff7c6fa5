use Rattle.std.proofs.Common.{ap, arith, length, rules, ◌+◌, ◌≡◌}
use Rattle.std.specs.List.Sorted.{IsPartitionPoint}
use Rattle.std.specs.Prelude.{false, true}
use Rattle.std.proofs.lemmas.List.Sorted.{IsPartitionPoint-from_clause}
use Rattle.bk_net.proofs.NodeNumbers.{IsFound, lower_edge_fits, node_below_found}
use Rattle.bk_tiling.specs.CodeOrder.{is_no_later}
use Rattle.bk_net.proofs.SquareNumbers.{parted_at_cell}
use Rattle.bk_net.proofs.diagram.place_below.Goals as goal

pub overflow_add-level : goal.overflow_add-level
overflow_add-level c = omega (arith, lower_edge_fits c.args.tiling.now c.squares-squares.ensures.kept c.args.q c.requires.one)

place : (c : goal.After-partition_point-after)
    → IsFound c.args.tiling.now (c.squares-squares.ensures.kept).tiling c.args.q c.requires.one c.partition_point-after.result
place c =
    let kept = c.squares-squares.ensures.kept in
    let same = c.squares-squares.ensures.value in
    let order = parted_at_cell c.args.tiling.now.squares kept.tiling.ordered c.args.q.x (c.args.q.y + c.args.q.s) in
    let parts : IsPartitionPoint (λ r. is_no_later c.args.q.x (c.args.q.y + c.args.q.s) r ≡ true)
    (λ r. is_no_later c.args.q.x (c.args.q.y + c.args.q.s) r ≡ false) c.squares-squares.result.now c.partition_point-after.result =
    IsPartitionPoint-from_clause (is_no_later c.args.q.x (c.args.q.y + c.args.q.s)) c.squares-squares.result.now c.partition_point-after.result
    c.partition_point-after.ensures.partitioned (rw (← same) at order) (λ a r f h. search rules) in
    node_below_found c.args.tiling.now kept.tiling c.args.q c.requires.one c.partition_point-after.result c.requires.above
    (omega (arith, ap length same, c.partition_point-after.ensures.bound)) (rw same at parts)

pub overflow_sub-result : goal.overflow_sub-result
overflow_sub-result c = (place c).some

pub returns-clause-within : goal.returns-clause-within
returns-clause-within c = omega (arith, ap length c.squares-squares.ensures.value, c.partition_point-after.ensures.bound, (place c).some)

pub returns-clause-node : goal.returns-clause-node
returns-clause-node c = (place c).is
