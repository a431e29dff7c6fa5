use Rattle.std.proofs.Common.{ap, arith, length, rules, ◌≡◌}
use Rattle.std.specs.List.Sorted.{IsPartitionPoint}
use Rattle.std.specs.Prelude.{false, true}
use Rattle.std.proofs.lemmas.List.Sorted.{IsPartitionPoint-from_clause}
use Rattle.bk_tiling.specs.CodeOrder.{is_no_later}
use Rattle.bk_net.proofs.SquareNumbers.{parted_at_cell}
use Rattle.bk_dual.proofs.Numbers.{count_no_later}
use Rattle.bk_dual.proofs.number_of.Goals as goal

pub returns : goal.returns
returns c =
    let kept = c.squares-squares.ensures.kept in
    let same = c.squares-squares.ensures.value in
    let order = parted_at_cell c.args.tiling.now.squares kept.tiling.ordered c.args.q.x c.args.q.y in
    let parts : IsPartitionPoint (λ r. is_no_later c.args.q.x c.args.q.y r ≡ true) (λ r. is_no_later c.args.q.x c.args.q.y r ≡ false)
    c.squares-squares.result.now c.partition_point.result =
    IsPartitionPoint-from_clause (is_no_later c.args.q.x c.args.q.y) c.squares-squares.result.now c.partition_point.result
    c.partition_point.ensures.partitioned (rw (← same) at order) (λ a r f h. search rules) in
    count_no_later c.args.tiling.now.squares kept.tiling.ordered c.args.q c.requires.one c.partition_point.result
    (omega (arith, ap length same, c.partition_point.ensures.bound)) (rw same at parts)
