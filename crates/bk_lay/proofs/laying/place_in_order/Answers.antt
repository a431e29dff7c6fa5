use Rattle.std.proofs.Common.{rules}
use Rattle.std.proofs.lemmas.List.Sorted.{IsPartitionPoint-from_clause}
use Rattle.bk_tiling.proofs.Places.{parted_at}
use Rattle.bk_tiling.specs.CodeOrder.{comes_before}
use Rattle.bk_lay.proofs.CodePlaces.{count_of_front}
use Rattle.bk_lay.proofs.laying.place_in_order.Goals as goal
use Rattle.bk_lay.specs.LevelRuns.{corner}

pub returns-clause-count : goal.returns-clause-count
returns-clause-count c =
    let cut = IsPartitionPoint-from_clause (λ q. comes_before q (corner c.args.x c.args.level)) c.args.squares.now c.partition_point.result
    c.partition_point.ensures.partitioned
    (parted_at c.args.squares.now (corner c.args.x c.args.level) c.requires) (λ a r f' k. search rules) in
    count_of_front (λ q. comes_before q (corner c.args.x c.args.level)) c.args.squares.now c.partition_point.result c.partition_point.ensures.bound cut.0 cut.1
