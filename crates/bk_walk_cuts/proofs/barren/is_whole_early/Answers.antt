use Rattle.std.proofs.Common.{arith}
use Rattle.std.proofs.lemmas.Bool.Decides.{nat_tests}
use Rattle.bk_word.specs.Play.{IsComplete}
use Rattle.bk_catalogue.proofs.MoveCuts.Cutting.{one_segment_is_barren}
use Rattle.bk_walk_cuts.proofs.barren.is_whole_early.Goals as goal

pub returns-then-is_closed : goal.returns-then-is_closed
returns-then-is_closed c less class = let done : IsComplete c.args.skel.now = c.is_closed.ensures.0 c.if-is_closed.true in
    one_segment_is_barren c.args.order class c.args.skel.now done.some
    (let v = c.order.ensures.value in let f = c.from.ensures in grind (arith, nat_tests)) done.one
