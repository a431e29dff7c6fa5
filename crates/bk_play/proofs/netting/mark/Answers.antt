use Rattle.std.proofs.lemmas.Grind.{common_steps}
use Rattle.std.specs.List.{list_any}
use Rattle.std.proofs.Common.{List, ap, arith, cond, nat_eq, slice_index, take_all, ℕ, ◌+◌, ◌∙◌}
use Rattle.bk_play.proofs.netting.mark.Goals as goal

pub loop-square-preserved : goal.loop-square-preserved
loop-square-preserved c = grind (arith, common_steps)

pub returns : goal.returns
returns c k h =
    let i = c.loop-square.invariant in
    let all = take_all c.loop-square.square-index c.args.squares.now c.loop-square-test.false in
    i.marked k h ∙ ap (λ (l : List ℕ). cond (list_any (nat_eq (k + 1)) l) c.args.node (slice_index c.args.ended.now k)) all
