use Rattle.std.proofs.Common.{List, [], ap, arith, get_or, sym, take, ℕ, ◌++◌, ◌+◌, ◌∙◌, ◌∷◌, ◌≡◌}
use Rattle.std.proofs.lemmas.List.{append_assoc, take_more}
use Rattle.std.proofs.lemmas.List.Sums.{sum_by_more}
use Rattle.bk_tiling.proofs.Group.{group_push}
use Rattle.bk_tiling.specs.SquareGroups.{laid_group}
use Rattle.bk_tiling.specs.declared.Square.{Square}
use Rattle.bk_tiling.proofs.hanging.push_group.Goals as goal

pub loop-side-preserved : goal.loop-side-preserved
loop-side-preserved c =
    let more : take (c.loop-side.side-index + 1) c.args.sides.now ≡ take c.loop-side.side-index c.args.sides.now
    ++ get_or c.args.sides.now c.loop-side.side-index 0 ∷ [] = take_more c.args.sides.now c.loop-side.side-index 0 c.loop-side-test.true in
    record {
      at = omega (arith, sum_by_more (λ (n : ℕ). n) c.args.sides.now c.loop-side.side-index 0 c.loop-side-test.true);
      count = omega (arith, c.push.ensures.len, c.loop-side.invariant.count);
      items = c.push.ensures.items
          ∙ ap (λ (l : List Square). l ++ (record { x = c.loop-side.x; y = c.args.gap.level; s = get_or c.args.sides.now c.loop-side.side-index 0 })
          ∷ []) c.loop-side.invariant.items
          ∙ append_assoc c.args.laid.now.items (laid_group c.args.gap.x c.args.gap.level (take c.loop-side.side-index c.args.sides.now)) _
          ∙ ap (λ n. c.args.laid.now.items ++ (laid_group c.args.gap.x c.args.gap.level (take c.loop-side.side-index c.args.sides.now)
          ++ (record { x = n; y = c.args.gap.level; s = get_or c.args.sides.now c.loop-side.side-index 0 }) ∷ [])) c.loop-side.invariant.at
          ∙ ap (λ (l : List Square). c.args.laid.now.items ++ l)
          (sym (group_push c.args.gap.x c.args.gap.level (take c.loop-side.side-index c.args.sides.now)
          (get_or c.args.sides.now c.loop-side.side-index 0)) ∙ ap (laid_group c.args.gap.x c.args.gap.level) (sym more));
    }
