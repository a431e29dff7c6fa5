-- One line more for each square but the first.
use Rattle.std.proofs.Common.{ap, arith, replicate, ◌++◌, ◌-◌, ◌∙◌, ◌∷◌, append_assoc, []}
use Rattle.std.proofs.lemmas.List.{replicate-append-replicate}
use Rattle.bk_walk_cuts.proofs.lined.push_lines.Goals as goal

pub others-init : goal.others-init
others-init g c = record { items = c.push.ensures.items; count = c.push.ensures.len; some = omega arith }

pub others-preserved : goal.others-preserved
others-preserved g c = record {
  items = c.push-in-others.ensures.items ∙ ap (λ l. l ++ c.args.is_first ∷ []) c.others.invariant.items
      ∙ append_assoc c.args.lines.now.items (c.args.valley ∷ replicate (c.others.counter - 1) c.args.is_first) (c.args.is_first ∷ [])
      ∙ ap (λ l. c.args.lines.now.items ++ c.args.valley ∷ l) (replicate-append-replicate (c.others.counter - 1) 1 c.args.is_first)
      ∙ ap (λ k. c.args.lines.now.items ++ c.args.valley ∷ replicate k c.args.is_first) (omega (arith, c.others.invariant.some));
  count = omega (arith, c.push-in-others.ensures.len, c.others.invariant.count);
  some = omega arith;
}

pub returns : goal.returns
returns g c = c.others.invariant.items ∙ ap (λ k. c.args.lines.now.items ++ c.args.valley ∷ replicate (k - 1) c.args.is_first)
    (omega (arith, c.others-test.false, c.others.auto.counter-end, c.others.invariant.some, c.requires.some))
