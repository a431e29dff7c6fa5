use Rattle.std.proofs.Common.{ap, arith, get_or, refl, sym, take_all, ◌+◌, ◌∙◌}
use Rattle.bk_profile.specs.OutlineRuns.{width_of}
use Rattle.bk_profile.proofs.RunStarts.{no_run, start_below, start_more}
use Rattle.bk_profile.proofs.runs.columns.Goals as goal

pub overflow_add-total : goal.overflow_add-total
overflow_add-total c = omega (
  arith,
  start_more c.args.outline.now c.loop-run.run-index no_run c.loop-run-test.true,
  start_below c.args.outline.now (c.loop-run.run-index + 1),
  c.requires,
  c.loop-run.invariant,
)

pub loop-run-init : goal.loop-run-init
loop-run-init c = refl

pub offset_bounds-outline-run-index : goal.offset_bounds-outline-run-index
offset_bounds-outline-run-index c = omega (arith, c.loop-run-test.true)

pub loop-run-preserved : goal.loop-run-preserved
loop-run-preserved c =
    ap (λ n. n + (get_or c.args.outline.now c.loop-run.run-index no_run).width) c.loop-run.invariant
    ∙ sym (start_more c.args.outline.now c.loop-run.run-index no_run c.loop-run-test.true)

pub returns : goal.returns
returns c = c.loop-run.invariant ∙ ap width_of (take_all c.loop-run.run-index c.args.outline.now c.loop-run-test.false)
