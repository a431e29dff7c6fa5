use Rattle.std.proofs.Common.{ap, arith, length-take-le, sym}
use Rattle.std.proofs.lemmas.List.{get_or_default}
use Rattle.bk_profile.proofs.RunStarts.{no_run, start_below, start_between}
use Rattle.bk_profile.specs.declared.runs.OutlineRun.{OutlineRun}
use Rattle.bk_profile.proofs.runs.segment.Goals as goal

pub slice_bounds-columns-end : goal.slice_bounds-columns-end
slice_bounds-columns-end c = sym (length-take-le c.args.first c.args.outline.now (omega (arith, c.requires.order, c.requires.within)))

pub columns-requires : goal.columns-requires
columns-requires c = omega (arith, start_below c.args.outline.now c.args.first, c.requires.narrow)

pub columns-requires-2 : goal.columns-requires-2
columns-requires-2 c =
    omega (
      arith,
      start_between c.args.outline.now c.args.first c.args.end (omega (arith, c.requires.order)),
      start_below c.args.outline.now c.args.end,
      c.requires.narrow,
    )

pub offset_bounds-outline-first : goal.offset_bounds-outline-first
offset_bounds-outline-first c = omega (arith, c.requires.order, c.requires.within)

pub bounds-outline-first : goal.bounds-outline-first
bounds-outline-first c = omega (arith, c.requires.order, c.requires.within)

pub returns-clause-x : goal.returns-clause-x
returns-clause-x c = c.columns.ensures

pub returns-clause-end : goal.returns-clause-end
returns-clause-end c =
    omega (
      arith,
      c.columns.ensures,
      c.columns-2.ensures,
      start_between c.args.outline.now c.args.first c.args.end (omega (arith, c.requires.order)),
    )

pub returns-clause-level : goal.returns-clause-level
returns-clause-level c =
    λ d. ap (λ (r : OutlineRun). r.level) (get_or_default c.args.outline.now c.args.first no_run d (omega (arith, c.requires.order, c.requires.within)))
