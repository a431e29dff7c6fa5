use Rattle.std.proofs.Common.{List, arith, get_or, length, lit<, lt_of_lt_of_le, subst, sym, ◌<◌, ◌∙◌}
use Rattle.bk_profile.proofs.RunStarts.{no_run}
use Rattle.bk_profile.proofs.Storing.{least_read, some_runs}
use Rattle.bk_profile.specs.Laid.{IsLeastDepth, Laid}
use Rattle.bk_profile.specs.declared.runs.OutlineRun.{OutlineRun}
use Rattle.bk_profile.proofs.profile.Profile.least.Goals as goal

pub returns : goal.returns
returns c =
    subst (λ (p : Laid). IsLeastDepth p (get_or c.deref-2.result.now c.lowest-first.result.0 no_run).level) c.self.view_is
    (least_read _ _ _ _ c.lowest-first.result c.self.invariant c.deref.ensures.0 c.deref-2.ensures.0 c.lowest-first.ensures)

pub deref-requires : goal.deref-requires
deref-requires c = lit< tt

pub lowest-first-requires : goal.lowest-first-requires
lowest-first-requires c = subst (λ (l : List OutlineRun). 0 < length l) (sym c.deref.ensures.0) (some_runs _ _ c.self.invariant)

pub deref-requires-2 : goal.deref-requires-2
deref-requires-2 c = lit< tt

pub offset_bounds-deref-first : goal.offset_bounds-deref-first
offset_bounds-deref-first c = omega (arith, c.deref.type_inv.1, c.lowest-first.ensures.some, c.lowest-first.ensures.within)

pub bounds-deref-first : goal.bounds-deref-first
bounds-deref-first c =
    subst (λ (l : List OutlineRun). c.lowest-first.result.0 < length l) (c.deref.ensures.0 ∙ sym c.deref-2.ensures.0)
    (lt_of_lt_of_le c.lowest-first.ensures.some c.lowest-first.ensures.within)
