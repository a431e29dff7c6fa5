use Rattle.std.proofs.Common.{List, arith, le_antisymm, subst, sym, ℕ, ◌+◌, ◌≡◌}
use Rattle.bk_profile.specs.OutlineRuns.{IsLowest}
use Rattle.bk_profile.specs.declared.runs.OutlineRun.{OutlineRun}
use Rattle.bk_profile.proofs.FindingLowest.{lowest_kept, lowest_longer, lowest_lower, lowest_one}
use Rattle.bk_profile.proofs.runs.lowest.Goals as goal
use Rattle.bk_profile.proofs.runs.lowest.Goals.{else-level-least+else-level-least-2, else-level-least+then-level-least-2+then-end-i, then-level-least}

-- the lowest runs, by other names of their places
named : (runs : List OutlineRun) (n a b first end : ℕ) → first ≡ a → end ≡ b → IsLowest runs n a b → IsLowest runs n first end
named runs n a b first end first_is end_is lowest =
    subst (λ (k : ℕ). IsLowest runs n k end) (sym first_is) (subst (λ (k : ℕ). IsLowest runs n a k) (sym end_is) lowest)

pub loop-i-preserved : goal.loop-i-preserved
loop-i-preserved c = elim c.if-level-least.branch [
  | then-level-least w ↦ named c.args.outline.now (c.loop-i.i + 1) c.loop-i.i (c.loop-i.i + 1) c.if-level-least.first c.if-level-least.end w.first-is w.end-is
      (lowest_lower c.args.outline.now c.loop-i.i c.loop-i.first c.loop-i.end c.loop-i.invariant c.loop-i-test.true w.if-level-least.true)
  | else-level-least+then-level-least-2+then-end-i w ↦ named c.args.outline.now (c.loop-i.i + 1) c.loop-i.first (c.loop-i.i + 1) c.if-level-least.first
      c.if-level-least.end w.first-is w.end-is
      (lowest_longer c.args.outline.now c.loop-i.i c.loop-i.first c.loop-i.end c.loop-i.invariant c.loop-i-test.true w.if-end-i.true
      w.if-level-least-2.true)
  | else-level-least+else-level-least-2 w ↦ named c.args.outline.now (c.loop-i.i + 1) c.loop-i.first c.loop-i.end c.if-level-least.first
      c.if-level-least.end w.first-is w.end-is
      (lowest_kept c.args.outline.now c.loop-i.i c.loop-i.first c.loop-i.end c.loop-i.invariant c.loop-i-test.true w.if-level-least.false
      (λ touches. omega (arith, w.if-level-least.false, w.else-level-least-2.either, touches)))
]

pub loop-i-init : goal.loop-i-init
loop-i-init c = lowest_one c.args.outline.now c.requires

pub offset_bounds-outline-i : goal.offset_bounds-outline-i
offset_bounds-outline-i c = omega (arith, c.loop-i-test.true)

pub bounds-outline-i : goal.bounds-outline-i
bounds-outline-i c = c.loop-i-test.true

pub offset_bounds-outline-first : goal.offset_bounds-outline-first
offset_bounds-outline-first c = omega (arith, c.loop-i.invariant.some, c.loop-i.invariant.within, c.loop-i-test.true)

pub bounds-outline-first : goal.bounds-outline-first
bounds-outline-first c = omega (arith, c.loop-i.invariant.some, c.loop-i.invariant.within, c.loop-i-test.true)

pub overflow_add-end : goal.overflow_add-end
overflow_add-end c = omega (arith, c.loop-i-test.true)

pub overflow_add-end-then-end-i : goal.overflow_add-end-then-end-i
overflow_add-end-then-end-i c = omega (arith, c.loop-i-test.true)

pub returns : goal.returns
returns c =
    subst (λ n. IsLowest c.args.outline.now n c.loop-i.first c.loop-i.end) (le_antisymm (c.loop-i.auto.i-end c.requires) c.loop-i-test.false)
    c.loop-i.invariant
