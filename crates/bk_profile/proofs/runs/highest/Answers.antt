use Rattle.std.proofs.Common.{ap, arith, List, below_more, get_or, length, sym, ℕ, ◌+◌, ◌<◌, ◌≤◌, ◌∙◌}
use Rattle.std.proofs.lemmas.List.{get_or_default}
use Rattle.bk_profile.specs.declared.runs.OutlineRun.{OutlineRun}
use Rattle.bk_profile.proofs.runs.highest.Goals.{else-run-most, then-run-most}
use Rattle.bk_profile.proofs.runs.highest.Goals as goal

abbrev none : OutlineRun
none = record { width = 0; level = 0 }

-- a level that is at least all before it and one more is at least the first so many
most_more : (runs : List OutlineRun) (i most next : ℕ) → i < length runs → ((k : ℕ) (d : OutlineRun) → k < i → (get_or runs k d).level ≤ most) → most ≤ next
    → (get_or runs i none).level ≤ next → (k : ℕ) (d : OutlineRun) → k < i + 1 → (get_or runs k d).level ≤ next
most_more runs i most next few below up here k d low =
    below_more (λ (j : ℕ). (e : OutlineRun) → (get_or runs j e).level ≤ next) i (λ j before e. omega (arith, below j e before, up))
    (λ e. omega (arith, here, ap (λ (r : OutlineRun). r.level) (get_or_default runs i e none few))) k low d

pub loop-run-init : goal.loop-run-init
loop-run-init c = record {
  most = λ k d few. absurd (omega (arith, few));
  some = (0, c.requires, λ d. ap (λ (r : OutlineRun). r.level) (get_or_default c.args.outline.now 0 d none c.requires));
}

pub returns-clause-most : goal.returns-clause-most
returns-clause-most c = λ k d few. c.loop-run.invariant.most k d (omega (arith, few, c.loop-run-test.false))

pub returns-clause-some : goal.returns-clause-some
returns-clause-some c = c.loop-run.invariant.some

pub loop-run-preserved : goal.loop-run-preserved
loop-run-preserved c = elim c.if-run-most.branch [
  | then-run-most w ↦ record {
    most = most_more c.args.outline.now c.loop-run.run-index c.loop-run.most c.if-run-most.most c.loop-run-test.true c.loop-run.invariant.most
        (omega (arith, w.if-run-most.true, w.most-is)) (omega (arith, w.most-is));
    some = (
      c.loop-run.run-index,
      c.loop-run-test.true,
      λ d. ap (λ (r : OutlineRun). r.level) (get_or_default c.args.outline.now c.loop-run.run-index d none c.loop-run-test.true) ∙ sym w.most-is,
    );
  }
  | else-run-most w ↦ record {
    most = most_more c.args.outline.now c.loop-run.run-index c.loop-run.most c.if-run-most.most c.loop-run-test.true c.loop-run.invariant.most
        (omega (arith, w.most-is)) (omega (arith, w.if-run-most.false, w.most-is));
    some = let s = c.loop-run.invariant.some in (s.0, s.1, λ d. s.2 d ∙ sym w.most-is);
  }
]
