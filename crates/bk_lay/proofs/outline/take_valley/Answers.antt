use Rattle.std.proofs.Common.{List, [], ap, arith, length, lit<, subst, sym, ◌∷◌}
use Rattle.std.proofs.lemmas.List.{length-append}
use Rattle.arrayvec.specs.ArrayVec.{ArrayVec}
use Rattle.bk_lay.proofs.MeetingRuns.{falls_on, joins}
use Rattle.bk_lay.specs.LevelRuns.{AreBeside, IsDeeperAtEnd}
use Rattle.bk_lay.specs.declared.outline.LevelRun.{LevelRun}
use Rattle.bk_lay.proofs.outline.take_valley.Goals as goal

pub falling-preserved-then-next-valley : goal.falling-preserved-then-next-valley
falling-preserved-then-next-valley c = record {
  beside = λ width laid m. subst (λ (l : List LevelRun). AreBeside width laid l c.in-Some.next c.pop_no_deeper.new.runs.items) (sym c.push.ensures.items)
      (falls_on width laid c.falling.left.items c.falling.valley c.pop_no_deeper.new.runs.items c.in-Some.next
      (subst (λ (l : List LevelRun). AreBeside width laid c.falling.left.items c.falling.valley l) c.in-Some.ensures.taken.0
      (c.falling.invariant.beside width laid m)) c.if-next-valley.true);
  fewer = omega (
    arith,
    c.push.ensures.len,
    ap length c.in-Some.ensures.taken.0,
    length-append c.pop_no_deeper.new.runs.items (c.in-Some.next ∷ []),
    c.falling.invariant.fewer,
  );
}

pub falling-preserved : goal.falling-preserved
falling-preserved c = record {
  beside = λ width laid m. joins width laid c.falling.left.items c.falling.valley c.pop_no_deeper.new.runs.items c.in-Some.next
      (subst (λ (l : List LevelRun). AreBeside width laid c.falling.left.items c.falling.valley l) c.in-Some.ensures.taken.0
      (c.falling.invariant.beside width laid m)) (omega (arith, c.in-Some.ensures.taken.1, c.if-next-valley.false));
  fewer = omega (arith, ap length c.in-Some.ensures.taken.0, length-append c.pop_no_deeper.new.runs.items (c.in-Some.next ∷ []), c.falling.invariant.fewer);
}

pub returns-clause-beside : goal.returns-clause-beside
returns-clause-beside c width laid m =
    subst (λ (v : ArrayVec LevelRun). AreBeside width laid c.falling.left.items c.falling.valley v.items) (sym c.in_default.ensures.kept.0)
    (c.falling.invariant.beside width laid m)

pub take_last-valley-requires : goal.take_last-valley-requires
take_last-valley-requires c = c.requires.some

pub falling-init : goal.falling-init
falling-init c = record { beside = c.take_last-valley.ensures.beside; fewer = omega (arith, c.take_last-valley.ensures.fewer) }

pub push-requires : goal.push-requires
push-requires c = (lit< tt, omega (arith, c.falling.invariant.fewer, c.requires.room))

pub falling-smaller-then-next-valley : goal.falling-smaller-then-next-valley
falling-smaller-then-next-valley c = omega (
  arith,
  ap length c.in-Some.ensures.taken.0,
  length-append c.pop_no_deeper.new.runs.items (c.in-Some.next ∷ []),
)

pub falling-smaller : goal.falling-smaller
falling-smaller c = omega (
  arith,
  ap length c.in-Some.ensures.taken.0,
  length-append c.pop_no_deeper.new.runs.items (c.in-Some.next ∷ []),
)

pub returns-clause-deeper : goal.returns-clause-deeper
returns-clause-deeper c =
    subst (λ (v : ArrayVec LevelRun). IsDeeperAtEnd c.falling.valley.level v.items) (sym c.in_default.ensures.kept.0) c.in_default.ensures.kept.1

pub returns-clause-fewer : goal.returns-clause-fewer
returns-clause-fewer c = omega (arith, ap (λ (v : ArrayVec LevelRun). length v.items) c.in_default.ensures.kept.0, c.falling.invariant.fewer)
