use Rattle.std.proofs.Common.{Err, List, Ok, [], arith, get_or, length, refl, subst, sym, ℕ, ◌+◌, ◌<◌, ◌≡◌}
use Rattle.std.proofs.lemmas.List.Elements.{All-from_recursion}
use Rattle.std.specs.List.{AllByRecursion}
use Rattle.bk_code.specs.Code.{Code}
use Rattle.bk_code.specs.KeptCode.{IsKeptCode, IsSideGroup}
use Rattle.bk_tiling.specs.KeptTiling.{IsSide}
use Rattle.bk_profile.proofs.FirstGroup.{first_step}
use Rattle.bk_profile.proofs.LayingSteps.{ends_ok, ends_only, is_laid_out, misfit_step, next_step, open_refused, read_room, refused_has_none}
use Rattle.bk_profile.specs.Refused.{Misfits, first_sum}
use Rattle.bk_profile.specs.declared.laying.Refusal.TheVariants.{Gap}
use Rattle.bk_profile.proofs.laying.lay_code_in.Goals as goal

-- the first group of a kept code has sides that squares may have
first_good : (code : Code) {group : List ℕ} → IsKeptCode code → 0 < length code → group ≡ get_or code 0 [] → IsSideGroup group
first_good code kept some is = subst IsSideGroup (sym is) (All-from_recursion IsSideGroup code kept.groups 0 [] some)

pub lay-requires-clause-room : goal.lay-requires-clause-room
lay-requires-clause-room c = read_room c.args.code.now c.loop-g.g c.group-in-loop-g.result.now _ c.groups-count.ensures.kept
    (omega (arith, c.loop-g-test.true, c.groups-count.ensures.value)) c.group-in-loop-g.ensures c.loop-g.invariant.count

pub returns-in-Err-clause-refused : goal.returns-in-Err-clause-refused
returns-in-Err-clause-refused c =
    misfit_step c.args.code.now c.loop-g.g c.group-in-loop-g.result.now c.loop-g.profile _ _ c.loop-g.invariant
    (omega (arith, c.loop-g-test.true, c.groups-count.ensures.value)) c.group-in-loop-g.ensures c.in-Err.ensures.err

pub returns-in-Err-clause-only : goal.returns-in-Err-clause-only
returns-in-Err-clause-only c t has =
    let misfit : Misfits (first_sum c.args.code.now) c.args.code.now (c.loop-g.g + 1) c.in-Err.fault.gap c.in-Err.fault.sum =
    misfit_step c.args.code.now c.loop-g.g c.group-in-loop-g.result.now c.loop-g.profile _ _ c.loop-g.invariant
    (omega (arith, c.loop-g-test.true, c.groups-count.ensures.value)) c.group-in-loop-g.ensures c.in-Err.ensures.err in
    absurd (refused_has_none c.args.code.now (Gap (c.loop-g.g + 1) c.in-Err.fault.gap c.in-Err.fault.sum) c.requires misfit t has)

pub loop-g-preserved : goal.loop-g-preserved
loop-g-preserved c = next_step c.args.code.now c.loop-g.g c.group-in-loop-g.result.now c.loop-g.profile c.lay.new.self c.loop-g.invariant
    (omega (arith, c.loop-g-test.true, c.groups-count.ensures.value)) c.group-in-loop-g.ensures c.in_default.ensures.ok

pub returns-in-Ok-clause-ok : goal.returns-in-Ok-clause-ok
returns-in-Ok-clause-ok c = ends_ok c.args.code.now c.loop-g.g c.loop-g.profile c.groups-count.ensures.kept c.requires c.loop-g.invariant
    (omega (arith, c.loop-g-test.false, c.groups-count.ensures.value)) (Ok c.leave_tiling.new.tiling) c.leave_tiling.ensures

pub returns-in-Ok-clause-only : goal.returns-in-Ok-clause-only
returns-in-Ok-clause-only c t has = (
  refl,
  ends_only c.args.code.now c.loop-g.g c.loop-g.profile c.groups-count.ensures.kept c.requires c.loop-g.invariant
      (omega (arith, c.loop-g-test.false, c.groups-count.ensures.value)) (Ok c.leave_tiling.new.tiling) c.leave_tiling.ensures tt t has,
)

pub returns-in-Err-even_height-clause-only : goal.returns-in-Err-even_height-clause-only
returns-in-Err-even_height-clause-only c t has =
    absurd (ends_only c.args.code.now c.loop-g.g c.loop-g.profile c.groups-count.ensures.kept c.requires c.loop-g.invariant
    (omega (arith, c.loop-g-test.false, c.groups-count.ensures.value)) (Err c.in-Err-even_height.refusal) tt c.in-Err-even_height.ensures.uneven t has)

pub group-requires : goal.group-requires
group-requires c = c.requires

pub group-requires-in-loop-g : goal.group-requires-in-loop-g
group-requires-in-loop-g c = omega (arith, c.loop-g-test.true, c.groups-count.ensures.value)

pub lay-requires-clause-some : goal.lay-requires-clause-some
lay-requires-clause-some c =
    subst (λ (l : List ℕ). 0 < length l) (sym c.group-in-loop-g.ensures)
    (All-from_recursion IsSideGroup c.args.code.now c.groups-count.ensures.kept.groups c.loop-g.g []
    (omega (arith, c.loop-g-test.true, c.groups-count.ensures.value))).0

pub lay-requires-clause-sides : goal.lay-requires-clause-sides
lay-requires-clause-sides c =
    subst (AllByRecursion IsSide) (sym c.group-in-loop-g.ensures)
    (All-from_recursion IsSideGroup c.args.code.now c.groups-count.ensures.kept.groups c.loop-g.g []
    (omega (arith, c.loop-g-test.true, c.groups-count.ensures.value))).1

pub overflow_add-result : goal.overflow_add-result
overflow_add-result c = omega (arith, c.loop-g-test.true, c.groups-count.type_inv)

pub even_height-requires : goal.even_height-requires
even_height-requires c =
    is_laid_out c.args.code.now c.loop-g.g c.loop-g.profile c.groups-count.ensures.kept c.requires c.loop-g.invariant
    (omega (arith, c.loop-g-test.false, c.groups-count.ensures.value))

pub leave_tiling-requires : goal.leave_tiling-requires
leave_tiling-requires c = c.in-Ok.ensures.even

pub returns-in-Err-even_height-clause-refused : goal.returns-in-Err-even_height-clause-refused
returns-in-Err-even_height-clause-refused c =
    open_refused c.args.code.now c.loop-g.g c.loop-g.profile c.groups-count.ensures.kept c.requires c.loop-g.invariant
    (omega (arith, c.loop-g-test.false, c.groups-count.ensures.value)) c.in-Err-even_height.refusal c.in-Err-even_height.ensures.uneven

pub returns-in-Err-clause-same : goal.returns-in-Err-clause-same
returns-in-Err-clause-same c = refl

pub returns-in-Err-even_height-clause-same : goal.returns-in-Err-even_height-clause-same
returns-in-Err-even_height-clause-same c = refl

pub restart_with-requires-clause-some : goal.restart_with-requires-clause-some
restart_with-requires-clause-some c = (first_good c.args.code.now c.groups-count.ensures.kept c.requires c.group.ensures).0

pub restart_with-requires-clause-few : goal.restart_with-requires-clause-few
restart_with-requires-clause-few c =
    omega (arith, read_room c.args.code.now 0 c.group.result.now 0 c.groups-count.ensures.kept c.requires c.group.ensures refl)

pub restart_with-requires-clause-sides : goal.restart_with-requires-clause-sides
restart_with-requires-clause-sides c = (first_good c.args.code.now c.groups-count.ensures.kept c.requires c.group.ensures).1

pub loop-g-init : goal.loop-g-init
loop-g-init c =
    let good : IsSideGroup c.group.result.now = first_good c.args.code.now c.groups-count.ensures.kept c.requires c.group.ensures in
    first_step c.args.code.now c.group.result.now c.restart_with.new.self c.requires good.0 good.1 c.group.ensures c.restart_with.ensures
