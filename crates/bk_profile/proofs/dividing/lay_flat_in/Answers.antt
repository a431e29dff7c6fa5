use Rattle.std.proofs.Common.{Err, List, Ok, [], arith, drop, false, length, refl, subst, sym, take, ℕ, ◌+◌, ◌-◌, ◌<◌, ◌==◌, ◌∷◌, ◌≡◌}
use Rattle.std.proofs.lemmas.List.{length-drop, take_all}
use Rattle.bk_laws.proofs.ListParts.{empty-of_length_test}
use Rattle.bk_profile.proofs.Division.{flat_refused_has_none}
use Rattle.bk_profile.proofs.FlatSteps.{Dividing, ends_ok, ends_only, ends_refused, misfit_step, next_step, number-at_most_one_more}
use Rattle.bk_profile.proofs.FlatSteps.{is_laid_out, rest_good, rest_room, too_wide}
use Rattle.bk_profile.specs.Laid.{Laid}
use Rattle.bk_profile.specs.declared.laying.Refusal.TheVariants.{Gap}
use Rattle.bk_profile.proofs.dividing.lay_flat_in.Goals as goal

-- some sides are left
some_left : (sides : List ℕ) → false ≡ (length sides == 0) → 0 < length sides
some_left [] e = absurd (cc)
some_left (s ∷ sides) e = omega arith

-- fewer sides are left
fewer_left : (all left taken : ℕ) → 0 < taken → left + taken ≡ all → left < all
fewer_left all left taken some sum = omega (arith, some, sum)

pub returns-then-width-gt-WIDEST_PROFILE-clause-refused : goal.returns-then-width-gt-WIDEST_PROFILE-clause-refused
returns-then-width-gt-WIDEST_PROFILE-clause-refused c =
    too_wide c.args.width c.sum_of.result c.args.sides.now c.requires.some c.requires.few c.requires.sides c.if-width-gt-WIDEST_PROFILE.true
    c.sum_of.ensures.sum

pub returns-then-width-gt-WIDEST_PROFILE-clause-only : goal.returns-then-width-gt-WIDEST_PROFILE-clause-only
returns-then-width-gt-WIDEST_PROFILE-clause-only c t has = absurd (flat_refused_has_none c.args.width c.args.sides.now (Gap 1 c.args.width c.sum_of.result)
    (too_wide c.args.width c.sum_of.result c.args.sides.now c.requires.some c.requires.few c.requires.sides c.if-width-gt-WIDEST_PROFILE.true
    c.sum_of.ensures.sum) t has)

pub overflow_add-group : goal.overflow_add-group
overflow_add-group c =
    omega (
      arith,
      number-at_most_one_more c.args.width c.args.sides.now c.loop-rest.group c.loop-rest.profile c.loop-rest.rest.now c.loop-rest.invariant
          c.requires.few c.requires.sides,
      c.requires.few,
    )

pub returns-in-Ok-even_height-clause-ok : goal.returns-in-Ok-even_height-clause-ok
returns-in-Ok-even_height-clause-ok c = ends_ok c.args.width c.args.sides.now c.loop-rest.group c.loop-rest.profile c.loop-rest.rest.now c.loop-rest.invariant
    c.requires.few c.requires.some (empty-of_length_test c.loop-rest.rest.now c.is_empty.result c.is_empty.ensures c.loop-rest-test.false)
    (Ok c.leave_tiling.new.tiling) c.leave_tiling.ensures

pub returns-in-Ok-even_height-clause-only : goal.returns-in-Ok-even_height-clause-only
returns-in-Ok-even_height-clause-only c t has = (
  refl,
  ends_only c.args.width c.args.sides.now c.loop-rest.group c.loop-rest.profile c.loop-rest.rest.now c.loop-rest.invariant c.requires.few
      c.requires.some (empty-of_length_test c.loop-rest.rest.now c.is_empty.result c.is_empty.ensures c.loop-rest-test.false) (Ok c.leave_tiling.new.tiling)
      c.leave_tiling.ensures tt t has,
)

pub returns-in-Err-even_height-clause-refused : goal.returns-in-Err-even_height-clause-refused
returns-in-Err-even_height-clause-refused c = ends_refused c.args.width c.args.sides.now c.loop-rest.group c.loop-rest.profile c.loop-rest.rest.now
    c.loop-rest.invariant c.requires.few c.requires.some (empty-of_length_test c.loop-rest.rest.now c.is_empty.result c.is_empty.ensures c.loop-rest-test.false)
    (Err c.in-Err-even_height.refusal) c.in-Err-even_height.ensures.uneven

pub returns-in-Err-even_height-clause-only : goal.returns-in-Err-even_height-clause-only
returns-in-Err-even_height-clause-only c t has =
    absurd (ends_only c.args.width c.args.sides.now c.loop-rest.group c.loop-rest.profile c.loop-rest.rest.now c.loop-rest.invariant c.requires.few
    c.requires.some (empty-of_length_test c.loop-rest.rest.now c.is_empty.result c.is_empty.ensures c.loop-rest-test.false) (Err c.in-Err-even_height.refusal)
    tt
    c.in-Err-even_height.ensures.uneven t has)

pub sum_of-requires-clause-few : goal.sum_of-requires-clause-few
sum_of-requires-clause-few c = c.requires.few

pub sum_of-requires-clause-sides : goal.sum_of-requires-clause-sides
sum_of-requires-clause-sides c = c.requires.sides

pub restart-requires-clause-some : goal.restart-requires-clause-some
restart-requires-clause-some c = c.requires.wide

pub restart-requires-clause-narrow : goal.restart-requires-clause-narrow
restart-requires-clause-narrow c = omega (arith, c.if-width-gt-WIDEST_PROFILE.false)

pub loop-rest-init : goal.loop-rest-init
loop-rest-init c =
    subst (λ (p : Laid). Dividing c.args.width c.args.sides.now 1 p c.args.sides.now) (sym c.restart.ensures)
    (record { code = []; width_is = refl; lays = refl; number_is = refl; flat_is = refl; good = tt; goes_on = λ _ divides. divides })

pub even_height-requires : goal.even_height-requires
even_height-requires c =
    is_laid_out c.args.width c.args.sides.now c.loop-rest.group c.loop-rest.profile c.loop-rest.rest.now c.loop-rest.invariant c.requires.few
    c.requires.some (empty-of_length_test c.loop-rest.rest.now c.is_empty.result c.is_empty.ensures c.loop-rest-test.false)

pub leave_tiling-requires : goal.leave_tiling-requires
leave_tiling-requires c = c.in-Ok-even_height.ensures.even

pub returns-then-width-gt-WIDEST_PROFILE-clause-same : goal.returns-then-width-gt-WIDEST_PROFILE-clause-same
returns-then-width-gt-WIDEST_PROFILE-clause-same c = refl

pub returns-in-Err-even_height-clause-same : goal.returns-in-Err-even_height-clause-same
returns-in-Err-even_height-clause-same c = refl

pub lay_next-requires-clause-sides : goal.lay_next-requires-clause-sides
lay_next-requires-clause-sides c =
    rest_good c.args.width c.args.sides.now c.loop-rest.group c.loop-rest.profile c.loop-rest.rest.now c.loop-rest.invariant c.requires.few
    c.requires.sides

pub lay_next-requires-clause-room : goal.lay_next-requires-clause-room
lay_next-requires-clause-room c =
    rest_room c.args.width c.args.sides.now c.loop-rest.group c.loop-rest.profile c.loop-rest.rest.now c.loop-rest.invariant c.requires.few
    c.requires.sides

pub returns-in-Err-clause-refused : goal.returns-in-Err-clause-refused
returns-in-Err-clause-refused c =
    misfit_step c.args.width c.args.sides.now c.loop-rest.group c.loop-rest.profile c.loop-rest.rest.now c.loop-rest.invariant c.requires.few
    c.requires.sides
    c.in-Err.fault.gap c.in-Err.fault.sum (some_left c.loop-rest.rest.now c.loop-rest-test.ensures) c.in-Err.ensures.err

pub returns-in-Err-clause-only : goal.returns-in-Err-clause-only
returns-in-Err-clause-only c t has =
    absurd (flat_refused_has_none c.args.width c.args.sides.now (Gap c.loop-rest.group c.in-Err.fault.gap c.in-Err.fault.sum)
    (misfit_step c.args.width c.args.sides.now c.loop-rest.group c.loop-rest.profile c.loop-rest.rest.now c.loop-rest.invariant c.requires.few
    c.requires.sides
    c.in-Err.fault.gap c.in-Err.fault.sum (some_left c.loop-rest.rest.now c.loop-rest-test.ensures) c.in-Err.ensures.err) t has)

pub loop-rest-preserved : goal.loop-rest-preserved
loop-rest-preserved c =
    next_step c.args.width c.args.sides.now c.loop-rest.group c.loop-rest.profile c.loop-rest.rest.now c.loop-rest.invariant c.requires.few
    c.requires.sides
    c.lay_next.new.self c.in-Ok.count (take (length c.loop-rest.rest.now - c.in-Ok.count) (drop c.in-Ok.count c.loop-rest.rest.now))
    (take_all (length c.loop-rest.rest.now - c.in-Ok.count) (drop c.in-Ok.count c.loop-rest.rest.now)
    (omega (arith, length-drop c.in-Ok.count c.loop-rest.rest.now))) c.in-Ok.ensures.ok
