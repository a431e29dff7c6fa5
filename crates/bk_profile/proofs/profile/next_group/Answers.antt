use Rattle.std.proofs.lemmas.Grind.{common_steps}
use Rattle.std.proofs.Common.{List, ap, arith, le_refl, length, refl, sum, sym, take, zero-le, ℕ, ◌∙◌, ◌≡◌}
use Rattle.std.proofs.lemmas.List.{take_all}
use Rattle.std.proofs.lemmas.List.Sums.{sum_by_more}
use Rattle.std.proofs.lemmas.List.Elements.{All-from_recursion}
use Rattle.bk_tiling.specs.KeptTiling.{IsSide}
use Rattle.bk_profile.proofs.Division.{falls_short, next_group-of_sum_reached}
use Rattle.bk_profile.proofs.profile.next_group.Goals as goal

pub returns-then-sum-gap-clause-group : goal.returns-then-sum-gap-clause-group
returns-then-sum-gap-clause-group c = next_group-of_sum_reached c.args.gap c.args.sides.now c.loop-i.i c.loop-i-test.true
    (omega (arith, c.loop-i.invariant.total, c.loop-i.invariant.short))
    (omega (arith, c.if-sum-gap.true, c.loop-i.invariant.total, sum_by_more (λ (n : ℕ). n) c.args.sides.now c.loop-i.i 0 c.loop-i-test.true))

pub returns-clause-group : goal.returns-clause-group
returns-clause-group c =
    let whole : take (length c.args.sides.now) c.args.sides.now ≡ c.args.sides.now = take_all (length c.args.sides.now) c.args.sides.now (omega arith) in
    let all : take c.loop-i.i c.args.sides.now ≡ c.args.sides.now = take_all c.loop-i.i c.args.sides.now (omega (arith, c.loop-i-test.false)) in
    whole ∙ sym (falls_short c.args.gap c.args.sides.now (omega (arith, c.loop-i.invariant.total, c.loop-i.invariant.short, ap (λ (l : List ℕ). sum l) all)))

pub loop-i-preserved : goal.loop-i-preserved
loop-i-preserved c = grind (arith, common_steps)

pub loop-i-init : goal.loop-i-init
loop-i-init c = record { total = refl; small = zero-le; short = c.requires.gap }

pub offset_bounds-sides-i : goal.offset_bounds-sides-i
offset_bounds-sides-i c = omega (arith, c.loop-i-test.true, c.requires.few)

pub bounds-sides-i : goal.bounds-sides-i
bounds-sides-i c = c.loop-i-test.true

pub overflow_add-sum : goal.overflow_add-sum
overflow_add-sum c =
    omega (
      arith,
      c.loop-i.invariant.small,
      All-from_recursion IsSide c.args.sides.now c.requires.sides c.loop-i.i 0 c.loop-i-test.true,
      c.loop-i-test.true,
      c.requires.few,
    )

pub overflow_add-result : goal.overflow_add-result
overflow_add-result c = omega (arith, c.loop-i-test.true, c.requires.few)

pub returns-then-sum-gap-clause-some : goal.returns-then-sum-gap-clause-some
returns-then-sum-gap-clause-some c = omega (arith, c.loop-i-test.true)

pub returns-then-sum-gap-clause-within : goal.returns-then-sum-gap-clause-within
returns-then-sum-gap-clause-within c = omega (arith, c.loop-i-test.true)

pub returns-clause-some : goal.returns-clause-some
returns-clause-some c = c.requires.some

pub returns-clause-within : goal.returns-clause-within
returns-clause-within c = le_refl (length c.args.sides.now)

pub returns-then-sum-gap-clause-sum : goal.returns-then-sum-gap-clause-sum
returns-then-sum-gap-clause-sum c =
    omega (arith, c.loop-i.invariant.total, sum_by_more (λ (n : ℕ). n) c.args.sides.now c.loop-i.i 0 c.loop-i-test.true)

pub returns-clause-sum : goal.returns-clause-sum
returns-clause-sum c =
    let whole : take (length c.args.sides.now) c.args.sides.now ≡ c.args.sides.now = take_all (length c.args.sides.now) c.args.sides.now (omega arith) in
    let all : take c.loop-i.i c.args.sides.now ≡ c.args.sides.now = take_all c.loop-i.i c.args.sides.now (omega (arith, c.loop-i-test.false)) in
    c.loop-i.invariant.total ∙ ap (λ (l : List ℕ). sum l) (all ∙ sym whole)
