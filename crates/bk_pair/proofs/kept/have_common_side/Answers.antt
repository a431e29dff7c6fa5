use Rattle.std.proofs.Common.{arith, inl, inr, refl}
use Rattle.bk_laws.proofs.Orderings.{eq-from_equal_is_nat_cmp, gt-from_greater_is_nat_cmp, lt-from_less_is_nat_cmp}
use Rattle.bk_laws.proofs.Truth.{false_test-of_none}
use Rattle.bk_pair.proofs.SideLoops.{common_found, first_passed, no_common_side_where_one_is_gone_through, second_passed}
use Rattle.bk_pair.specs.OwnSides.{HaveCommonSide}
use Rattle.bk_pair.proofs.kept.have_common_side.Goals as goal

pub sides-preserved-in-Less : goal.sides-preserved-in-Less
sides-preserved-in-Less c = record {
  first_within = omega (arith, c.sides-test.true);
  second_within = c.sides.invariant.second_within;
  apart = first_passed c.args.first.now c.args.second.now c.sides.i c.sides.j c.sides.invariant.apart c.requires.second
      (lt-from_less_is_nat_cmp _ _ c.in-Less.ensures);
}

pub sides-preserved : goal.sides-preserved
sides-preserved c = record {
  first_within = c.sides.invariant.first_within;
  second_within = omega (arith, c.if-j-second.true);
  apart = second_passed c.args.first.now c.args.second.now c.sides.i c.sides.j c.sides.invariant.apart c.requires.first
      (gt-from_greater_is_nat_cmp _ _ c.in-Greater.ensures);
}

pub returns-in-Equal : goal.returns-in-Equal
returns-in-Equal c = (
  (λ _. common_found c.args.first.now c.args.second.now c.sides.i c.sides.j c.sides-test.true c.if-j-second.true
      (eq-from_equal_is_nat_cmp _ _ c.in-Equal.ensures)),
  (λ _. refl),
)

pub returns-else-j-second : goal.returns-else-j-second
returns-else-j-second c = false_test-of_none (HaveCommonSide c.args.first.now c.args.second.now)
    (no_common_side_where_one_is_gone_through c.args.first.now c.args.second.now c.sides.i c.sides.j c.sides.invariant.apart
    (inr (omega (arith, c.if-j-second.false))))

pub returns-after-sides : goal.returns-after-sides
returns-after-sides c = false_test-of_none (HaveCommonSide c.args.first.now c.args.second.now)
    (no_common_side_where_one_is_gone_through c.args.first.now c.args.second.now c.sides.i c.sides.j c.sides.invariant.apart
    (inl (omega (arith, c.sides-test.false))))

pub sides-init : goal.sides-init
sides-init c = record {
  first_within = omega arith;
  second_within = omega arith;
  apart = λ a b in_first in_second early. absurd (elim early [ inl h ↦ omega (arith, h) | inr h ↦ omega (arith, h) ]);
}

pub offset_bounds-first-i : goal.offset_bounds-first-i
offset_bounds-first-i c = omega arith

pub bounds-first-i : goal.bounds-first-i
bounds-first-i c = c.sides-test.true

pub offset_bounds-second-j : goal.offset_bounds-second-j
offset_bounds-second-j c = omega arith

pub bounds-second-j : goal.bounds-second-j
bounds-second-j c = c.if-j-second.true

pub overflow_add-i : goal.overflow_add-i
overflow_add-i c = omega arith

pub sides-smaller-in-Less : goal.sides-smaller-in-Less
sides-smaller-in-Less c = omega (arith, c.sides-test.true, c.sides.invariant.second_within)

pub overflow_add-j : goal.overflow_add-j
overflow_add-j c = omega arith

pub sides-smaller : goal.sides-smaller
sides-smaller c = omega (arith, c.if-j-second.true, c.sides.invariant.first_within)
