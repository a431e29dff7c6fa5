use Rattle.std.specs.List.{Contains, IsAnyAnswer}
use Rattle.std.specs.Bool.{Decides}
use Rattle.std.specs.Prelude.{◌==◌}
use Rattle.std.proofs.Common.{Bool, List, get_or, refl, true, ℕ, ◌%◌, ◌∙◌, ◌≡◌}
use Rattle.std.proofs.lemmas.Bool.Decides.{Decides-eqb, not_from_Decides}
use Rattle.std.proofs.lemmas.List.{length-set}
use Rattle.std.proofs.lemmas.List.Elements.{Decides-contains, contains_decides}
use Rattle.bk_laws.proofs.Membership.{differs-from_earlier_by_search, not_all_differ-by_search}
use Rattle.bk_simple.proofs.DifferentNumbers.{all_numbers_apart_differ, apart_with_one_number_more, marked_more, new_by_remainder}
use Rattle.bk_simple.proofs.are_different.Goals as goal
use Rattle.bk_simple.proofs.are_different.Goals.{else-marked-remainder-via-else-marked-remainder, else-marked-remainder-via-then-marked-remainder+else-contains}

-- `contains` tells whether the number is one of the list
told : (numbers : List ℕ) (number : ℕ) (r : Bool) → IsAnyAnswer (λ y t. (y == number) ≡ t) numbers r → Decides r (Contains numbers number)
told numbers number r answers = Decides-contains numbers number r (contains_decides ◌==◌ Decides-eqb numbers number r answers)

pub returns-then-contains : goal.returns-then-contains
returns-then-contains c = (
  λ e. absurd cc,
  λ apart. absurd (not_all_differ-by_search c.args.numbers.now c.loop-i.i (get_or c.args.numbers.now c.loop-i.i 0) c.loop-i-test.true refl
      ((told _ _ _ c.contains.ensures.cases).0 c.if-contains.true) apart),
)

pub loop-i-preserved : goal.loop-i-preserved
loop-i-preserved c = record {
  long = length-set c.loop-i.marked (get_or c.args.numbers.now c.loop-i.i 0 % 256) true ∙ c.loop-i.invariant.long;
  apart = apart_with_one_number_more c.args.numbers.now c.loop-i.i c.loop-i.invariant.apart (elim c.else-marked-remainder.branch [
    | else-marked-remainder-via-then-marked-remainder+else-contains w ↦ differs-from_earlier_by_search c.args.numbers.now c.loop-i.i c.loop-i-test.true
        (not_from_Decides w.contains.result (told _ _ _ w.contains.ensures.cases) w.if-contains.false)
    | else-marked-remainder-via-else-marked-remainder w ↦
        new_by_remainder c.loop-i.marked c.args.numbers.now c.loop-i.i c.loop-i.invariant.marked w.if-marked-remainder.false
  ]);
  marked = marked_more c.loop-i.marked c.args.numbers.now c.loop-i.i c.loop-i.invariant.long c.loop-i.invariant.marked;
}

pub returns : goal.returns
returns c = (λ _. all_numbers_apart_differ c.args.numbers.now c.loop-i.i c.loop-i-test.false c.loop-i.invariant.apart, λ _. refl)
