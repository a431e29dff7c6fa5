use Rattle.std.specs.List.{Contains, IsAnyAnswer}
use Rattle.std.specs.Bool.{Decides}
use Rattle.std.specs.Ordering.{int_eq}
use Rattle.std.specs.Prelude.{pos, ℤ}
use Rattle.std.proofs.Common.{Bool, List, get_or, refl, ◌≡◌}
use Rattle.std.proofs.lemmas.Bool.Decides.{Decides-int_eq, not_from_Decides}
use Rattle.std.proofs.lemmas.List.Elements.{Decides-contains, contains_decides}
use Rattle.std.proofs.lemmas.Option.{slice_get-get_or}
use Rattle.bk_tree_walk.proofs.UnfitFlows.{alike_from, apart_with_one_integer_more, none_alike_where_all_are_apart}
use Rattle.bk_tree_walk.proofs.judging.has_two_alike.Goals as goal

-- `contains` tells whether the number is one of the list
told : (numbers : List ℤ) (number : ℤ) (r : Bool) → IsAnyAnswer (λ y t. int_eq y number ≡ t) numbers r → Decides r (Contains numbers number)
told numbers number r answers = Decides-contains numbers number r (contains_decides int_eq Decides-int_eq numbers number r answers)

pub returns-then-contains : goal.returns-then-contains
returns-then-contains c = (
  λ _. alike_from c.args.numbers.now c.loop-i.i (get_or c.args.numbers.now c.loop-i.i (pos 0)) c.loop-i-test.true
      (slice_get-get_or c.args.numbers.now c.loop-i.i (pos 0) c.loop-i-test.true) ((told _ _ _ c.contains.ensures.cases).0 c.if-contains.true),
  λ _. refl,
)

pub loop-i-preserved : goal.loop-i-preserved
loop-i-preserved c = apart_with_one_integer_more c.args.numbers.now c.loop-i.i (get_or c.args.numbers.now c.loop-i.i (pos 0))
    (slice_get-get_or c.args.numbers.now c.loop-i.i (pos 0) c.loop-i-test.true) c.loop-i.invariant
    (not_from_Decides c.contains.result (told _ _ _ c.contains.ensures.cases) c.if-contains.false)

pub returns : goal.returns
returns c = (λ e. absurd cc, λ two. absurd (none_alike_where_all_are_apart c.args.numbers.now c.loop-i.i c.loop-i.invariant c.loop-i-test.false two))
