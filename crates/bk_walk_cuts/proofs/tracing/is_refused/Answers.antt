use Rattle.std.proofs.Common.{ap, arith, refl, rules, subst, sym, ℕ, List, ◌+◌, ◌∙◌, ◌≡◌}
use Rattle.bk_laws.proofs.Truth.{absurd-of_true_and_false}
use Rattle.bk_word.specs.Word.{Move, order_of}
use Rattle.bk_word.specs.declared.Sign.{Sign}
use Rattle.bk_word.specs.declared.Class.TheVariants.{Perfect}
use Rattle.bk_walk_cuts.proofs.MoveAnswers.{cut_is_told}
use Rattle.bk_walk_cuts.specs.KnownSides.{AreSidesApart}
use Rattle.bk_walk_cuts.specs.SidesOfTilings.{AgreeWith}
use Rattle.bk_walk_cuts.proofs.tracing.is_refused.Goals as goal

pub returns-then-add_equations : goal.returns-then-add_equations
returns-then-add_equations c = record {
  sound = λ _ sides meets _. absurd-of_true_and_false c.add_equations.result c.if-add_equations.true (c.add_equations.ensures.meets sides meets).none;
  all = λ _. refl;
}

pub returns-then-compares_otherwise : goal.returns-then-compares_otherwise
returns-then-compares_otherwise c =
    let signs = c.as_slice.ensures.value ∙ ap (λ (m : Move). m.signs) c.m.view_is in
    record {
      sound = λ _ sides meets _. absurd-of_true_and_false c.compares_otherwise.result c.if-compares_otherwise.true
          (c.compares_otherwise.ensures.sound sides (c.add_equations.ensures.meets sides meets).meets
          (subst (λ (ss : List Sign). AgreeWith ss c.args.levels.now sides) (sym signs) meets.signs));
      all = λ _. refl;
    }

pub has_equal_sides-requires : goal.has_equal_sides-requires
has_equal_sides-requires c =
    omega (arith, c.order.ensures.value, c.from.ensures, ap (λ (m : Move). m.count) c.m.view_is, c.requires.few)

pub returns-then-eq : goal.returns-then-eq
returns-then-eq c =
    let is : c.args.class ≡ Perfect = search rules in
    let count : c.order.result + c.from.result ≡ order_of c.args.skel.now + c.args.m.now.count =
    (λ i. c.order.ensures.value i + (c.from.ensures ∙ ap (λ (m : Move). m.count) c.m.view_is) i) in
    record {
      sound = λ yes sides meets apart. absurd-of_true_and_false c.has_equal_sides.result yes
          (c.has_equal_sides.ensures.sound sides (c.add_equations.ensures.meets sides meets).meets
          (subst (λ (n : ℕ). AreSidesApart n sides) (sym count) (apart is)));
      all = cut_is_told c.args.class c.args.skel.now c.args.m.now c.args.ledger.now c.args.levels.now c.add_equations.new.ledger c.as_slice.result.now
          (c.order.result + c.from.result) (c.add_equations.ensures.kept c.if-add_equations.false)
          (c.as_slice.ensures.value ∙ ap (λ (m : Move). m.signs) c.m.view_is) count c.add_equations.result c.compares_otherwise.result
          c.has_equal_sides.result c.if-add_equations.false c.add_equations.ensures.widths c.add_equations.ensures.levels
          c.if-compares_otherwise.false c.compares_otherwise.ensures.all (λ _ equal. c.has_equal_sides.ensures.all equal);
    }

pub returns-else-eq-clause-all : goal.returns-else-eq-clause-all
returns-else-eq-clause-all c =
    cut_is_told c.args.class c.args.skel.now c.args.m.now c.args.ledger.now c.args.levels.now c.add_equations.new.ledger c.as_slice.result.now
    (order_of c.args.skel.now + c.args.m.now.count) (c.add_equations.ensures.kept c.if-add_equations.false)
    (c.as_slice.ensures.value ∙ ap (λ (m : Move). m.signs) c.m.view_is) refl c.add_equations.result c.compares_otherwise.result
    c.eq.result c.if-add_equations.false c.add_equations.ensures.widths c.add_equations.ensures.levels
    c.if-compares_otherwise.false c.compares_otherwise.ensures.all (λ perfect _. search rules)
