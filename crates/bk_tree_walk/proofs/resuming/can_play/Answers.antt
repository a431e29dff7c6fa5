use Rattle.std.proofs.Common.{ap, arith, subst, sym, true≢false, ◌∙◌}
use Rattle.std.proofs.lemmas.Bool.{leb-true}
use Rattle.bk_word.specs.Outline.{IsLegalMove}
use Rattle.bk_word.specs.Play.{outline_of}
use Rattle.bk_word.specs.Word.{Move, Word, order_of}
use Rattle.bk_tree_walk.proofs.resuming.can_play.Goals as goal

pub returns-else-order-from-clause-no : goal.returns-else-order-from-clause-no
returns-else-order-from-clause-no c = λ _ _ few. omega (
  arith,
  few,
  c.if-order-from.false,
  c.order.ensures.value,
  ap order_of c.skel-skel.ensures.value,
  c.from.ensures,
  c.from-2.ensures,
  ap (λ (m : Move). m.count) c.m.view_is,
)

pub overflow_add-order : goal.overflow_add-order
overflow_add-order c = omega (arith, c.order.ensures.few, c.from.ensures, c.requires, ap (λ (m : Move). m.count) c.m.view_is)

pub returns-then-order-from-clause-legal : goal.returns-then-order-from-clause-legal
returns-then-order-from-clause-legal c = λ e. subst (λ (w : Word). IsLegalMove (outline_of w) c.args.m.now) c.skel-skel.ensures.value (c.legal.ensures.0 e)

pub returns-then-order-from-clause-few : goal.returns-then-order-from-clause-few
returns-then-order-from-clause-few c = λ _. omega (
  arith,
  c.if-order-from.true,
  c.order.ensures.value,
  ap order_of c.skel-skel.ensures.value,
  c.from.ensures,
  c.from-2.ensures,
  ap (λ (m : Move). m.count) c.m.view_is,
)

pub returns-then-order-from-clause-no : goal.returns-then-order-from-clause-no
returns-then-order-from-clause-no c = λ e legal _. true≢false
    (sym (c.legal.ensures.1 (subst (λ (w : Word). IsLegalMove (outline_of w) c.args.m.now) (sym c.skel-skel.ensures.value) legal)) ∙ e)

pub returns-else-order-from-clause-legal : goal.returns-else-order-from-clause-legal
returns-else-order-from-clause-legal c = λ e. absurd (omega (arith, leb-true _ _ e, c.if-order-from.false))

pub returns-else-order-from-clause-few : goal.returns-else-order-from-clause-few
returns-else-order-from-clause-few c = λ e. absurd (omega (arith, leb-true _ _ e, c.if-order-from.false))
