-- The moves are complete where the skeleton is closed, and of the order where it has as many squares.
use Rattle.std.proofs.Common.{ap, arith, subst, sym, true≢false, ◌∙◌}
use Rattle.std.proofs.lemmas.Bool.{eqb-true}
use Rattle.bk_word.specs.Play.{IsComplete}
use Rattle.bk_word.specs.Word.{order_of}
use Rattle.bk_tree_walk.proofs.tree_walk.is_complete_of.Goals as goal

pub returns-then-order-from-clause-whole : goal.returns-then-order-from-clause-whole
returns-then-order-from-clause-whole c = λ e. (
  subst IsComplete c.skel-skel.ensures.value (c.is_closed.ensures.0 e),
  omega (arith, c.if-order-from.true, c.order.ensures.value, ap order_of c.skel-skel.ensures.value, c.from.ensures),
)

pub returns-then-order-from-clause-unready : goal.returns-then-order-from-clause-unready
returns-then-order-from-clause-unready c = λ e whole _. true≢false
    (sym (c.is_closed.ensures.1 (subst IsComplete (sym c.skel-skel.ensures.value) whole)) ∙ e)

pub returns-else-order-from-clause-whole : goal.returns-else-order-from-clause-whole
returns-else-order-from-clause-whole c = λ e. absurd (omega (arith, eqb-true _ _ e, c.if-order-from.false))

pub returns-else-order-from-clause-unready : goal.returns-else-order-from-clause-unready
returns-else-order-from-clause-unready c = λ _ _ same.
    omega (arith, same, c.if-order-from.false, c.order.ensures.value, ap order_of c.skel-skel.ensures.value, c.from.ensures)
