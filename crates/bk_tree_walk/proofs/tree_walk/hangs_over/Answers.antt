-- The squares are counted with those of the move.
use Rattle.std.proofs.Common.{ap, arith, ◌+◌, ◌≡◌}
use Rattle.std.proofs.lemmas.Bool.{ltb-false, ltb-true}
use Rattle.bk_word.specs.Word.{Move, order_of}
use Rattle.bk_tree_walk.proofs.tree_walk.hangs_over.Goals as goal

pub overflow_add-result : goal.overflow_add-result
overflow_add-result c = omega (arith, c.order.ensures.few, c.from.ensures)

pub returns : goal.returns
returns c =
    let all : c.order.result + c.from.result ≡ order_of c.args.lined.now + c.args.m.now.count =
    omega (arith, c.order.ensures.value, ap order_of c.skel.ensures.value, c.from.ensures, ap (λ (m : Move). m.count) c.m.view_is) in
    record {
      over = λ e. omega (arith, ltb-true _ _ e, all, c.from-2.ensures);
      few = λ e. omega (arith, ltb-false _ _ e, all, c.from-2.ensures);
    }
