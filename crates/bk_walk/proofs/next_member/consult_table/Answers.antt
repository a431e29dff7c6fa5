use Rattle.std.proofs.Common.{ap, arith, subst, sym, tests}
use Rattle.bk_word.specs.Outline.{IsLegalMove}
use Rattle.bk_word.specs.Play.{IsLegal, outline_of}
use Rattle.bk_word.specs.Word.{Move, Word, order_of}
use Rattle.bk_walk.proofs.PlaceLaws.{tells_here}
use Rattle.bk_walk.proofs.next_member.consult_table.Goals as goal

pub returns-then-this-eq0 : goal.returns-then-this-eq0
returns-then-this-eq0 g c = tt

pub number_with-number-requires-clause-legal : goal.number_with-number-requires-clause-legal
number_with-number-requires-clause-legal g c = subst IsLegal (sym c.skel.ensures.value) ((c.skel.ensures.kept).stand).legal

pub number_with-number-requires-clause-next : goal.number_with-number-requires-clause-next
number_with-number-requires-clause-next g c = subst (λ (w : Word). IsLegalMove (outline_of w) c.next.result.now) (sym c.skel.ensures.value)
    (subst (IsLegalMove (outline_of c.args.tree.now.front)) (sym c.next.ensures) c.requires.legal)

pub number_with-number-requires-clause-few : goal.number_with-number-requires-clause-few
number_with-number-requires-clause-few g c = let kept = c.skel.ensures.kept in
    omega (arith, ap order_of c.skel.ensures.value, ap (λ (m : Move). m.count) c.next.ensures, c.requires.few, kept.most)

pub fill-requires : goal.fill-requires
fill-requires g c = let kept = c.skel.ensures.kept in
    (search tests, (omega arith, omega (arith, c.order-in-Unknown.ensures, kept.most)))

pub returns-in-Unknown : goal.returns-in-Unknown
returns-in-Unknown g c = tells_here c.args.tree.now c.skel.result.now c.next.result.now c.order-in-Unknown-2.result c.class-in-Unknown-2.result
    c.number_with-number.result c.answer_of_table-in-Unknown.result c.skel.ensures.kept c.requires c.skel.ensures.value c.next.ensures
    c.order-in-Unknown-2.ensures c.class-in-Unknown-2.ensures c.number_with-number.ensures c.answer_of_table-in-Unknown.ensures

pub returns-in_default : goal.returns-in_default
returns-in_default g c = tells_here c.args.tree.now c.skel.result.now c.next.result.now c.order-2.result c.class.result c.number_with-number.result
    c.answer_of_table.result c.skel.ensures.kept c.requires c.skel.ensures.value c.next.ensures c.order-2.ensures c.class.ensures c.number_with-number.ensures
    c.answer_of_table.ensures

pub answer_of_table-requires : goal.answer_of_table-requires
answer_of_table-requires g c = search tests

pub answer_of_table-requires-in-Unknown : goal.answer_of_table-requires-in-Unknown
answer_of_table-requires-in-Unknown g c = search tests
