use denote.Enum.Bare.{differs_false}
use Rattle.std.proofs.Common.{arith, tests, sym, ◌∙◌}
use Rattle.bk_laws.proofs.Outcomes.{none-from_is_some}
use Rattle.bk_word.specs.contracts.Class.{the_type}
use Rattle.bk_walk.proofs.TablesTell.{tells_next, tells_none}
use Rattle.bk_walk.proofs.table_answer.answer_of_table.Goals as goal

pub returns-in-Some : goal.returns-in-Some
returns-in-Some g c =
    let of_class = sym c.class.ensures ∙ differs_false the_type tt c.class.result c.args.class (sym c.ne.ensures ∙ c.if-ne.false) in
    tells_next c.args.table.now c.args.order c.args.class c.args.number c.in-Some.next (sym c.order.ensures ∙ c.if-order.false) of_class
    (omega (arith, c.from.ensures, c.if-number-from.false)) c.in-Some.ensures.next

pub returns-else-is_cut : goal.returns-else-is_cut
returns-else-is_cut g c =
    let of_class = sym c.class.ensures ∙ differs_false the_type tt c.class.result c.args.class (sym c.ne.ensures ∙ c.if-ne.false) in
    tells_none c.args.table.now c.args.order c.args.class c.args.number (sym c.order.ensures ∙ c.if-order.false) of_class
    (omega (arith, c.from.ensures, c.if-number-from.false)) (none-from_is_some c.args.table.now.numbers.limit (sym c.is_cut.ensures.value ∙ c.if-is_cut.false))
    c.in-None.ensures.none

pub returns-then-order : goal.returns-then-order
returns-then-order g c = tt

pub returns-then-is_cut : goal.returns-then-is_cut
returns-then-is_cut g c = tt

pub order-requires : goal.order-requires
order-requires g c = search tests

pub class-requires : goal.class-requires
class-requires g c = search tests

pub from-requires : goal.from-requires
from-requires g c = search tests

pub next_from-requires : goal.next_from-requires
next_from-requires g c = search tests

pub is_cut-requires : goal.is_cut-requires
is_cut-requires g c = search tests
