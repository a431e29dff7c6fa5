use Rattle.std.proofs.Common.{arith, le_refl, refl, sym, zero-le, ◌∙◌}
use Rattle.bk_text.proofs.NumberBytes.{number_taken}
use Rattle.bk_text.proofs.gatherer.take_number.Goals as goal

pub returns-in-Some-clause-leads : goal.returns-in-Some-clause-leads
returns-in-Some-clause-leads c =
    number_taken c.args.place.now c.args.field c.args.bytes.now c.number_in_front-number.result.0 c.number_in_front-number.result.1 c.kind_of.result
    c.in-Some.next c.requires.first c.requires.header c.number_in_front-number.ensures.spelled (omega arith) (omega arith) (sym c.kind_of.ensures)
    (sym c.behind.ensures ∙ c.in-Some.is)

pub number_in_front-number-requires : goal.number_in_front-number-requires
number_in_front-number-requires c = le_refl 999_999_999_999_999_999

pub returns-then-number-eq0-clause-within : goal.returns-then-number-eq0-clause-within
returns-then-number-eq0-clause-within c = zero-le

pub returns-then-number-eq0-clause-leads : goal.returns-then-number-eq0-clause-leads
returns-then-number-eq0-clause-leads c = λ _. refl

pub bounds-bytes-digits : goal.bounds-bytes-digits
bounds-bytes-digits c = c.if-digits-bytes.false

pub overflow_add-result : goal.overflow_add-result
overflow_add-result c = omega (arith, c.if-digits-bytes.false)

pub returns-in-Some-clause-within : goal.returns-in-Some-clause-within
returns-in-Some-clause-within c = omega (arith, c.if-digits-bytes.false)

pub returns-in-None-clause-within : goal.returns-in-None-clause-within
returns-in-None-clause-within c = zero-le

pub returns-in-None-clause-leads : goal.returns-in-None-clause-leads
returns-in-None-clause-leads c = λ _. refl
