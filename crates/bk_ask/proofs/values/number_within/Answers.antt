use Rattle.std.proofs.Common.{arith, false, refl, true, ◌≡◌}
use Rattle.bk_laws.proofs.Digits.{parsed_number-is_written, parsed_number-no_fault}
use Rattle.bk_ask.proofs.NumberTexts.{text_begins, text_of_read}
use Rattle.bk_ask.proofs.values.number_within.Goals as goal

pub returns-then-not-begins_number-clause-none : goal.returns-then-not-begins_number-clause-none
returns-then-not-begins_number-clause-none c n is =
    let e : false ≡ true = c.if-not-begins_number.ensures.1 (text_begins c.args.text.now n (omega (arith, is.at_most)) is.text) in
    cc

pub returns-in-Ok-clause-some : goal.returns-in-Ok-clause-some
returns-in-Ok-clause-some c = record {
  at_least = c.if-least-number.true;
  at_most = c.if-number-most.true;
  text = text_of_read c.args.text.now c.in-Ok.number (c.if-not-begins_number.ensures.0 refl) c.parse.result c.in-Ok.is c.parse.ensures.value.0;
}

pub returns-in_default-clause-none : goal.returns-in_default-clause-none
returns-in_default-clause-none c n is =
    omega (
      arith,
      parsed_number-is_written c.args.text.now c.in-Ok.number n (omega (arith, is.at_most)) is.text c.parse.result c.in-Ok.is c.parse.ensures.value.0,
      is.at_most,
    )

pub returns-in_default-2-clause-none : goal.returns-in_default-2-clause-none
returns-in_default-2-clause-none c n is =
    omega (
      arith,
      parsed_number-is_written c.args.text.now c.in-Ok.number n (omega (arith, is.at_most)) is.text c.parse.result c.in-Ok.is c.parse.ensures.value.0,
      is.at_least,
    )

pub returns-in_default-3-clause-none : goal.returns-in_default-3-clause-none
returns-in_default-3-clause-none c n is =
    parsed_number-no_fault c.args.text.now n (omega (arith, is.at_most)) is.text c.parse.result c.in_default.field-0 c.in_default.is c.parse.ensures.value.0
