use Rattle.std.specs.Prelude.{false, true}
use Rattle.std.proofs.Common.{arith, get_or, lit≤, subst, sym, ◌∙◌}
use Rattle.bk_text.specs.declared.reader.Bracket.{Bracket}
use Rattle.bk_text.proofs.Fronts.{Ends, bracket_ends, comma_ends, front_side}
use Rattle.bk_text.proofs.sides.side_in_front.Goals as goal

pub returns-in-Comma : goal.returns-in-Comma
returns-in-Comma c =
    front_side c.args.bracket c.args.bytes.now c.number_in_front-side.result.0 c.number_in_front-side.result.1 false c.number_in_front-side.ensures.spelled
    (omega arith) (omega arith)
    (comma_ends (get_or c.args.bytes.now c.number_in_front-side.result.1 0) c.number_in_front-side.result.0 c.args.bracket (omega arith)
    (sym c.kind_of.ensures ∙ c.in-Comma.is))

pub returns-in-Close : goal.returns-in-Close
returns-in-Close c =
    front_side c.args.bracket c.args.bytes.now c.number_in_front-side.result.0 c.number_in_front-side.result.1 true c.number_in_front-side.ensures.spelled
    (omega arith) (omega arith)
    (subst (λ (z : Bracket). Ends (get_or c.args.bytes.now c.number_in_front-side.result.1 0) z c.number_in_front-side.result.0 true)
    (sym (c.is_like.ensures.0 c.if-is_like.true))
    (bracket_ends (get_or c.args.bytes.now c.number_in_front-side.result.1 0) c.number_in_front-side.result.0 c.in-Close.other (omega arith)
    (sym c.kind_of.ensures ∙ c.in-Close.is)))

pub number_in_front-side-requires : goal.number_in_front-side-requires
number_in_front-side-requires c = lit≤ tt

pub overflow_add-len : goal.overflow_add-len
overflow_add-len c = omega (arith, c.if-digits-bytes.false)

pub bounds-bytes-digits : goal.bounds-bytes-digits
bounds-bytes-digits c = c.if-digits-bytes.false
