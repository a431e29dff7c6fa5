use Rattle.bk_packed.proofs.NextDigits.{has_made, made_signs}
use Rattle.bk_packed.proofs.reading.has_move.Goals as goal

pub returns : goal.returns
returns c = (
  λ all. has_made c.args.number c.args.place c.digit_at.result c.digit_at-2.result c.args.count c.args.signs.now c.digit_at.ensures c.digit_at-2.ensures
      c.if-digit_at-count.false (c.has_signs.ensures.0 all),
  λ has. c.has_signs.ensures.1 (made_signs c.args.number c.args.place (record { count = c.args.count; signs = c.args.signs.now }) has),
)
