use Rattle.bk_draw.proofs.Rows.{IsBlank}
use Rattle.bk_draw.proofs.leave_blank.Given as goal

abbrev pub invariant-loop : goal.invariant-loop
invariant-loop l = IsBlank l.row.items l.counter
