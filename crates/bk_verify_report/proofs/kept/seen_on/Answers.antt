-- The squares of the tiling fit, and all of them are kept.
use Rattle.std.proofs.Common.{ap, arith, length, lit<, refl, ◌∙◌}
use Rattle.bk_verify_report.proofs.kept.seen_on.Goals as goal

pub try_from-requires : goal.try_from-requires
try_from-requires c = lit< tt

pub unreachable-requires : goal.unreachable-requires
unreachable-requires c = omega (arith, c.in_default.ensures, c.requires, ap length c.squares.ensures.value)

pub returns : goal.returns
returns c = record { on = refl; height = c.height.ensures.value; squares = (c.in-Ok.ensures).0 ∙ c.squares.ensures.value }
