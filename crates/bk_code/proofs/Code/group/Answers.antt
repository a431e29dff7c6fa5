use Rattle.std.proofs.Common.{ap, arith, length, rules}
use Rattle.bk_code.proofs.Storing.{starts_count}
use Rattle.bk_code.proofs.Code.group.Goals as goal

pub sides_of_group-requires-clause-place : goal.sides_of_group-requires-clause-place
sides_of_group-requires-clause-place c = omega (arith, c.requires, starts_count _ _ _ c.self.view_is, ap length c.as_slice.ensures.value)

pub returns : goal.returns
returns c = search rules
