-- The counts and signs stay as few as is asked.
use Rattle.std.proofs.Common.{ap, arith, lit<}
use Rattle.bk_word.specs.Word.{Move}
use Rattle.bk_walk_cuts.proofs.moves.least_legal_from.Goals as goal

pub overflow_sub-wanted : goal.overflow_sub-wanted
overflow_sub-wanted c = omega (arith, c.from.ensures, c.requires.some, ap (λ (m : Move). m.count) c.m.view_is)

pub overflow_add-wanted : goal.overflow_add-wanted
overflow_add-wanted c = omega (arith, c.from.ensures, c.requires.count, c.requires.sides, ap (λ (m : Move). m.count) c.m.view_is)

pub len-requires : goal.len-requires
len-requires c = lit< tt

pub pass-requires-clause-count : goal.pass-requires-clause-count
pass-requires-clause-count c = c.requires.count

pub pass-requires-clause-signs : goal.pass-requires-clause-signs
pass-requires-clause-signs c = c.requires.signs

pub pad-requires-clause-sides : goal.pad-requires-clause-sides
pad-requires-clause-sides c = c.requires.sides
