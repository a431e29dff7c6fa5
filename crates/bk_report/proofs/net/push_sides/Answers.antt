use Rattle.std.proofs.lemmas.Grind.{flat_map-append, take_at_read}
use Rattle.std.proofs.lemmas.List.{append-nil, length-append, take_all}
use Rattle.std.proofs.Common.{ap, append_assoc, arith, length}
use Rattle.bk_report.proofs.net.push_sides.Goals as goal

pub push_number-requires : goal.push_number-requires
push_number-requires c = omega arith

pub push-requires : goal.push-requires
push-requires c = omega (arith, c.squares-q-items.ensures.kept.few, ap length c.squares-q-items.ensures.value)

pub push_side-requires-clause-room : goal.push_side-requires-clause-room
push_side-requires-clause-room c = omega (arith, c.squares-q-items.ensures.kept.few, ap length c.squares-q-items.ensures.value)

pub loop-q-preserved : goal.loop-q-preserved
loop-q-preserved c = grind (arith, append_assoc, append-nil, flat_map-append, take_at_read, length-append)

pub returns-clause-text : goal.returns-clause-text
returns-clause-text c = grind (arith, take_all, c.squares-q-items.ensures.value)

pub returns-clause-short : goal.returns-clause-short
returns-clause-short c = omega (arith, c.squares-q-items.ensures.kept.few, ap length c.squares-q-items.ensures.value)
