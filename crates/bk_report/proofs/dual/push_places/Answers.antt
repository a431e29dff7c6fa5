use Rattle.std.proofs.lemmas.Grind.{flat_map-append, take_at_read}
use Rattle.std.proofs.lemmas.List.{append-nil, length-append, take_all}
use Rattle.std.proofs.Common.{append_assoc, arith, sym}
use Rattle.bk_report.proofs.dual.push_places.Goals as goal

pub loop-number-init : goal.loop-number-init
loop-number-init c = (sym (append-nil c.args.out.now.items), omega arith)

pub push-requires : goal.push-requires
push-requires c = omega arith

pub push_place-requires-clause-room : goal.push_place-requires-clause-room
push_place-requires-clause-room c = omega arith

pub loop-number-preserved : goal.loop-number-preserved
loop-number-preserved c = grind (arith, append_assoc, append-nil, flat_map-append, take_at_read, length-append)

pub returns-clause-text : goal.returns-clause-text
returns-clause-text c = grind (arith, take_all)

pub returns-clause-short : goal.returns-clause-short
returns-clause-short c = omega arith
