use Rattle.std.proofs.lemmas.Grind.{flat_map-append, take_at_read}
use Rattle.std.proofs.lemmas.List.{append-nil, length-append, take_all}
use Rattle.std.proofs.Common.{append_assoc, arith, sym}
use Rattle.bk_report.proofs.flow.push_currents.Goals as goal

pub loop-current-init : goal.loop-current-init
loop-current-init c = (sym (append-nil c.args.out.now.items), omega arith)

pub push-requires : goal.push-requires
push-requires c = omega arith

pub push_whole-requires : goal.push_whole-requires
push_whole-requires c = omega arith

pub loop-current-preserved : goal.loop-current-preserved
loop-current-preserved c = grind (arith, append_assoc, append-nil, flat_map-append, take_at_read, length-append)

pub returns-clause-text : goal.returns-clause-text
returns-clause-text c = grind (arith, take_all)

pub returns-clause-short : goal.returns-clause-short
returns-clause-short c = omega arith
