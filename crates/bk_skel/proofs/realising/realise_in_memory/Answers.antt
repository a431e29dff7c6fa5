use Rattle.std.proofs.Common.{refl, subst}
use Rattle.bk_skel.proofs.RealisedWord.{large_word, loose_fault, memory_fault, not_wide, wide_fault}
use Rattle.bk_net.specs.Net.{Net}
use Rattle.bk_net.specs.Flow.{IsPrimitiveFlow}
use Rattle.bk_skel.proofs.realising.realise_in_memory.Goals as goal

pub returns-in-Err-NoMemory-clause-refused : goal.returns-in-Err-NoMemory-clause-refused
returns-in-Err-NoMemory-clause-refused c = memory_fault c.args.skel.now c.args.skel.now refl c.requires.closed c.net.result c.net.ensures
    c.in-Err-NoMemory.field-0 c.in-Err-NoMemory.ensures.refused c.in-Err-NoMemory.field-0-is

pub returns-in-Err-Wide-clause-refused : goal.returns-in-Err-Wide-clause-refused
returns-in-Err-Wide-clause-refused c = wide_fault c.args.skel.now c.args.skel.now refl c.requires.closed c.net.result c.net.ensures
    c.in-Err-Wide.field-0 c.in-Err-Wide.ensures.refused c.in-Err-Wide.field-0-is

pub unreachable-requires : goal.unreachable-requires
unreachable-requires c = loose_fault c.args.skel.now c.args.skel.now refl c.requires.closed c.net.result c.net.ensures c.in-Err-Loose.field-0
    c.in-Err-Loose.ensures.refused c.in-Err-Loose.field-0-0 c.in-Err-Loose.field-0-is

pub returns-in-Ok-realised-clause-narrow : goal.returns-in-Ok-realised-clause-narrow
returns-in-Ok-realised-clause-narrow c = not_wide c.args.skel.now c.args.skel.now c.net.result refl c.net.ensures
    c.in-Ok.ensures.narrow c.in-Ok-realised.ensures.wide.1

pub returns-in-Err-clause-refused : goal.returns-in-Err-clause-refused
returns-in-Err-clause-refused c = large_word c.args.skel.now c.args.skel.now refl c.requires.closed (c.in-Err.ensures.wide.0 refl)

pub net-requires : goal.net-requires
net-requires c = c.requires.closed

pub realised-requires-clause-closed : goal.realised-requires-clause-closed
realised-requires-clause-closed c = c.requires.closed

pub realised-requires-clause-flow : goal.realised-requires-clause-flow
realised-requires-clause-flow c =
    subst (λ (n : Net). IsPrimitiveFlow n c.in-Ok.flow.total c.in-Ok.flow.currents) c.net.ensures c.in-Ok.ensures.flow

pub returns-in-Ok-realised-clause-realised : goal.returns-in-Ok-realised-clause-realised
returns-in-Ok-realised-clause-realised c = c.in-Ok-realised.ensures.realised
