-- Why a net is refused.
-- Example (FlowLawExamples): two nodes without wires are refused for node 0, the least loose one.
use Rattle.std.specs.Prelude.{length, ◌<◌}
use Rattle.bk_net.specs.Net.{HasNoLoose, IsLeastLoose, Net}
use Rattle.bk_flow.specs.Wide.{IsWide}
use Rattle.bk_flow.specs.declared.FlowFault.{FlowFault}
use Rattle.bk_flow.specs.declared.FlowFault.TheVariants.{Loose, NoMemory, Wide}
use Rattle.bk_flow.specs.declared.TheConstants.{MOST_SMALL_WIRES}

-- a loose node comes first; memory may be wanting only past 16 wires. By `no_small_net_is_wide` a wide net has more,
-- too
abbrev pub IsRefusedFor : FlowFault → Net → Type 0
IsRefusedFor (Loose node) net = IsLeastLoose net node
IsRefusedFor Wide net = HasNoLoose net × IsWide net
IsRefusedFor NoMemory net = HasNoLoose net × (MOST_SMALL_WIRES < length net.wires)
