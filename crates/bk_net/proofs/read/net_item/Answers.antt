-- Why the kept wires make no net, or the net that they make.
use Rattle.std.proofs.Common.{ap, arith, sym, subst}
use Rattle.bk_net.specs.KeptNet.{IsKeptNet}
use Rattle.bk_net.specs.Net.{Net}
use Rattle.bk_net.specs.NetLine.{Item}
use Rattle.bk_net.proofs.read.net_item.Goals.{then-nodes-lt2-via-else-nodes-lt2+then-from-gt-MOST_NODES, then-nodes-lt2-via-then-nodes-lt2}
use Rattle.bk_net.proofs.read.net_item.Goals as goal

pub returns-then-many-clause-fault : goal.returns-then-many-clause-fault
returns-then-many-clause-fault c = c.if-many.true

pub returns-then-nodes-lt2-clause-fault : goal.returns-then-nodes-lt2-clause-fault
returns-then-nodes-lt2-clause-fault c = (
  c.if-many.false,
  c.from-then-nodes-lt2.ensures,
  λ is. elim c.then-nodes-lt2.branch [
    | then-nodes-lt2-via-then-nodes-lt2 w ↦ omega (arith, is.0, w.if-nodes-lt2.true)
    | then-nodes-lt2-via-else-nodes-lt2+then-from-gt-MOST_NODES w ↦ omega (arith, is.1, w.from.ensures, w.if-from-gt-MOST_NODES.true)
  ],
)

pub returns-in-Some-clause-fault : goal.returns-in-Some-clause-fault
returns-in-Some-clause-fault c =
    (c.if-many.false, (c.if-nodes-lt2.false, omega (arith, c.from.ensures, c.if-from-gt-MOST_NODES.false)), c.in-Some.ensures.some)

pub net_with-requires-clause-count : goal.net_with-requires-clause-count
net_with-requires-clause-count c = (c.if-nodes-lt2.false, omega (arith, c.from.ensures, c.if-from-gt-MOST_NODES.false))

pub net_with-requires-clause-few : goal.net_with-requires-clause-few
net_with-requires-clause-few c = c.requires.few

pub net_with-requires-clause-ends : goal.net_with-requires-clause-ends
net_with-requires-clause-ends c = c.in_default.ensures.none

pub returns-clause-all : goal.returns-clause-all
returns-clause-all c = c.if-many.false

pub returns-clause-item : goal.returns-clause-item
returns-clause-item c = ap (λ (n : Net). Item n.nodes n.wires) c.net_with.ensures

pub returns-clause-kept : goal.returns-clause-kept
returns-clause-kept c =
    subst IsKeptNet (sym c.net_with.ensures) (record {
      is = record { some = c.if-nodes-lt2.false; ends = c.in_default.ensures.none };
      few_nodes = omega (arith, c.from.ensures, c.if-from-gt-MOST_NODES.false);
      few_wires = c.requires.few;
    })
