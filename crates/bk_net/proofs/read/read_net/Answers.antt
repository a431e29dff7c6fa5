use Rattle.std.specs.Prelude.{List, Option, Some, ℕ}
use Rattle.std.proofs.Common.{ap, arith, subst, sym, ◌∙◌}
use Rattle.bk_net.specs.GatheredWires.{KeepsWires, and_wire}
use Rattle.bk_net.specs.NetReading.{ended_wire, next_net_place}
use Rattle.bk_net.specs.declared.reader.NetEnding.{NetEnding}
use Rattle.bk_net.proofs.NetProgress.{HasWires, item_is, no_net_line_where_none_may_end, no_net_line_where_the_reader_stops, progress_all}
use Rattle.bk_net.proofs.NetProgress.{progress_before_the_first_byte, progress_more, skip_found, told_net_fault_is_the_fault, wires_found}
use Rattle.bk_net.proofs.read.read_net.Goals as goal

pub new-wires-requires : goal.new-wires-requires
new-wires-requires c = omega arith

pub loop-at-init : goal.loop-at-init
loop-at-init c = progress_before_the_first_byte c.new-wires.result.items c.new-wires.ensures

pub bounds-line-at : goal.bounds-line-at
bounds-line-at c = c.loop-at-test.true

pub loop-at-preserved : goal.loop-at-preserved
loop-at-preserved c =
    let kind = c.kind_of-kind.ensures in
    progress_more c.args.line.now c.loop-at.at c.loop-at.place c.in-Some.next c.loop-at.wires.items c.with_wire-many.new.wires.items c.loop-at.many
    c.with_wire-many.result c.loop-at-test.true c.loop-at.invariant
    (ap (next_net_place c.loop-at.place) (sym kind) ∙ sym c.next.ensures ∙ c.in-Some.is)
    (λ all keeps. subst (λ (o : Option (ℕ × ℕ)). KeepsWires (and_wire o all) c.with_wire-many.new.wires.items c.with_wire-many.result)
    (c.ended_wire.ensures ∙ ap (ended_wire c.loop-at.place) kind) (c.with_wire-many.ensures all keeps))

pub deref-requires : goal.deref-requires
deref-requires c = omega arith

pub net_item-requires : goal.net_item-requires
net_item-requires c = record { few = c.deref.ensures.1 }

pub returns-in-Nodes-clause-kept : goal.returns-in-Nodes-clause-kept
returns-in-Nodes-clause-kept c = c.net_item.ensures.kept

pub returns-in_default-clause-fault : goal.returns-in_default-clause-fault
returns-in_default-clause-fault c =
    no_net_line_where_the_reader_stops c.args.line.now c.loop-at.at c.loop-at.place c.loop-at.wires.items c.loop-at.many (omega arith) c.loop-at.invariant
    (ap (next_net_place c.loop-at.place) (sym c.kind_of-kind.ensures) ∙ sym c.next.ensures ∙ c.in_default.is)

pub returns-in_default-ending-clause-fault : goal.returns-in_default-ending-clause-fault
returns-in_default-ending-clause-fault c =
    no_net_line_where_none_may_end c.args.line.now c.loop-at.place c.loop-at.wires.items c.loop-at.many
    (progress_all c.args.line.now c.loop-at.at c.loop-at.place c.loop-at.wires.items c.loop-at.many (omega arith) c.loop-at.invariant) (sym c.ending.ensures
    ∙ c.in_default-ending.is)

pub returns-in-Empty-clause-read : goal.returns-in-Empty-clause-read
returns-in-Empty-clause-read c =
    skip_found c.args.line.now c.loop-at.place c.loop-at.wires.items c.loop-at.many
    (progress_all c.args.line.now c.loop-at.at c.loop-at.place c.loop-at.wires.items c.loop-at.many (omega arith) c.loop-at.invariant)
    (sym c.ending.ensures ∙ c.in-Some-ending.is ∙ ap (λ (e : NetEnding). Some e) c.in-Empty.is)

-- all wires, and what is kept of them
wires : (c : goal.After-net_item) → HasWires c.args.line.now c.in-Nodes.nodes c.deref.result.now c.with_wire-many-2.result
wires c =
    subst (λ (kept : List (ℕ × ℕ)). HasWires c.args.line.now c.in-Nodes.nodes kept c.with_wire-many-2.result) (sym c.deref.ensures.0)
    (wires_found c.args.line.now c.loop-at.place c.loop-at.wires.items c.with_wire-many-2.new.wires.items c.loop-at.many c.with_wire-many-2.result
    c.in-Nodes.nodes
    (progress_all c.args.line.now c.loop-at.at c.loop-at.place c.loop-at.wires.items c.loop-at.many (omega arith) c.loop-at.invariant)
    (sym c.ending.ensures ∙ c.in-Some-ending.is ∙ ap (λ (e : NetEnding). Some e) c.in-Nodes.is)
    (λ all keeps. subst (λ (o : Option (ℕ × ℕ)). KeepsWires (and_wire o all) c.with_wire-many-2.new.wires.items c.with_wire-many-2.result)
    c.last_wire.ensures (c.with_wire-many-2.ensures all keeps)))

pub returns-in-Nodes-clause-read : goal.returns-in-Nodes-clause-read
returns-in-Nodes-clause-read c =
    item_is c.net_item.result c.args.line.now c.in-Nodes.nodes c.deref.result.now c.with_wire-many-2.result (wires c) c.net_item.ensures.all
    c.net_item.ensures.item

pub returns-in-Nodes-clause-fault : goal.returns-in-Nodes-clause-fault
returns-in-Nodes-clause-fault c =
    told_net_fault_is_the_fault c.net_item.result c.args.line.now c.in-Nodes.nodes c.deref.result.now c.with_wire-many-2.result (wires c) c.deref.ensures.1
    c.net_item.ensures.fault
