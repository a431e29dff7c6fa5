use Rattle.std.proofs.Common.{ap, arith, length, rules, subst}
use Rattle.arrayvec.proofs.ArrayVecLemmas.{items-with_items}
use Rattle.bk_net.specs.Labels.{AreLabels}
use Rattle.bk_net.proofs.Joining.{labels_step, own_are}
use Rattle.bk_net.proofs.labels.labels_of.Goals as goal

pub loop-from-init : goal.loop-from-init
loop-from-init c = own_are c.args.nodes c.args.wires.now c.own_labels-labels.result.items c.own_labels-labels.ensures.many c.own_labels-labels.ensures.own

pub loop-from-preserved : goal.loop-from-preserved
loop-from-preserved c = rw (items-with_items c.loop-from.labels c.relabel.new.labels (search rules))
    (labels_step c.args.nodes c.args.wires.now c.loop-from.labels.items c.deref.result.now c.deref-in-loop-from.result.now c.as_mut_slice.result.now
    c.relabel.new.labels c.loop-from.from-index c.from.result c.from-in-loop-from.result
    c.requires.ends c.loop-from-test.true c.loop-from.invariant c.deref.ensures.0 c.deref-in-loop-from.ensures.0 c.as_mut_slice.ensures.value
    c.from.ensures c.from-in-loop-from.ensures c.relabel.ensures.many c.relabel.ensures.each)

pub own_labels-labels-requires : goal.own_labels-labels-requires
own_labels-labels-requires c = c.requires.few

pub offset_bounds-wires-from-index : goal.offset_bounds-wires-from-index
offset_bounds-wires-from-index c = omega arith

pub deref-requires : goal.deref-requires
deref-requires c = omega arith

pub offset_bounds-deref-from : goal.offset_bounds-deref-from
offset_bounds-deref-from c =
    omega (arith, c.from.ensures, (c.requires.ends c.loop-from.from-index (0, 0) c.loop-from-test.true).0, c.requires.few)

pub bounds-deref-from : goal.bounds-deref-from
bounds-deref-from c = omega (
  arith,
  c.from.ensures,
  (c.requires.ends c.loop-from.from-index (0, 0) c.loop-from-test.true).0,
  ap length c.deref.ensures.0,
  c.loop-from.invariant.many,
)

pub deref-requires-in-loop-from : goal.deref-requires-in-loop-from
deref-requires-in-loop-from c = omega arith

pub offset_bounds-deref-from-in-loop-from : goal.offset_bounds-deref-from-in-loop-from
offset_bounds-deref-from-in-loop-from c =
    omega (arith, c.from-in-loop-from.ensures, (c.requires.ends c.loop-from.from-index (0, 0) c.loop-from-test.true).1, c.requires.few)

pub bounds-deref-from-in-loop-from : goal.bounds-deref-from-in-loop-from
bounds-deref-from-in-loop-from c = omega (
  arith,
  c.from-in-loop-from.ensures,
  (c.requires.ends c.loop-from.from-index (0, 0) c.loop-from-test.true).1,
  ap length c.deref-in-loop-from.ensures.0,
  c.loop-from.invariant.many,
)

pub as_mut_slice-requires : goal.as_mut_slice-requires
as_mut_slice-requires c = omega arith

pub returns : goal.returns
returns c =
    subst (AreLabels c.args.nodes c.args.wires.now c.loop-from.labels.items) (omega (arith, c.loop-from-test.false, c.loop-from.auto.from-index-end))
    c.loop-from.invariant
