use Rattle.std.proofs.lemmas.Grind.{common_steps}
use Rattle.std.proofs.Common.{List, ap, arith, length, subst, sum, sym, ℕ, ◌+◌, ◌∙◌, ◌≤◌}
use Rattle.std.proofs.lemmas.List.{length-take-le}
use Rattle.bk_play.proofs.NetRead.{reads_shown}
use Rattle.bk_play.proofs.RecordCounts.{closed_many, closed_numbers}
use Rattle.bk_play.proofs.SkelReads.{counted_in}
use Rattle.bk_play.specs.Wiring.{AreNumbers, closed_of}
use Rattle.bk_play.specs.declared.records.MoveRecord.{MoveRecord}
use Rattle.bk_play.proofs.small.small_net.Goals as goal

pub end_nodes-ended-requires-clause-numbers : goal.end_nodes-ended-requires-clause-numbers
end_nodes-ended-requires-clause-numbers c =
    subst (λ (l : List ℕ). AreNumbers 200 l) (sym c.as_slice-2.ensures.items) (closed_numbers c.skel.invariant.stored)

pub end_nodes-ended-requires-clause-many : goal.end_nodes-ended-requires-clause-many
end_nodes-ended-requires-clause-many c = ap length c.as_slice-2.ensures.items ∙ closed_many c.skel.invariant.stored
    ∙ ap (λ (l : List MoveRecord). sum (closed_of l)) (sym c.as_slice.ensures.items)

pub slice_bounds-ended-end : goal.slice_bounds-ended-end
slice_bounds-ended-end c =
    let kept = c.skel.invariant.stored.kept in let within : c.len.result + c.len-2.result ≤ length c.end_nodes-ended.result =
    omega (arith, c.len.ensures.value, c.len-2.ensures.value, (counted_in c.skel.invariant.stored).all, kept.few, c.end_nodes-ended.ensures.long) in
    within

pub slice_bounds-wired-end : goal.slice_bounds-wired-end
slice_bounds-wired-end c =
    let kept = c.skel.invariant.stored.kept in let within : c.len.result + c.len-2.result ≤ length c.end_nodes-ended.result =
    omega (arith, c.len.ensures.value, c.len-2.ensures.value, (counted_in c.skel.invariant.stored).all, kept.few, c.end_nodes-ended.ensures.long) in
    sym (length-take-le (c.len.result + c.len-2.result) c.end_nodes-ended.result within)

pub wired-requires-clause-all : goal.wired-requires-clause-all
wired-requires-clause-all c =
    let r = reads_shown c.skel.invariant.stored c.skel.view_is c.requires c.as_slice.ensures.items c.as_slice-2.ensures.items
    c.as_slice-3.ensures.items c.end_nodes-ended.result c.len.result c.len-2.result c.len.ensures.value c.len-2.ensures.value
    c.end_nodes-ended.ensures.long c.end_nodes-ended.ensures.nodes in
    r.all

pub wired-requires-clause-wires : goal.wired-requires-clause-wires
wired-requires-clause-wires c =
    let r = reads_shown c.skel.invariant.stored c.skel.view_is c.requires c.as_slice.ensures.items c.as_slice-2.ensures.items
    c.as_slice-3.ensures.items c.end_nodes-ended.result c.len.result c.len-2.result c.len.ensures.value c.len-2.ensures.value
    c.end_nodes-ended.ensures.long c.end_nodes-ended.ensures.nodes in
    r.wires

pub returns : goal.returns
returns c =
    let r = reads_shown c.skel.invariant.stored c.skel.view_is c.requires c.as_slice.ensures.items c.as_slice-2.ensures.items
    c.as_slice-3.ensures.items c.end_nodes-ended.result c.len.result c.len-2.result c.len.ensures.value c.len-2.ensures.value
    c.end_nodes-ended.ensures.long c.end_nodes-ended.ensures.nodes in
    c.wired.ensures ∙ r.net

pub wired-requires-clause-some : goal.wired-requires-clause-some
wired-requires-clause-some c = grind (arith, common_steps)

pub wired-requires-clause-room : goal.wired-requires-clause-room
wired-requires-clause-room c = grind (arith, common_steps)
