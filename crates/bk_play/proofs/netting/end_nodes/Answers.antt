use Rattle.std.proofs.lemmas.Grind.{common_steps}
use Rattle.std.proofs.Common.{ap, arith, drop, length, refl, sum, sym, take_all, ◌+◌, ◌∙◌, ◌≡◌}
use Rattle.std.proofs.lemmas.List.{length-map}
use Rattle.bk_play.proofs.Wirings.{closed_next, mark_next, none_marked}
use Rattle.bk_play.specs.Wiring.{closed_of}
use Rattle.bk_word_net.specs.WordNet.{end_of}
use Rattle.bk_play.specs.declared.records.MoveRecord.{MoveRecord}
use Rattle.bk_play.proofs.netting.end_nodes.Goals as goal

pub nodes-init : goal.nodes-init
nodes-init c = record {
  within = omega arith;
  long = refl;
  at = c.requires.many ∙ ap sum (sym (take_all (length c.args.records.now) (closed_of c.args.records.now)
      (omega (arith, length-map c.args.records.now (λ (t : MoveRecord). t.closed)))));
  marked = λ lists flat long k h. none_marked c.args.records.now lists _ k refl long h;
}

pub overflow_sub-start : goal.overflow_sub-start
overflow_sub-start c = let i = c.nodes.invariant in
    omega (arith, closed_next c.args.records.now c.nodes.node c.from.result c.nodes.end _ c.nodes-test.true i.within c.from.ensures i.at)

pub nodes-preserved : goal.nodes-preserved
nodes-preserved c = let i = c.nodes.invariant in record {
  within = omega arith;
  long = omega (arith, i.long);
  at = omega (arith, closed_next c.args.records.now c.nodes.node c.from.result c.nodes.end _ c.nodes-test.true i.within c.from.ensures i.at);
  marked = λ lists flat long k h. mark_next c.args.records.now lists c.args.closed.now c.nodes.ended c.mark.new.ended c.nodes.node
      c.from.result c.nodes.end k _ c.nodes-test.true i.within c.from.ensures i.at flat long
      (c.mark.ensures k (omega (arith, i.long))) (i.marked lists flat long k h);
}

pub returns-clause-nodes : goal.returns-clause-nodes
returns-clause-nodes c = let i = c.nodes.invariant in let none : c.nodes.node ≡ 0 = omega arith in
    λ lists flat long k h. i.marked lists flat long k h ∙ (λ j. none j + end_of (drop (none j) lists) (k + 1)) ∙ omega arith

pub slice_bounds-mark-end-in-nodes : goal.slice_bounds-mark-end-in-nodes
slice_bounds-mark-end-in-nodes c = grind (arith, common_steps)

pub mark-requires : goal.mark-requires
mark-requires c = grind (arith, common_steps)
