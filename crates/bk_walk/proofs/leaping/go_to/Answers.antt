use Rattle.std.proofs.Common.{ap, arith, length, refl, ◌<◌}
use Rattle.bk_word.specs.Word.{order_of}
use Rattle.bk_tree_walk.proofs.WalkLoop.{counts_none}
use Rattle.bk_tree_walk.proofs.LoopSteps.{stays_then}
use Rattle.bk_walk.proofs.GoingTo.{IsNextTo, going_by, going_next, is_there, played_each, played_goes, played_nearer, played_stays}
use Rattle.bk_walk.proofs.leaping.go_to.Goals.{After-read_next}
use Rattle.bk_walk.proofs.leaping.go_to.Goals as goal

pub moves-init : goal.moves-init
moves-init g c = record {
  goes = c.requires.goes;
  ordered = omega (arith, c.from-order.ensures, c.order.ensures);
  one_each = refl;
  stays = record { order = refl; class = refl; counts = counts_none c.args.tree.now.pushes c.args.steps.now c.requires.known };
}

pub read_next-requires : goal.read_next-requires
read_next-requires g c =
    let few : order_of c.moves.tree.front < c.args.tree.now.order =
    omega (arith, c.moves-test.true, c.order-in-moves.ensures.value, ap order_of c.skel.ensures.value, c.moves.invariant.ordered) in
    going_by c.args.tree.now.order c.moves.tree c.args.number c.moves.invariant.goes c.moves.invariant.stays.order c.skel-in-moves.ensures.kept
    c.skel-in-moves.result.now c.skel-in-moves.ensures.value few

-- the move that was read leads on to the word
next_move : (g : _) (c : After-read_next g) → IsNextTo c.args.tree.now.order c.moves.tree.front c.args.number c.read_next.new.m
next_move g c =
    let few : order_of c.moves.tree.front < c.args.tree.now.order =
    omega (arith, c.moves-test.true, c.order-in-moves.ensures.value, ap order_of c.skel.ensures.value, c.moves.invariant.ordered) in
    going_next c.args.tree.now.order c.moves.tree c.args.number c.moves.invariant.goes c.moves.invariant.stays.order
    c.skel-in-moves.ensures.kept c.skel-in-moves.result.now c.skel-in-moves.ensures.value few c.read_next.new.m c.read_next.ensures

pub push-requires-clause-legal : goal.push-requires-clause-legal
push-requires-clause-legal g c =
    let next = next_move g (goal.at.push-requires-clause-legal g c).After-read_next in
    next.legal

pub push-requires-clause-few : goal.push-requires-clause-few
push-requires-clause-few g c =
    let next = next_move g (goal.at.push-requires-clause-few g c).After-read_next in
    omega (arith, next.few, c.moves.invariant.stays.order)

pub moves-smaller : goal.moves-smaller
moves-smaller g c =
    let next = next_move g (goal.at.moves-smaller g c).After-read_next in
    played_nearer c.moves.tree c.push.new.self c.read_next.new.m c.push.ensures.state c.args.tree.now.order c.args.number
    c.moves.invariant.stays.order next

pub moves-preserved : goal.moves-preserved
moves-preserved g c =
    let next = next_move g (goal.at.moves-preserved g c).After-read_next in
    record {
      goes = played_goes c.moves.tree c.push.new.self c.read_next.new.m c.push.ensures.state c.args.tree.now.order c.args.number next;
      ordered = c.moves.invariant.ordered;
      one_each = played_each c.moves.tree c.push.new.self c.read_next.new.m c.push.ensures.state c.args.steps.now (length c.args.tree.now.front)
          c.moves.steps c.push.new.steps c.moves.invariant.one_each c.push.ensures.step;
      stays = stays_then c.args.tree.now c.moves.tree c.push.new.self c.args.steps.now c.moves.steps c.push.new.steps c.moves.invariant.stays
          (played_stays c.moves.tree c.push.new.self c.read_next.new.m c.push.ensures.state c.moves.steps c.push.new.steps c.push.ensures.step);
    }

pub returns-clause-at : goal.returns-clause-at
returns-clause-at g c = is_there c.args.tree.now.order c.moves.tree.front c.args.number c.moves.invariant.goes
    (omega (arith, c.moves-test.false, c.order-in-moves.ensures.value, ap order_of c.skel.ensures.value, c.moves.invariant.ordered))

pub returns-clause-steps : goal.returns-clause-steps
returns-clause-steps g c = c.moves.invariant.one_each

pub returns-clause-stays : goal.returns-clause-stays
returns-clause-stays g c = c.moves.invariant.stays
