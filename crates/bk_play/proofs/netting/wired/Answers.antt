use Rattle.std.proofs.lemmas.Grind.{common_steps}
use Rattle.std.proofs.Common.{ap, arith, length, ◌+◌, ◌∙◌, ◌≡◌}
use Rattle.std.proofs.lemmas.List.{length-append, length-map}
use Rattle.bk_play.proofs.Wirings.{next_count, no_record, wires_here, wires_with_those_from_one_node_more}
use Rattle.bk_play.specs.Wiring.{hung_and_closed, move_wires_from}
use Rattle.bk_play.proofs.netting.wired.Goals as goal

pub add_wires-requires-clause-wires : goal.add_wires-requires-clause-wires
add_wires-requires-clause-wires c =
    let i = c.loop-node.invariant in
    wires_here _ (length c.args.records.now + 1) (move_wires_from 0 (hung_and_closed c.args.records.now) c.args.ends.now) c.loop-node.net.wires
    c.args.records.now c.loop-node.rest.now c.split_at.result.0.now c.loop-node.node c.from.result _
    (omega arith) c.requires.wires i.nodes i.wires c.from.ensures c.split_at.ensures.front

pub loop-node-preserved : goal.loop-node-preserved
loop-node-preserved c =
    let i = c.loop-node.invariant in
    let wires = c.add_wires.ensures.wires in
    let many : length c.add_wires.new.net.wires ≡ length c.loop-node.net.wires + length c.split_at.result.0.now = ap length wires
    ∙ length-append _ _ ∙ ap (λ n. length c.loop-node.net.wires + n) (length-map c.split_at.result.0.now _) in
    record {
      nodes = c.add_wires.ensures.nodes ∙ i.nodes;
      many = omega (
        arith,
        i.many,
        many,
        c.split_at.ensures.front_len,
        c.split_at.ensures.back_len,
        i.left,
        c.from.ensures,
        next_count c.args.records.now c.loop-node.node no_record (omega arith),
      );
      left = omega (arith, i.left, c.split_at.ensures.back_len, c.from.ensures, next_count c.args.records.now c.loop-node.node no_record (omega arith));
      wires = wires_with_those_from_one_node_more (move_wires_from 0 (hung_and_closed c.args.records.now) c.args.ends.now) c.loop-node.net.wires
          c.add_wires.new.net.wires
          c.args.records.now c.loop-node.rest.now c.split_at.result.0.now c.split_at.result.1.now c.loop-node.node c.from.result _
          (omega arith) i.wires c.from.ensures c.split_at.ensures.front c.split_at.ensures.back wires;
    }

pub split_at-requires : goal.split_at-requires
split_at-requires c = grind (arith, common_steps)

pub returns : goal.returns
returns c = grind (arith, common_steps)
