use Rattle.std.proofs.Common.{ap, arith, get_or, length, subst, sym, ◌++◌, ◌+◌, ◌∙◌, ◌∷◌, ◌≡◌, List, ℕ, [], slice_index_or}
use Rattle.std.specs.Prelude.{slice_index}
use Rattle.std.proofs.lemmas.List.{length-append, take_all}
use Rattle.bk_tiling.proofs.GroupCount.{some_group}
use Rattle.bk_tiling.proofs.Members.{one_at}
use Rattle.bk_tiling.specs.SquareGroups.{square_groups}
use Rattle.bk_tiling.specs.Tiling.{IsOneOf}
use Rattle.bk_tiling.specs.declared.Square.{Square}
use Rattle.bk_net.proofs.Hanging.{groups_few}
use Rattle.bk_net.proofs.NodeNumbers.{HasEnds, diagram_has_a_wire_for_each_square, numbers_many, wire_of_square_ends_at_nodes}
use Rattle.bk_net.proofs.NodeNumbers.{wires_with_that_of_one_square_more}
use Rattle.bk_net.specs.Diagram.{node_below, smith_diagram}
use Rattle.bk_net.specs.Net.{Net}
use Rattle.bk_net.proofs.diagram.wired.Goals as goal
use Rattle.bk_net.specs.GroupNumbers.{group_numbers}

abbrev nowhere : Square
nowhere = record { x = 0; y = 0; s = 0 }

pub overflow_add-bottom : goal.overflow_add-bottom
overflow_add-bottom c = let kept = c.squares-squares.ensures.kept in let few = kept.few in
    omega (arith, c.requires.bottom, groups_few c.args.tiling.now.squares)

pub new-net-requires-clause-some : goal.new-net-requires-clause-some
new-net-requires-clause-some c = let kept = c.squares-squares.ensures.kept in
    omega (arith, c.requires.bottom, some_group c.args.tiling.now.squares (kept.tiling.tiles).some)

pub new-net-requires-clause-few : goal.new-net-requires-clause-few
new-net-requires-clause-few c = let kept = c.squares-squares.ensures.kept in let few = kept.few in
    omega (arith, c.requires.bottom, groups_few c.args.tiling.now.squares)

pub bounds-nodes-i : goal.bounds-nodes-i
bounds-nodes-i c = let kept = c.squares-squares.ensures.kept in
    omega (arith, ap length c.requires.nodes, numbers_many c.args.tiling.now kept.tiling, ap length c.squares-squares.ensures.value)

pub node_below-requires-clause-one : goal.node_below-requires-clause-one
node_below-requires-clause-one c =
    let same = c.squares-squares.ensures.value in
    subst (λ (l : List Square). IsOneOf (get_or l c.loop-i.i nowhere) c.args.tiling.now.squares) (sym same)
    (one_at c.args.tiling.now.squares c.loop-i.i nowhere (omega (arith, ap length same)))

-- the ends of the wire at hand, by the diagram
from_is : (nodes numbers : List ℕ) (i : ℕ) → nodes ≡ numbers → get_or nodes i 0 ≡ slice_index numbers i
from_is nodes numbers i e = ap (λ (l : List ℕ). slice_index l i) e

to_is : (groups : List (List Square)) (squares all : List Square) (i to : ℕ) → squares ≡ all → to ≡ node_below groups (get_or squares i nowhere)
    → to ≡ node_below groups (slice_index_or all i nowhere)
to_is groups squares all i to same e = e ∙ ap (λ (l : List Square). node_below groups (slice_index_or l i nowhere)) same

ends : (c : goal.After-node_below)
    → HasEnds c.args.tiling.now (c.squares-squares.ensures.kept).tiling (slice_index (group_numbers c.args.tiling.now.squares) c.loop-i.i)
    (node_below (square_groups c.args.tiling.now.squares) (slice_index_or c.args.tiling.now.squares c.loop-i.i nowhere))
ends c = wire_of_square_ends_at_nodes c.args.tiling.now (c.squares-squares.ensures.kept).tiling c.loop-i.i nowhere
    (omega (arith, ap length c.squares-squares.ensures.value))

pub add-requires-clause-from_node : goal.add-requires-clause-from_node
add-requires-clause-from_node c =
    omega (
      arith,
      (ends c).from_node,
      from_is c.args.nodes.now (group_numbers c.args.tiling.now.squares) c.loop-i.i c.requires.nodes,
      c.loop-i.invariant.nodes,
      c.requires.bottom,
    )

pub add-requires-clause-to_node : goal.add-requires-clause-to_node
add-requires-clause-to_node c =
    omega (
      arith,
      (ends c).to_node,
      to_is (square_groups c.args.tiling.now.squares) c.squares-squares.result.now c.args.tiling.now.squares c.loop-i.i c.node_below.result
          c.squares-squares.ensures.value c.node_below.ensures,
      c.loop-i.invariant.nodes,
      c.requires.bottom,
    )

pub add-requires-clause-differ : goal.add-requires-clause-differ
add-requires-clause-differ c =
    λ same. (ends c).differ (sym (from_is c.args.nodes.now (group_numbers c.args.tiling.now.squares) c.loop-i.i c.requires.nodes) ∙ same
    ∙ (to_is (square_groups c.args.tiling.now.squares) c.squares-squares.result.now c.args.tiling.now.squares c.loop-i.i c.node_below.result
    c.squares-squares.ensures.value c.node_below.ensures))

pub loop-i-preserved : goal.loop-i-preserved
loop-i-preserved c =
    let from = from_is c.args.nodes.now (group_numbers c.args.tiling.now.squares) c.loop-i.i c.requires.nodes in
    let to = to_is (square_groups c.args.tiling.now.squares) c.squares-squares.result.now c.args.tiling.now.squares c.loop-i.i c.node_below.result
    c.squares-squares.ensures.value c.node_below.ensures in
    record {
      wires = c.add.ensures.wires ∙ (λ k. c.loop-i.net.wires ++ (from k, to k) ∷ [])
          ∙ wires_with_that_of_one_square_more c.args.tiling.now (c.squares-squares.ensures.kept).tiling c.loop-i.i nowhere c.loop-i.net.wires
          (omega (arith, ap length c.squares-squares.ensures.value)) c.loop-i.invariant.wires;
      nodes = c.add.ensures.nodes ∙ c.loop-i.invariant.nodes;
      many = omega (
        arith,
        ap length c.add.ensures.wires,
        length-append c.loop-i.net.wires ((get_or c.args.nodes.now c.loop-i.i 0, c.node_below.result) ∷ []),
        c.loop-i.invariant.many,
      );
    }

pub returns : goal.returns
returns c =
    let kept = c.squares-squares.ensures.kept in
    let all = take_all c.loop-i.i (smith_diagram c.args.tiling.now).wires (omega (
      arith,
      diagram_has_a_wire_for_each_square c.args.tiling.now kept.tiling,
      ap length c.squares-squares.ensures.value,
      c.loop-i-test.false,
    )) in
    λ k. record { nodes = (c.loop-i.invariant.nodes ∙ ap (λ (n : ℕ). n + 1) c.requires.bottom) k; wires = (c.loop-i.invariant.wires ∙ all) k }

pub loop-i-init : goal.loop-i-init
loop-i-init c = record {
  wires = ap (λ (n : Net). n.wires) c.new-net.ensures;
  nodes = ap (λ (n : Net). n.nodes) c.new-net.ensures;
  many = ap (λ (n : Net). length n.wires) c.new-net.ensures;
}

pub offset_bounds-squares-i : goal.offset_bounds-squares-i
offset_bounds-squares-i c = let kept = c.squares-squares.ensures.kept in
    omega (arith, c.loop-i-test.true, ap length c.squares-squares.ensures.value, kept.few)

pub bounds-squares-i : goal.bounds-squares-i
bounds-squares-i c = c.loop-i-test.true

pub offset_bounds-nodes-i : goal.offset_bounds-nodes-i
offset_bounds-nodes-i c = let kept = c.squares-squares.ensures.kept in
    omega (arith, c.loop-i-test.true, ap length c.squares-squares.ensures.value, kept.few)

pub node_below-requires-clause-bottom : goal.node_below-requires-clause-bottom
node_below-requires-clause-bottom c = c.requires.bottom

pub node_below-requires-clause-nodes : goal.node_below-requires-clause-nodes
node_below-requires-clause-nodes c = c.requires.nodes

pub add-requires-clause-room : goal.add-requires-clause-room
add-requires-clause-room c = let kept = c.squares-squares.ensures.kept in
    omega (arith, c.loop-i.invariant.many, c.loop-i-test.true, ap length c.squares-squares.ensures.value, kept.few)
