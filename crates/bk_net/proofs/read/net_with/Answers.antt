-- The net that the loop builds: with each step one more of the wires, each of which its nodes allow.
use Rattle.std.proofs.Common.{List, [], ap, arith, length, subst, sym, ℕ, ◌++◌, ◌<◌, ◌∙◌, ◌∷◌}
use Rattle.std.specs.Prelude.{slice_index_or}
use Rattle.std.proofs.lemmas.List.{length-append, take_all, take_more}
use Rattle.bk_net.specs.Net.{Net}
use Rattle.bk_net.proofs.read.net_with.Goals as goal

pub new-net-requires-clause-some : goal.new-net-requires-clause-some
new-net-requires-clause-some c = c.requires.count.0

pub new-net-requires-clause-few : goal.new-net-requires-clause-few
new-net-requires-clause-few c = c.requires.count.1

pub loop-from-init : goal.loop-from-init
loop-from-init c = record {
  nodes = ap (λ (n : Net). n.nodes) c.new-net.ensures;
  wires = ap (λ (n : Net). n.wires) c.new-net.ensures;
  many = ap (λ (n : Net). length n.wires) c.new-net.ensures;
}

pub offset_bounds-wires-from-index : goal.offset_bounds-wires-from-index
offset_bounds-wires-from-index c = omega (arith, c.loop-from-test.true, c.requires.few)

pub add-requires-clause-room : goal.add-requires-clause-room
add-requires-clause-room c = omega (arith, c.loop-from.invariant.many, c.loop-from-test.true, c.requires.few)

pub add-requires-clause-from_node : goal.add-requires-clause-from_node
add-requires-clause-from_node c =
    subst (λ (n : ℕ). (slice_index_or c.args.wires.now c.loop-from.from-index (0, 0)).0 < n) (sym c.loop-from.invariant.nodes)
    (c.requires.ends c.loop-from.from-index (0, 0) c.loop-from-test.true).0

pub add-requires-clause-to_node : goal.add-requires-clause-to_node
add-requires-clause-to_node c =
    subst (λ (n : ℕ). (slice_index_or c.args.wires.now c.loop-from.from-index (0, 0)).1 < n) (sym c.loop-from.invariant.nodes)
    (c.requires.ends c.loop-from.from-index (0, 0) c.loop-from-test.true).1

pub add-requires-clause-differ : goal.add-requires-clause-differ
add-requires-clause-differ c = (c.requires.ends c.loop-from.from-index (0, 0) c.loop-from-test.true).2

pub loop-from-preserved : goal.loop-from-preserved
loop-from-preserved c =
    let wire = slice_index_or c.args.wires.now c.loop-from.from-index (0, 0) in
    record {
      nodes = c.add.ensures.nodes ∙ c.loop-from.invariant.nodes;
      wires = c.add.ensures.wires ∙ ap (λ (l : List (ℕ × ℕ)). l ++ wire ∷ []) c.loop-from.invariant.wires
          ∙ sym (take_more c.args.wires.now c.loop-from.from-index (0, 0) c.loop-from-test.true);
      many = omega (arith, ap length c.add.ensures.wires, length-append c.loop-from.net.wires (wire ∷ []), c.loop-from.invariant.many);
    }

pub returns : goal.returns
returns c =
    let all = take_all c.loop-from.from-index c.args.wires.now (omega (arith, c.loop-from-test.false)) in
    λ k. record { nodes = c.loop-from.invariant.nodes k; wires = (c.loop-from.invariant.wires ∙ all) k }
