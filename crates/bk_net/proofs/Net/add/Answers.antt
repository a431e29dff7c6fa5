-- The net with one more wire, which its nodes allow.
use Rattle.std.proofs.Common.{List, [], ap, arith, length, sym, subst, ℕ, ◌++◌, ◌<◌, ◌∙◌, ◌∷◌, ◌≡◌, ◌≢◌}
use Rattle.std.proofs.lemmas.List.{length-append}
use Rattle.std.proofs.lemmas.List.Elements.{All-push}
use Rattle.bk_net.specs.KeptNet.{IsKeptNet}
use Rattle.bk_net.specs.Net.{Net}
use Rattle.bk_net.proofs.Net.add.Goals as goal

-- what holds of a net holds with a further wire
kept_more : (net : Net) (nodes from to : ℕ) (wires more : List (ℕ × ℕ)) → net ≡ record { nodes = nodes; wires = wires }
    → more ≡ wires ++ (from, to) ∷ [] → IsKeptNet (record { nodes = nodes; wires = wires })
    → length net.wires < 200 → from < net.nodes → to < net.nodes → from ≢ to → IsKeptNet (record { nodes = nodes; wires = more })
kept_more net nodes from to wires more same are kept room from_node to_node differ =
    subst (λ (l : List (ℕ × ℕ)). IsKeptNet (record { nodes = nodes; wires = l })) (sym are) (record {
      is = record {
        some = kept.is.some;
        ends = All-push (λ w. (w.0 < nodes) × (w.1 < nodes) × (w.0 ≢ w.1)) wires (from, to) kept.is.ends
            (subst (λ (n : Net). from < n.nodes) same from_node, subst (λ (n : Net). to < n.nodes) same to_node, differ);
      };
      few_nodes = kept.few_nodes;
      few_wires = omega (arith, length-append wires ((from, to) ∷ []), ap (λ (n : Net). length n.wires) same, room);
    })

pub push-requires : goal.push-requires
push-requires c = (omega arith, omega (arith, c.requires.room, ap (λ (n : Net). length n.wires) c.self.view_is))

pub invariant_of-self : goal.invariant_of-self
invariant_of-self c =
    kept_more c.args.self.now c.self.inside.nodes c.args.from c.args.to c.self.inside.wires.items c.push.new.self.items (sym c.self.view_is)
    c.push.ensures.items c.self.invariant c.requires.room c.requires.from_node c.requires.to_node c.requires.differ

pub returns-clause-nodes : goal.returns-clause-nodes
returns-clause-nodes c = ap (λ (n : Net). n.nodes) c.self.view_is

pub returns-clause-wires : goal.returns-clause-wires
returns-clause-wires c =
    c.push.ensures.items ∙ ap (λ (n : Net). n.wires ++ (c.args.from, c.args.to) ∷ []) c.self.view_is
