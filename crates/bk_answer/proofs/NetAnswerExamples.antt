-- What `flow` answers to three network lines.
use Rattle.std.specs.Fmt.{digits}
use Rattle.std.specs.Prelude.{codes, negsuc, pos, ◌≢◌}
use Rattle.std.proofs.Common.{[], arith, false, lit<, lit≤, refl, suc, true, zero, ℕ, ◌<◌, ◌∷◌, ◌≡◌}
use Rattle.std.proofs.lemmas.List.Elements.{All-from_recursion}
use Rattle.bk_net.proofs.FlowExamples.{alone}
use Rattle.bk_net.proofs.NetLinesMeant.{what_is_read_is_a_net_line}
use Rattle.bk_net.specs.Net.{HasNoLoose, IsNet, Net, against, here}
use Rattle.bk_net.specs.NetLine.{Item}
use Rattle.bk_net.specs.declared.NetFault.TheVariants.{Wire}
use Rattle.bk_flow.proofs.NarrowNets.{no_small_net_is_wide}
use Rattle.bk_flow.proofs.Solution.{eliminated_primitive}
use Rattle.bk_answer.specs.NetAnswer.{AnswersNetLine, HasNet, loose, no_net, of_net, solved}

-- a wire from the last of two nodes to the first
abbrev back : Net
back = record { nodes = 2; wires = (1, 0) ∷ [] }

is_net : IsNet back
is_net = record {
  some = lit≤ tt;
  ends = All-from_recursion (λ (w : ℕ × ℕ). (w.0 < 2) × (w.1 < 2) × (w.0 ≢ w.1)) ((1, 0) ∷ []) ((lit< tt, lit< tt, λ e. omega (arith, e)), tt);
}

no_loose : HasNoLoose back
no_loose zero few = against (0, lit< tt, refl) here
no_loose (suc zero) few = here
no_loose (suc (suc v)) few = absurd (omega arith)

has_back : HasNet (codes "2 1-0") back
has_back = record {
  item = record { short = lit≤ tt; meaning = what_is_read_is_a_net_line (codes "2 1-0") (Item 2 ((1, 0) ∷ [])) refl };
  kept = record { is = is_net; few_nodes = lit≤ tt; few_wires = lit≤ tt };
}

-- the current of a total of 1 goes against it
flows_back : AnswersNetLine (codes "2 1-0") (codes "1 -1\n" ∷ []) false
unfolding digits
flows_back = of_net back _ false has_back (solved (record { total = pos 1; currents = negsuc 0 ∷ [] }) no_loose
    (no_small_net_is_wide back is_net no_loose (lit≤ tt)) (eliminated_primitive back (pos 1) (negsuc 0 ∷ []) is_net no_loose refl))

-- two nodes without wires
abbrev apart : Net
apart = record { nodes = 2; wires = [] }

has_apart : HasNet (codes "2") apart
has_apart = record {
  item = record { short = lit≤ tt; meaning = what_is_read_is_a_net_line (codes "2") (Item 2 []) refl };
  kept = record {
    is = record { some = lit≤ tt; ends = All-from_recursion (λ (w : ℕ × ℕ). (w.0 < 2) × (w.1 < 2) × (w.0 ≢ w.1)) [] tt };
    few_nodes = lit≤ tt;
    few_wires = lit≤ tt;
  };
}

-- node 0 is not joined to the last
loose_first : AnswersNetLine (codes "2") (codes "no loose 0\n" ∷ []) true
unfolding digits
loose_first = of_net apart _ true has_apart
    (loose 0 ((lit< tt, λ joined. let same : 0 ≡ 1 = alone joined in absurd (omega (arith, same))), λ u is. omega arith))

-- a wire from a node to itself
own_wire : AnswersNetLine (codes "2 1-1") (codes "no wire 1\n" ∷ []) true
unfolding digits
own_wire = no_net (Wire 1) (lit≤ tt) (
  2,
  (1, 1) ∷ [],
  what_is_read_is_a_net_line (codes "2 1-1") (Item 2 ((1, 1) ∷ [])) refl,
  lit≤ tt,
  (lit≤ tt, lit≤ tt),
  record { before = 0; is = refl; within = lit< tt; here = λ d joins. joins.2 refl; earlier = λ k low d. absurd (omega (arith, low)) },
)
