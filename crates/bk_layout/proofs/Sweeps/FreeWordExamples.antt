-- The free word of the rectangle 33x32 of nine squares, which isn't its word. Between the squares 18 and 15 at the top the
-- word says `u`, since 15 ends above 18; the free word says `a`, since the line between them goes on below 18.
use Rattle.std.specs.List.{AllByRecursion}
use Rattle.std.specs.Prelude.{ℤ, ◌-ℤ◌}
use Rattle.std.proofs.Common.{List, [], arith, length, map, pos, refl, ℕ, ◌∷◌, ◌≡◌}
use Rattle.bk_tiling.proofs.ExampleTilings.{rectangle_33x32}
use Rattle.bk_tiling.specs.Tiling.{order}
use Rattle.bk_net.specs.Diagram.{smith_diagram}
use Rattle.bk_net.specs.Flow.{Flow, IsFlow, outflow, potential}
use Rattle.bk_net.specs.Net.{Net}
use Rattle.bk_word.proofs.WordExamples.{word_33x32}
use Rattle.bk_word.specs.Play.{IsComplete}
use Rattle.bk_word.specs.Word.{Move, Word, order_of}
use Rattle.bk_word.specs.declared.Sign.{Sign}
use Rattle.bk_word.specs.declared.Sign.TheVariants.{Above, Even, Under}
use Rattle.bk_word_net.specs.WordNet.{net_of_word}
use Rattle.bk_layout.proofs.Lists.NumberedLists.{AreRenumbered, each_from}
use Rattle.bk_layout.specs.FreeWord.{IsFree}

abbrev move : ℕ → List Sign → Move
move count signs = record { count = count; signs = signs }

-- 2a.2uu.2ea.2eue.1e
abbrev pub free_33x32 : Word
free_33x32 = move 2 (Above ∷ []) ∷ move 2 (Under ∷ Under ∷ []) ∷ move 2 (Even ∷ Above ∷ []) ∷ move 2 (Even ∷ Under ∷ Even ∷ []) ∷ move 1 (Even ∷ []) ∷ []

complete : IsComplete free_33x32
complete = record {
  legal = (
    record { some = omega arith; signs = refl },
    (
      record { some = omega arith; signs = refl },
      (record { some = omega arith; signs = refl }, (record { some = omega arith; signs = refl }, (record { some = omega arith; signs = refl }, tt))),
    ),
  );
  some = omega arith;
  one = refl;
}

as_many : order_of free_33x32 ≡ order rectangle_33x32
as_many = refl

-- no first sign is above where the valley has a left neighbour
free : IsFree free_33x32
free = (λ wall e. cc, (λ wall e. cc, (λ wall e. cc, (λ wall e. cc, (λ wall e. cc, tt)))))

-- the rectangle's word 2u.2aa.2ue.2eue.1e isn't free: its second move begins with above, beside a left neighbour
not_free : IsFree word_33x32 → ⊥
not_free free = (free.1).0 refl refl

-- with the squares of the code in the order of the free word, and the nodes of the diagram in that of closing, its net is the Smith diagram
renumbered : AreRenumbered (net_of_word free_33x32).wires (smith_diagram rectangle_33x32).wires (0 ∷ 1 ∷ 4 ∷ 5 ∷ 2 ∷ 3 ∷ 6 ∷ 7 ∷ 8 ∷ [])
    (0 ∷ 2 ∷ 1 ∷ 3 ∷ 4 ∷ 5 ∷ [])
renumbered = refl

-- a flow of the total 33
abbrev pub flow_33 : List ℤ → List ℤ → Flow
flow_33 potentials currents = record { total = pos 33; potentials = potentials; currents = currents }

-- a flow of a net of six nodes is given, if what comes into each of the four between leaves it
pub flow_by : {net : Net} {flow : Flow} → net.nodes ≡ 6 → length flow.potentials ≡ net.nodes
    → flow.currents ≡ map (λ w. potential flow w.0 -ℤ potential flow w.1) net.wires → outflow net.wires flow.currents 0 ≡ flow.total
    → AllByRecursion (λ v. outflow net.wires flow.currents v ≡ pos 0) (1 ∷ 2 ∷ 3 ∷ 4 ∷ []) → IsFlow net flow
flow_by {net} {flow} six nodes differences first inner = record {
  nodes = nodes;
  differences = differences;
  first = first;
  between = λ v some few. each_from (λ v. outflow net.wires flow.currents v ≡ pos 0) 1 4 inner v (omega (arith, some)) (omega (arith, few, six));
}

-- and it has a flow with the width as the total, the sides as the currents
sides : IsFlow (net_of_word free_33x32)
    (flow_33 (pos 32 ∷ pos 14 ∷ pos 17 ∷ pos 10 ∷ pos 9 ∷ pos 0 ∷ []) (map pos (18 ∷ 15 ∷ 14 ∷ 4 ∷ 7 ∷ 8 ∷ 10 ∷ 1 ∷ 9 ∷ [])))
sides = flow_by refl refl refl refl (refl, (refl, (refl, (refl, tt))))
