-- The Smith diagram of a tiling is a net without a loose node, and the sides are its one flow, of the width as its total.
use Rattle.std.specs.List.{AllByRecursion}
use Rattle.std.specs.Prelude.{pos, ◌-ℤ◌}
use Rattle.std.proofs.Common.{Contains, List, Some, [], ap, arith, inl, inr, length, map, slice_get, subst, suc, sym, zero, ℕ, ◌+◌, ◌-◌, ◌<◌, ◌∙◌, ◌∷◌, ◌≡◌}
use Rattle.std.proofs.Common.{◌≤◌, ◌⊎◌}
use Rattle.std.proofs.lemmas.Bool.{cases_lt}
use Rattle.std.proofs.lemmas.Int.{ints}
use Rattle.std.proofs.lemmas.List.Elements.{All-from_recursion}
use Rattle.std.proofs.lemmas.Option.{slice_get_within}
use Rattle.std.proofs.lemmas.List.{length-append, length-map}
use Rattle.bk_laws.proofs.ListPlaces.{get_some}
use Rattle.bk_tiling.proofs.TilingLaws.{side_of, wide_enough}
use Rattle.bk_tiling.specs.Tiling.{IsTiling, Tiling}
use Rattle.bk_tiling.specs.declared.Square.{Square}
use Rattle.bk_tiling.proofs.TilingGroups.{known_groups}
use Rattle.bk_tiling.specs.SquareGroups.{square_groups}
use Rattle.bk_net.proofs.GroupSquares.{first_in, group_of, in_group, level_is}
use Rattle.bk_net.proofs.NodeBelow.{has_node_below, stands_on}
use Rattle.bk_net.proofs.GroupEdges.{below_height, first_one}
use Rattle.bk_net.proofs.GroupColumns.{into_is_none, into_is_width, out_is_width}
use Rattle.bk_net.proofs.OneFlowLaws.{ends_from_net, one_flow}
use Rattle.bk_net.proofs.SmithLists.{wire_in, wires_each}
use Rattle.bk_net.specs.Diagram.{group_level, node_below, node_levels, smith_diagram}
use Rattle.bk_net.specs.Flow.{IsFlow, IsOneFlow, outflow, potential}
use Rattle.bk_net.specs.Net.{HasNoLoose, IsJoined, IsNet, along, here}
use Rattle.bk_net.specs.SmithFlow.{SidesAreTheOneFlow, smith_flow}
use Rattle.bk_net.proofs.SidesPotentials.{sides_are_differences, side_is_drop, outflow_of_sides}
use Rattle.bk_net.proofs.TopGroup.{deep, top_corner, top_end, top_group}

module _ (t : Tiling) (tiling : IsTiling t) where
  flow : IsFlow (smith_diagram t) (smith_flow t)
  flow = record {
    nodes = length-map (node_levels t) (λ l. pos t.height -ℤ pos l)
        ∙ omega (arith, length-append (map group_level (square_groups t.squares)) (t.height ∷ []), length-map (square_groups t.squares) group_level);
    differences = sides_are_differences t tiling;
    first = omega (
      arith,
      ints,
      outflow_of_sides t tiling 0,
      out_is_width t tiling 0 (known_groups t tiling).group (top_group t tiling),
      into_is_none t tiling 0 (known_groups t tiling).group (top_group t tiling) (top_corner t tiling).1,
      (top_corner t tiling).0,
      top_end t tiling,
    );
    between = between;
  }
    where
      between : (v : ℕ) → 0 < v → v + 1 < length (square_groups t.squares) + 1 → outflow (smith_diagram t).wires (map (λ q. pos q.s) t.squares) v ≡ pos 0
      between zero a b = absurd (omega arith)
      between (suc v) a b = at (get_some (square_groups t.squares) (suc v) (omega arith))
        where
          at : (g : List Square) × (slice_get (square_groups t.squares) (suc v) ≡ Some g)
              → outflow (smith_diagram t).wires (map (λ q. pos q.s) t.squares) (suc v) ≡ pos 0
          at (g, e) = omega (
            arith,
            ints,
            outflow_of_sides t tiling (suc v),
            out_is_width t tiling (suc v) g e,
            into_is_width t tiling (suc v) g e (deep t tiling v g e),
          )

  some_groups : 0 < length (square_groups t.squares)
  some_groups = omega (arith, ap length (known_groups t tiling).is)

  net : IsNet (smith_diagram t)
  net = record { some = omega (arith, some_groups); ends = All-from_recursion _ (smith_diagram t).wires wires }
    where
      wires : AllByRecursion (λ w. (w.0 < length (square_groups t.squares) + 1) × (w.1 < length (square_groups t.squares) + 1) × (w.0 ≡ w.1 → ⊥))
          (smith_diagram t).wires
      wires = wires_each (λ w. (w.0 < length (square_groups t.squares) + 1) × (w.1 < length (square_groups t.squares) + 1) × (w.0 ≡ w.1 → ⊥))
          (node_below (square_groups t.squares)) 0 (square_groups t.squares)
          (λ k g e q h. (
            omega (arith, slice_get_within (square_groups t.squares) k g e),
            omega (arith, (has_node_below t tiling q (in_group t tiling k g e q h)).most),
            λ same. let at : k ≡ node_below (square_groups t.squares) q = omega (arith, same) in
                absurd (omega (
                  arith,
                  ints,
                  side_is_drop t tiling k g e q h,
                  side_of t tiling q (in_group t tiling k g e q h),
                  ap (potential (smith_flow t)) at,
                )),
          ))

  joined : (fuel v : ℕ) → v < length (square_groups t.squares) + 1 → ((g : List Square) → slice_get (square_groups t.squares) v ≡ Some g
      → t.height ≤ group_level g + fuel) → IsJoined (smith_diagram t).wires v (length (square_groups t.squares))
  joined zero v few enough = cases (cases_lt v (length (square_groups t.squares)))
    where
      cases : (v < length (square_groups t.squares)) ⊎ (length (square_groups t.squares) ≤ v)
          → IsJoined (smith_diagram t).wires v (length (square_groups t.squares))
      cases (inr h) = let same : v ≡ length (square_groups t.squares) = omega arith in subst (λ (u : ℕ). IsJoined (smith_diagram t).wires v u) same here
      cases (inl h) = let g = get_some (square_groups t.squares) v h in
          absurd (omega (arith, enough g.0 g.1, below_height t tiling v g.0 g.1, level_is t tiling g.0 (group_of t tiling v g.0 g.1).0.row))
  joined (suc fuel) v few enough = cases (cases_lt v (length (square_groups t.squares))) (joined fuel)
    where
      cases : (v < length (square_groups t.squares)) ⊎ (length (square_groups t.squares) ≤ v)
          → ((v : ℕ) → v < length (square_groups t.squares) + 1 → ((g : List Square) → slice_get (square_groups t.squares) v ≡ Some g
          → t.height ≤ group_level g + fuel) → IsJoined (smith_diagram t).wires v (length (square_groups t.squares)))
          → IsJoined (smith_diagram t).wires v (length (square_groups t.squares))
      cases (inr h) rest = let same : v ≡ length (square_groups t.squares) = omega arith in subst (λ (u : ℕ). IsJoined (smith_diagram t).wires v u) same here
      cases (inl h) rest = step (get_some (square_groups t.squares) v h)
        where
          step : (g : List Square) × (slice_get (square_groups t.squares) v ≡ Some g) → IsJoined (smith_diagram t).wires v (length (square_groups t.squares))
          step (g, e) = along (subst (λ (u : ℕ). Contains {X = ℕ × ℕ} (smith_diagram t).wires (
            u,
            node_below (square_groups t.squares) (group_of t tiling v g e).0.row.first,
          )) (omega arith)
              (wire_in (node_below (square_groups t.squares)) 0 (square_groups t.squares) v g (group_of t tiling v g e).0.row.first e
              (first_in t tiling g (group_of t tiling v g e).0.row)))
              (rest (node_below (square_groups t.squares) (group_of t tiling v g e).0.row.first)
              (omega (arith, (has_node_below t tiling (group_of t tiling v g e).0.row.first (first_one t tiling v g e)).most))
              (λ h f. on h f (stands_on t tiling (group_of t tiling v g e).0.row.first (first_one t tiling v g e)).is))
            where
              q : Square
              q = (group_of t tiling v g e).0.row.first

              on : (h : List Square) → slice_get (square_groups t.squares) (node_below (square_groups t.squares) (group_of t tiling v g e).0.row.first) ≡ Some h
                  → ((node_below (square_groups t.squares) (group_of t tiling v g e).0.row.first ≡ length (square_groups t.squares))
                  × ((group_of t tiling v g e).0.row.first.y + (group_of t tiling v g e).0.row.first.s ≡ t.height))
                  ⊎ ((k : List Square) × (slice_get (square_groups t.squares) (node_below (square_groups t.squares) (group_of t tiling v g e).0.row.first)
                  ≡ Some k) × (group_level k ≡ (group_of t tiling v g e).0.row.first.y + (group_of t tiling v g e).0.row.first.s))
                  → t.height ≤ group_level h + fuel
              on h f (inl (a, b)) =
                  absurd (omega (
                    arith,
                    slice_get_within (square_groups t.squares) (node_below (square_groups t.squares) (group_of t tiling v g e).0.row.first) h f,
                    a,
                  ))
              on h f (inr (k, a, b)) =
                  omega (
                    arith,
                    ap group_level (same_group (sym f ∙ a)),
                    b,
                    side_of t tiling (group_of t tiling v g e).0.row.first (first_one t tiling v g e),
                    enough g e,
                    level_is t tiling g (group_of t tiling v g e).0.row,
                  )
                where
                  same_group : Some h ≡ Some k → h ≡ k
                  same_group m = cc

  no_loose : HasNoLoose (smith_diagram t)
  no_loose v h = subst (λ (u : ℕ). IsJoined (smith_diagram t).wires v u) last (joined t.height v h (λ g e. omega arith))
    where
      last : length (square_groups t.squares) ≡ length (square_groups t.squares) + 1 - 1
      last = omega arith

  -- the Smith diagram is a net without a loose node, whose one flow are the sides
  pub the_one_flow : IsNet (smith_diagram t) × HasNoLoose (smith_diagram t) × IsOneFlow (smith_diagram t) (smith_flow t)
  the_one_flow = (
    net,
    no_loose,
    one_flow (smith_diagram t) (ends_from_net (smith_diagram t) net) no_loose (smith_flow t) flow (omega (arith, ints, wide_enough t tiling)),
  )

-- the sides of a tiling are the one flow of its Smith diagram, as the statement says it
pub sides_are_the_one_flow : SidesAreTheOneFlow
sides_are_the_one_flow t tiling = the_one_flow t tiling
