-- The sides of a tiling in lowest terms are the primitive flow of its Smith diagram.
use Rattle.std.specs.List.{AllByRecursion, flat_map}
use Rattle.std.specs.Prelude.{List, [], map, pos, ℕ, ◌*ℤ◌, ◌*◌, ◌++◌, ◌-ℤ◌, ◌/◌, ◌∷◌, ◌≡◌}
use Rattle.std.proofs.Common.{ap, arith, refl, subst, sym, ◌∙◌}
use Rattle.std.proofs.Math.IntN.{pos-*ℤ-pos}
use Rattle.std.proofs.Math.Nat.{mul-div_cancel'}
use Rattle.std.proofs.lemmas.Int.{ints}
use Rattle.std.proofs.lemmas.Nat.Gcd.{dvd-zero}
use Rattle.bk_laws.proofs.AllOfLists.{all_append}
use Rattle.bk_laws.proofs.Products.{mul_one}
use Rattle.bk_laws.proofs.WholeNumbers.{mul-sub}
use Rattle.bk_tiling.proofs.Groups.{groups_row}
use Rattle.bk_tiling.proofs.Cells.{all_from}
use Rattle.bk_tiling.proofs.TilingLaws.{wide_enough}
use Rattle.bk_tiling.specs.Scale.{enlarged_square}
use Rattle.bk_tiling.specs.SquareGroups.{square_groups}
use Rattle.bk_tiling.specs.Tiling.{IsTiling, Tiling}
use Rattle.bk_tiling.specs.declared.Square.{Square}
use Rattle.bk_sym.proofs.DividedPlaces.{height_divides, y_divides}
use Rattle.bk_sym.proofs.Multiples.{divisor_of_multiple}
use Rattle.bk_sym.proofs.ScaledDown.{scaled_is_tiling, side_divides, side_divisor, some_divisor, whole_again}
use Rattle.bk_sym.specs.Canonical.{scaled_down_tiling}
use Rattle.bk_net.proofs.OneFlowLaws.{ends_from_net, one_flow}
use Rattle.bk_net.proofs.SidesFlow.{sides_are_the_one_flow}
use Rattle.bk_net.specs.Diagram.{group_level, node_levels, smith_diagram}
use Rattle.bk_net.specs.Flow.{Flow, IsFlow, IsPrimitiveFlow}
use Rattle.bk_read_back.proofs.DividedFlows.{divided_flow, all_times}
use Rattle.bk_read_back.proofs.SmallMembers.{primitive_sides}
use Prim.Native.Nat.{◌∣◌}

-- the level of a group of squares is divided by what divides the levels of the squares
levels_divided : (g : ℕ) (groups : List (List Square)) → AllByRecursion (λ q. g ∣ q.y) (flat_map (λ group. group) groups)
    → AllByRecursion (λ l. g ∣ l) (map group_level groups)
levels_divided g [] all = tt
levels_divided g ([] ∷ groups) all = (dvd-zero g, levels_divided g groups all)
levels_divided g ((q ∷ group) ∷ groups) all = (all.0, levels_divided g groups (behind group all.1))
  where
    behind : (group : List Square) → AllByRecursion (λ q. g ∣ q.y) (group ++ flat_map (λ group. group) groups)
        → AllByRecursion (λ q. g ∣ q.y) (flat_map (λ group. group) groups)
    behind [] all = all
    behind (r ∷ group) all = behind group all.1

-- heights over levels that a number divides, divided by it
heights_times : (g high : ℕ) (levels : List ℕ) → AllByRecursion (λ l. g ∣ l) levels
    → map (λ l. pos (g * high) -ℤ pos l) levels ≡ all_times g (map (λ l. pos high -ℤ pos (l / g)) levels)
heights_times g high [] all = refl
heights_times g high (l ∷ levels) all =
    let level : pos l ≡ pos g *ℤ pos (l / g) = ap pos (sym (mul-div_cancel' g all.0)) ∙ sym (pos-*ℤ-pos g (l / g)) in
    let first = (λ i. sym (pos-*ℤ-pos g high) i -ℤ level i) ∙ sym (mul-sub (pos g) (pos high) (pos (l / g))) in
    λ i. first i ∷ heights_times g high levels all.1 i

-- the sides of enlarged squares
sides_times : (g : ℕ) (squares : List Square) → map (λ q. pos q.s) (map (enlarged_square g) squares) ≡ all_times g (map (λ q. pos q.s) squares)
sides_times g [] = refl
sides_times g (q ∷ squares) = λ i. sym (pos-*ℤ-pos g q.s) i ∷ sides_times g squares i

module _ (t : Tiling) (tiling : IsTiling t) where
  abbrev divisor : ℕ
  divisor = side_divisor t

  abbrev lowest : Tiling
  lowest = scaled_down_tiling t

  abbrev lowest_flow : Flow
  lowest_flow = record {
    total = pos lowest.width;
    potentials = map (λ l. pos lowest.height -ℤ pos (l / divisor)) (node_levels t);
    currents = map (λ q. pos q.s) lowest.squares;
  }

  levels : AllByRecursion (λ l. side_divisor t ∣ l) (node_levels t)
  levels = all_append (λ l. side_divisor t ∣ l) (map group_level (square_groups t.squares)) (t.height ∷ [])
      (levels_divided (side_divisor t) (square_groups t.squares)
      (subst (λ (squares : List Square). AllByRecursion (λ q. side_divisor t ∣ q.y) squares) (sym (groups_row t.squares))
      (all_from (λ q. side_divisor t ∣ q.y) t.squares (λ q h. y_divides t tiling (side_divisor t) (side_divides t tiling) q h))))
      (height_divides t tiling (side_divisor t) (side_divides t tiling), tt)

  flow : IsFlow (smith_diagram t) lowest_flow
  flow =
      let again = whole_again t tiling in
      let total : pos t.width ≡ pos divisor *ℤ pos lowest.width =
      ap (λ (u : Tiling). pos u.width) again ∙ sym (pos-*ℤ-pos divisor lowest.width) in
      let potentials : map (λ l. pos t.height -ℤ pos l) (node_levels t) ≡ all_times divisor lowest_flow.potentials =
      ap (λ (h : ℕ). map (λ l. pos h -ℤ pos l) (node_levels t)) (ap (λ (u : Tiling). u.height) again)
      ∙ heights_times divisor lowest.height (node_levels t) levels in
      let currents : map (λ q. pos q.s) t.squares ≡ all_times divisor lowest_flow.currents =
      ap (λ (u : Tiling). map (λ q. pos q.s) u.squares) again ∙ sides_times divisor lowest.squares in
      divided_flow (smith_diagram t) divisor lowest_flow.total lowest_flow.potentials lowest_flow.currents (some_divisor t tiling)
      (subst (IsFlow (smith_diagram t))
      (λ i. record { total = total i; potentials = potentials i; currents = currents i }) (sides_are_the_one_flow t tiling).2.flow)

  -- the sides in lowest terms have no common divisor
  one : side_divisor lowest ≡ 1
  one = mul_one divisor (side_divisor lowest) 1 (some_divisor t tiling) (sym multiple ∙ alone)
    where
      multiple : side_divisor t ≡ side_divisor t * side_divisor (scaled_down_tiling t)
      multiple = ap side_divisor (whole_again t tiling) ∙ divisor_of_multiple (side_divisor t) (scaled_down_tiling t) (some_divisor t tiling)

      alone : side_divisor t ≡ side_divisor t * 1
      alone = omega arith

  -- the sides in lowest terms are the primitive flow of the Smith diagram
  pub lowest_sides_are_the_primitive_flow : IsPrimitiveFlow (smith_diagram t) (pos lowest.width) (map (λ q. pos q.s) lowest.squares)
  lowest_sides_are_the_primitive_flow = (
    lowest_flow.potentials,
    one_flow (smith_diagram t) (ends_from_net (smith_diagram t) (sides_are_the_one_flow t tiling).0) (sides_are_the_one_flow t tiling).1 lowest_flow flow
        (omega (arith, ints, wide_enough lowest (scaled_is_tiling t tiling))),
    primitive_sides lowest one lowest_flow.total lowest_flow.potentials,
  )
