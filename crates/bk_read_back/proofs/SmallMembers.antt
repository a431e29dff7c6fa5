-- A member of at most 16 squares is small: its sides are the primitive flow of its Smith diagram, which is a small net.
use Rattle.std.specs.List.{AllByRecursion}
use Rattle.std.specs.Prelude.{List, [], length, map, nat_abs, pos, ℕ, ℤ, ◌-ℤ◌, ◌<◌, ◌∷◌, ◌≡◌, ◌≤◌}
use Rattle.std.proofs.Common.{ap, arith, subst, sym, ◌∙◌}
use Rattle.std.proofs.Math.Nat.{eq-one_of_dvd-one}
use Rattle.std.proofs.lemmas.List.Elements.{recursion_from_All}
use Rattle.std.proofs.lemmas.List.{length-map}
use Rattle.bk_tiling.specs.KeptTiling.{IsSide}
use Rattle.bk_tiling.specs.Tiling.{IsTiling, Tiling}
use Rattle.bk_tiling.specs.declared.Square.{Square}
use Rattle.bk_frac.proofs.DivisorLaws.{gcd_of-greatest}
use Rattle.bk_sym.proofs.OwnCanonical.{own_one}
use Rattle.bk_sym.proofs.ScaledDown.{side_divisor}
use Rattle.bk_sym.specs.Canonical.{IsCanonical}
use Rattle.bk_net.proofs.SidesFlow.{sides_are_the_one_flow}
use Rattle.bk_net.specs.Diagram.{smith_diagram}
use Rattle.bk_net.specs.Flow.{IsPrimitive, IsPrimitiveFlow, potential}
use Rattle.bk_net.specs.SmithFlow.{smith_flow}
use Rattle.bk_flow.proofs.NarrowNets.{small_nets_have_small_flows}
use Rattle.bk_flow.specs.declared.TheConstants.{LARGEST_SMALL_CURRENT}
use Rattle.bk_read_back.specs.Small.{IsSmallTiling, MembersAreSmall}
use Prim.Native.Nat.{◌∣◌}

-- what divides the currents divides the sides
divides_sides : (d : ℕ) (squares : List Square) → AllByRecursion (λ c. d ∣ nat_abs c) (map (λ q. pos q.s) squares)
    → AllByRecursion (λ n. d ∣ n) (map (λ q. q.s) squares)
divides_sides d [] all = tt
divides_sides d (q ∷ squares) all = (all.0, divides_sides d squares all.1)

small_sides : (squares : List Square) → AllByRecursion (λ c. nat_abs c ≤ LARGEST_SMALL_CURRENT) (map (λ q. pos q.s) squares)
    → AllByRecursion (λ q. q.s ≤ LARGEST_SMALL_CURRENT) squares
small_sides [] all = tt
small_sides (q ∷ squares) all = (all.0, small_sides squares all.1)

kept_sides : (squares : List Square) → AllByRecursion (λ q. 0 < q.s) squares → AllByRecursion (λ q. q.s ≤ LARGEST_SMALL_CURRENT) squares
    → AllByRecursion (λ q. IsSide q.s) squares
kept_sides [] some small = tt
kept_sides (q ∷ squares) some small = ((some.0, omega (arith, small.0)), kept_sides squares some.1 small.1)

-- a Smith diagram has a wire for each square
pub as_many_wires : (t : Tiling) → IsTiling t → length (smith_diagram t).wires ≡ length t.squares
as_many_wires t tiling = sym (length-map (smith_diagram t).wires (λ w. potential (smith_flow t) w.0 -ℤ potential (smith_flow t) w.1))
    ∙ sym (ap length ((sides_are_the_one_flow t tiling).2).flow.differences) ∙ length-map t.squares (λ (q : Square). pos q.s)

-- sides without a common divisor are primitive as currents
pub primitive_sides : (t : Tiling) → side_divisor t ≡ 1 → (total : ℤ) (potentials : List ℤ)
    → IsPrimitive (record { total = total; potentials = potentials; currents = map (λ q. pos q.s) t.squares })
primitive_sides t one total potentials d divides currents = omega (arith, same)
  where
    same : d ≡ 1
    same = eq-one_of_dvd-one (subst (λ (n : ℕ). d ∣ n) one
        (gcd_of-greatest d (map (λ q. q.s) t.squares)
        (divides_sides d t.squares (recursion_from_All (λ (c : ℤ). d ∣ nat_abs c) (map (λ q. pos q.s) t.squares) currents))))

module _ (t : Tiling) (tiling : IsTiling t) (own : IsCanonical t) (few : length t.squares ≤ 16) where
  flow : IsPrimitiveFlow (smith_diagram t) (pos t.width) (map (λ q. pos q.s) t.squares)
  flow = (
    (smith_flow t).potentials,
    (sides_are_the_one_flow t tiling).2,
    primitive_sides t (own_one t tiling own) (pos t.width) (smith_flow t).potentials,
  )

  bounds : AllByRecursion (λ c. nat_abs c ≤ LARGEST_SMALL_CURRENT) (pos t.width ∷ map (λ q. pos q.s) t.squares)
  bounds = recursion_from_All (λ (c : ℤ). nat_abs c ≤ LARGEST_SMALL_CURRENT) (pos t.width ∷ map (λ q. pos q.s) t.squares)
      (small_nets_have_small_flows (smith_diagram t) (pos t.width) (map (λ q. pos q.s) t.squares) (sides_are_the_one_flow t tiling).0
      (sides_are_the_one_flow t tiling).1 (omega (arith, as_many_wires t tiling, few)) flow)

  -- the sides and the size of such a tiling are small numbers
  pub small_tiling : IsSmallTiling t
  small_tiling =
      let sides : AllByRecursion (λ q. q.s ≤ LARGEST_SMALL_CURRENT) t.squares = small_sides t.squares bounds.1 in
      let width : t.width ≤ LARGEST_SMALL_CURRENT = bounds.0 in
      let height : t.height ≤ LARGEST_SMALL_CURRENT = omega (arith, width, own.lying) in
      record {
        width = width;
        height = height;
        sides = sides;
        kept = record {
          tiling = tiling;
          few = omega (arith, few);
          sides = kept_sides t.squares (tiling.tiles).sides sides;
          width_fits = omega (arith, width);
          height_fits = omega (arith, height);
        };
      }

-- each member of at most 16 squares is a small tiling
pub members_are_small : MembersAreSmall
members_are_small n class t small member = small_tiling t member.tiling member.canonical (omega (arith, small, member.order))
