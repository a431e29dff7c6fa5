-- A net has at most one primitive one flow.
use Rattle.std.specs.Prelude.{List, [], map, nat_abs, pos, ℕ, ℤ, ◌*ℤ◌, ◌*◌, ◌<◌, ◌∷◌, ◌≡◌, ◌≤ℤ◌, ◌≤◌}
use Rattle.std.proofs.Common.{ap, arith, subst, sym, ◌∙◌}
use Rattle.std.proofs.Math.Nat.{dvd-mul_left, mul-one, mul-zero, pos_of_dvd_of_pos}
use Rattle.std.proofs.lemmas.List.Elements.{All-from_recursion}
use Rattle.std.proofs.lemmas.Nat.Gcd.{dvd_antisymm}
use Prim.Native.Nat.{◌∣◌}
use Rattle.bk_frac.proofs.Coprime.{gcd-mul}
use Rattle.bk_frac.proofs.DivisorLaws.{gcd_of-divides, gcd_of-greatest}
use Rattle.bk_frac.specs.Divisor.{gcd, gcd_of}
use Rattle.bk_net.specs.Flow.{Flow, IsPrimitive}
use Rattle.bk_laws.proofs.AllOfLists.{all_divisible-from_magnitudes, all_divisible-of_equal_multiples}
use Rattle.bk_laws.proofs.ListItems.{map-cancel_positive}
use Rattle.bk_laws.proofs.Magnitudes.{abs-positive_of_positive, positive-same_magnitude}
use Rattle.bk_flow.specs.FlowLaws.{ThePrimitiveFlowIsOne}

gcd_of-times : (m : ℕ) (ns : List ℕ) → 0 < m → gcd_of (map (λ n. m * n) ns) ≡ m * gcd_of ns
gcd_of-times m [] some = sym (mul-zero m)
gcd_of-times m (n ∷ ns) some = ap (gcd (m * n)) (gcd_of-times m ns some) ∙ gcd-mul m n (gcd_of ns) some

-- the numbers of a primitive flow have the greatest common divisor 1
gcd_from_primitive : (f : Flow) → IsPrimitive f → pos 1 ≤ℤ f.total → gcd_of (map nat_abs (f.total ∷ f.currents)) ≡ 1
gcd_from_primitive f primitive some =
    let all = gcd_of-divides (map nat_abs (f.total ∷ f.currents)) in
    let most : gcd_of (map nat_abs (f.total ∷ f.currents)) ≤ 1 = primitive (gcd_of (map nat_abs (f.total ∷ f.currents))) all.0
    (All-from_recursion (λ c. gcd_of (map nat_abs (f.total ∷ f.currents)) ∣ nat_abs c) f.currents
    (all_divisible-from_magnitudes (gcd_of (map nat_abs (f.total ∷ f.currents))) f.currents all.1)) in
    let least : 0 < gcd_of (map nat_abs (f.total ∷ f.currents)) = pos_of_dvd_of_pos all.0 (abs-positive_of_positive f.total some) in
    omega arith

divides : (f : Flow) (u : ℤ) (ds : List ℤ) → IsPrimitive f → pos 1 ≤ℤ f.total → pos 1 ≤ℤ u → map (λ c. c *ℤ f.total) ds ≡ map (λ c. c *ℤ u) f.currents
    → nat_abs f.total ∣ nat_abs u
divides f u ds primitive some positive e =
    subst (λ (n : ℕ). nat_abs f.total ∣ n)
    (gcd_of-times (nat_abs u) (map nat_abs (f.total ∷ f.currents)) (abs-positive_of_positive u positive)
    ∙ ap (λ (n : ℕ). nat_abs u * n) (gcd_from_primitive f primitive some) ∙ mul-one (nat_abs u))
    (gcd_of-greatest (nat_abs f.total) (map (λ n. nat_abs u * n) (map nat_abs (f.total ∷ f.currents)))
    (dvd-mul_left (nat_abs f.total) (nat_abs u), all_divisible-of_equal_multiples f.total u f.currents ds e))

-- two primitive one flows of a net are one
pub one_primitive : ThePrimitiveFlowIsOne
one_primitive net total other_total currents other_currents (ps, flow, primitive) (rs, other, other_primitive) =
    let there = flow.proportional (record { total = other_total; potentials = rs; currents = other_currents }) other.flow in
    let back = other.proportional (record { total = total; potentials = ps; currents = currents }) flow.flow in
    let totals : total ≡ other_total = positive-same_magnitude total other_total flow.positive other.positive (dvd_antisymm
    (divides (record { total = total; potentials = ps; currents = currents }) other_total other_currents primitive flow.positive other.positive there)
    (divides (record { total = other_total; potentials = rs; currents = other_currents }) total currents other_primitive other.positive flow.positive back)) in
    (totals, map-cancel_positive total currents other_currents flow.positive (there ∙ ap (λ (t : ℤ). map (λ c. c *ℤ t) currents) (sym totals)))
