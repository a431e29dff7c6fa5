-- A tiling scaled down is primitive, and so is a tiling that is its own canonical tiling.
use Rattle.std.specs.List.{AllByRecursion}
use Rattle.std.proofs.Common.{List, [], map, subst, sym, ℕ, ◌*◌, ◌∷◌, ◌≡◌}
use Rattle.std.proofs.Math.Nat.{dvd-mul_right, eq-one_of_dvd-one}
use Rattle.bk_tiling.specs.Scale.{IsPrimitiveTiling}
use Rattle.bk_tiling.specs.Tiling.{IsTiling, Tiling}
use Rattle.bk_tiling.specs.declared.Square.{Square}
use Rattle.bk_frac.proofs.DivisorLaws.{gcd_of-greatest}
use Rattle.bk_sym.proofs.AlikeLaws.{scaled_twice}
use Rattle.bk_sym.proofs.OwnCanonical.{one-scaled, own_one}
use Rattle.bk_sym.proofs.ScaledDown.{scaled_is_tiling, side_divisor}
use Rattle.bk_sym.specs.Canonical.{IsCanonical, scaled_down_tiling}
use Prim.Native.Nat.{◌∣◌}

divides_each : (d : ℕ) (squares : List Square) → AllByRecursion (λ q. (m : ℕ) × (q.s ≡ d * m)) squares → AllByRecursion (λ n. d ∣ n) (map (λ q. q.s) squares)
divides_each d [] all = tt
divides_each d (q ∷ squares) all = (subst (λ (n : ℕ). d ∣ n) (sym (all.0).1) (dvd-mul_right d (all.0).0), divides_each d squares all.1)

-- only 1 divides all sides where their greatest common divisor is 1
primitive_from_one : (t : Tiling) → side_divisor t ≡ 1 → IsPrimitiveTiling t
primitive_from_one t one d all =
    eq-one_of_dvd-one (subst (λ (n : ℕ). d ∣ n) one (gcd_of-greatest d (map (λ q. q.s) t.squares) (divides_each d t.squares all)))

-- a tiling that is its own canonical tiling is primitive
pub canonical_primitive : (t : Tiling) → IsTiling t → IsCanonical t → IsPrimitiveTiling t
canonical_primitive t tiling own = primitive_from_one t (own_one t tiling own)

-- a tiling scaled down is primitive
pub scaled_primitive : (t : Tiling) → IsTiling t → IsPrimitiveTiling (scaled_down_tiling t)
scaled_primitive t tiling =
    primitive_from_one (scaled_down_tiling t) (one-scaled (scaled_down_tiling t) (scaled_is_tiling t tiling) (scaled_twice t tiling))
