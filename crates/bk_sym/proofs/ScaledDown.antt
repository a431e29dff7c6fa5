-- A tiling scaled down is a tiling, and it is that one enlarged by the divisor of its sides.
use Rattle.std.specs.List.{AllByRecursion}
use Rattle.std.specs.Prelude.{◌/◌}
use Prim.Native.Nat.{◌∣◌}
use Rattle.std.proofs.Common.{List, [], ap, inl, inr, map, refl, subst, sym, ℕ, ◌*◌, ◌<◌, ◌∷◌, ◌≡◌}
use Rattle.std.proofs.Math.Nat.{mul-div_cancel'}
use Rattle.bk_tiling.specs.Scale.{enlarged, enlarged_square}
use Rattle.bk_tiling.specs.Tiling.{IsOneOf, IsTiling, Tiling}
use Rattle.bk_tiling.specs.declared.Square.{Square}
use Rattle.bk_frac.proofs.DivisorLaws.{gcd_of-divides}
use Rattle.bk_frac.specs.Divisor.{gcd_of}
use Rattle.bk_sym.specs.Canonical.{scaled_down_tiling}
use Rattle.bk_sym.proofs.EnlargedBack.{scaled_down_is}
use Rattle.bk_sym.proofs.DividedPlaces.{height_divides, divisor_is_positive, width_divides, x_divides, y_divides}

-- the divisor by which a tiling is scaled down
abbrev pub side_divisor : Tiling → ℕ
side_divisor t = gcd_of (map (λ q. q.s) t.squares)

module _ (t : Tiling) (tiling : IsTiling t) where
  -- the greatest common divisor of the sides divides each of them
  pub side_divides : (q : Square) → IsOneOf q t.squares → side_divisor t ∣ q.s
  side_divides q h = of t.squares (gcd_of-divides (map (λ q. q.s) t.squares)) h
    where
      of : (squares : List Square) → AllByRecursion (λ n. side_divisor t ∣ n) (map (λ q. q.s) squares) → IsOneOf q squares → side_divisor t ∣ q.s
      of [] all k = absurd k
      of (r ∷ squares) all (inl e) = subst (λ (n : ℕ). side_divisor t ∣ n) (ap (λ (s : Square). s.s) (sym e)) all.0
      of (r ∷ squares) all (inr k) = of squares all.1 k

  -- the greatest common divisor of the sides is not 0
  pub some_divisor : 0 < side_divisor t
  some_divisor = divisor_is_positive t tiling (side_divisor t) side_divides

  list : (squares : List Square) → ((q : Square) → IsOneOf q squares → IsOneOf q t.squares)
      → squares ≡ map (enlarged_square (side_divisor t))
      (map (λ q. record { x = q.x / side_divisor t; y = q.y / side_divisor t; s = q.s / side_divisor t }) squares)
  list [] f = refl
  list (q ∷ squares) f = λ i. record { x = xs i; y = ys i; s = sides i } ∷ list squares (λ r h. f r (inr h)) i
    where
      xs : q.x ≡ side_divisor t * (q.x / side_divisor t)
      xs = sym (mul-div_cancel' (side_divisor t) (x_divides t tiling (side_divisor t) side_divides q (f q (inl refl))))

      ys : q.y ≡ side_divisor t * (q.y / side_divisor t)
      ys = sym (mul-div_cancel' (side_divisor t) (y_divides t tiling (side_divisor t) side_divides q (f q (inl refl))))

      sides : q.s ≡ side_divisor t * (q.s / side_divisor t)
      sides = sym (mul-div_cancel' (side_divisor t) (side_divides q (f q (inl refl))))

  -- the tiling is its scaled down one enlarged again
  pub whole_again : t ≡ enlarged (side_divisor t) (scaled_down_tiling t)
  whole_again = λ i. record { width = widths i; height = heights i; squares = list t.squares (λ q h. h) i }
    where
      widths : t.width ≡ side_divisor t * (t.width / side_divisor t)
      widths = sym (mul-div_cancel' (side_divisor t) (width_divides t tiling (side_divisor t) side_divides))

      heights : t.height ≡ side_divisor t * (t.height / side_divisor t)
      heights = sym (mul-div_cancel' (side_divisor t) (height_divides t tiling (side_divisor t) side_divides))

  -- the tiling in lowest terms is a tiling
  pub scaled_is_tiling : IsTiling (scaled_down_tiling t)
  scaled_is_tiling = scaled_down_is (side_divisor t) (scaled_down_tiling t) some_divisor (subst IsTiling whole_again tiling)
