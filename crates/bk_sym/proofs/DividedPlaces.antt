-- What divides all sides of a tiling divides all places and the size.
use Prim.Native.Nat.{◌∣◌}
use Rattle.std.proofs.Common.{List, [], ap, arith, inl, inr, length, refl, subst, suc, true, zero, ℕ, ◌+◌, ◌-◌, ◌<◌, ◌∷◌, ◌≡◌, ◌≤◌, ◌⊎◌}
use Rattle.std.proofs.Math.Nat.{dvd-add, mul-div_cancel'}
use Rattle.std.proofs.lemmas.Bool.{cases_lt}
use Rattle.std.proofs.lemmas.Nat.Gcd.{dvd-zero}
use Rattle.bk_tiling.proofs.Cells.{covers_from, over_from}
use Rattle.bk_tiling.proofs.TilingLaws.{a_square_over_each_cell, own_cell, side_of, wide_enough, within_of}
use Rattle.bk_tiling.specs.Tiling.{IsOneOf, IsTiling, Tiling, covers}
use Rattle.bk_tiling.proofs.TilingGroups.{one_there}
use Rattle.bk_tiling.specs.declared.Square.{Square}

-- what divides all sides divides all places and the size
module _ (t : Tiling) (tiling : IsTiling t) (g : ℕ) (sides : (q : Square) → IsOneOf q t.squares → g ∣ q.s) where
  ends_at : (i j x : ℕ) → i + 1 ≡ x → (r : Square) → covers i j r ≡ true → (x < r.x + r.s → ⊥) → r.x + r.s ≡ x
  ends_at i j x e r f not = let o = over_from i j r f in cases (cases_lt x (r.x + r.s))
    where
      cases : (x < r.x + r.s) ⊎ (r.x + r.s ≤ x) → r.x + r.s ≡ x
      cases (inl h) = absurd (not h)
      cases (inr h) = omega (arith, (over_from i j r f).right)

  sinks_at : (i j y : ℕ) → j + 1 ≡ y → (r : Square) → covers i j r ≡ true → (y < r.y + r.s → ⊥) → r.y + r.s ≡ y
  sinks_at i j y e r f not = cases (cases_lt y (r.y + r.s))
    where
      cases : (y < r.y + r.s) ⊎ (r.y + r.s ≤ y) → r.y + r.s ≡ y
      cases (inl h) = absurd (not h)
      cases (inr h) = omega (arith, (over_from i j r f).bottom)

  square_left : (q : Square) → IsOneOf q t.squares → 0 < q.x → (r : Square) × IsOneOf r t.squares × (r.x + r.s ≡ q.x)
  square_left q h some = from (a_square_over_each_cell t tiling (q.x - 1) q.y (omega (arith, wide)) high)
    where
      wide : q.x < t.width
      wide = omega (arith, (within_of t tiling q h).right, side_of t tiling q h)

      high : q.y < t.height
      high = omega (arith, (within_of t tiling q h).bottom, side_of t tiling q h)

      from : (r : Square) × IsOneOf r t.squares × (covers (q.x - 1) q.y r ≡ true) → (r : Square) × IsOneOf r t.squares × (r.x + r.s ≡ q.x)
      from (r, k, e) = (
        r,
        k,
        ends_at (q.x - 1) q.y q.x (omega arith) r e (λ l. let o = over_from (q.x - 1) q.y r e in
            omega (
              arith,
              some,
              o.left,
              ap (λ (s : Square). s.x)
                  (one_there t tiling q r q.x q.y h (own_cell t tiling q h) k (covers_from q.x q.y r (omega (arith, o.left)) l o.top o.bottom)),
            )),
      )

  square_above : (q : Square) → IsOneOf q t.squares → 0 < q.y → (r : Square) × IsOneOf r t.squares × (r.y + r.s ≡ q.y)
  square_above q h some = from (a_square_over_each_cell t tiling q.x (q.y - 1) wide (omega (arith, high)))
    where
      wide : q.x < t.width
      wide = omega (arith, (within_of t tiling q h).right, side_of t tiling q h)

      high : q.y < t.height
      high = omega (arith, (within_of t tiling q h).bottom, side_of t tiling q h)

      from : (r : Square) × IsOneOf r t.squares × (covers q.x (q.y - 1) r ≡ true) → (r : Square) × IsOneOf r t.squares × (r.y + r.s ≡ q.y)
      from (r, k, e) = (
        r,
        k,
        sinks_at q.x (q.y - 1) q.y (omega arith) r e (λ l. let o = over_from q.x (q.y - 1) r e in
            omega (
              arith,
              some,
              o.top,
              ap (λ (s : Square). s.y)
                  (one_there t tiling q r q.x q.y h (own_cell t tiling q h) k (covers_from q.x q.y r o.left o.right (omega (arith, o.top)) l)),
            )),
      )

  none : (n : ℕ) → n ≤ 0 → g ∣ n
  none n h = subst (λ (m : ℕ). g ∣ m) (omega arith) (dvd-zero g)

  -- where each square that doesn't begin at 0 begins where another has ended, all begin at multiples
  along : (from : Square → ℕ) → ((q : Square) → IsOneOf q t.squares → 0 < from q → (r : Square) × IsOneOf r t.squares × (from r + r.s ≡ from q))
      → (n : ℕ) (q : Square) → IsOneOf q t.squares → from q < n → g ∣ from q
  along from before zero q h few = absurd (omega arith)
  along from before (suc n) q h few = cases (cases_lt 0 (from q)) (along from before n)
    where
      cases : (0 < from q) ⊎ (from q ≤ 0) → ((r : Square) → IsOneOf r t.squares → from r < n → g ∣ from r) → g ∣ from q
      cases (inr h) rest = none (from q) h
      cases (inl some) rest = let l = before q h some in
          subst (λ (m : ℕ). g ∣ m) l.2 (dvd-add g (rest l.0 l.1 (omega (arith, l.2, side_of t tiling l.0 l.1))) (sides l.0 l.1))

  -- a common divisor of the sides divides the column of each square
  pub x_divides : (q : Square) → IsOneOf q t.squares → g ∣ q.x
  x_divides q h = along (λ (r : Square). r.x) square_left (suc q.x) q h (omega arith)

  -- a common divisor of the sides divides the level of each square
  pub y_divides : (q : Square) → IsOneOf q t.squares → g ∣ q.y
  y_divides q h = along (λ (r : Square). r.y) square_above (suc q.y) q h (omega arith)

  first : (q : Square) × IsOneOf q t.squares
  first = from t.squares (tiling.tiles).some (λ q h. h)
    where
      from : (squares : List Square) → 0 < length squares → ((q : Square) → IsOneOf q squares → IsOneOf q t.squares) → (q : Square) × IsOneOf q t.squares
      from [] h f = absurd (omega arith)
      from (q ∷ squares) h f = (q, f q (inl refl))

  high_enough : 0 < t.height
  high_enough = omega (arith, (within_of t tiling first.0 first.1).bottom, side_of t tiling first.0 first.1)

  -- a common divisor of the sides divides the width
  pub width_divides : g ∣ t.width
  width_divides = from (a_square_over_each_cell t tiling (t.width - 1) 0 (omega (arith, wide_enough t tiling)) high_enough)
    where
      from : (r : Square) × IsOneOf r t.squares × (covers (t.width - 1) 0 r ≡ true) → g ∣ t.width
      from (r, k, e) = subst (λ (m : ℕ). g ∣ m) (omega (arith, (within_of t tiling r k).right, (over_from (t.width - 1) 0 r e).right))
          (dvd-add g (x_divides r k) (sides r k))

  -- a common divisor of the sides divides the height
  pub height_divides : g ∣ t.height
  height_divides = from (a_square_over_each_cell t tiling 0 (t.height - 1) (wide_enough t tiling) (omega (arith, high_enough)))
    where
      from : (r : Square) × IsOneOf r t.squares × (covers 0 (t.height - 1) r ≡ true) → g ∣ t.height
      from (r, k, e) = subst (λ (m : ℕ). g ∣ m) (omega (arith, (within_of t tiling r k).bottom, (over_from 0 (t.height - 1) r e).bottom))
          (dvd-add g (y_divides r k) (sides r k))

  -- a common divisor of the sides is not 0
  pub divisor_is_positive : 0 < g
  divisor_is_positive = cases (cases_lt 0 g)
    where
      cases : (0 < g) ⊎ (g ≤ 0) → 0 < g
      cases (inl h) = h
      cases (inr h) = absurd (omega (
        arith,
        mul-div_cancel' 0 (subst (λ (n : ℕ). n ∣ (first.0).s) zero_is (sides first.0 first.1)),
        side_of t tiling first.0 first.1,
      ))
        where
          zero_is : g ≡ 0
          zero_is = omega arith
