-- The one canonical tiling of two squares: two of side 1, side by side.
use Rattle.std.specs.List.{AllByRecursion}
use Rattle.std.proofs.Common.{Bool, List, [], ap, arith, cond, count_by, inl, inr, length, refl, subst, sym, true, ℕ, ◌*◌, ◌+◌, ◌-◌, ◌<◌, ◌∷◌, ◌∙◌}
use Rattle.std.proofs.Common.{◌≡◌, ◌≤◌, ◌⊎◌}
use Rattle.std.proofs.lemmas.Bool.{cases_lt}
use Rattle.bk_tiling.proofs.Cells.{IsOver, count-cons, counted_one, covers_from, over_from}
use Rattle.bk_tiling.proofs.Scaling.{before_cases}
use Rattle.bk_tiling.proofs.Sizes.{high_enough}
use Rattle.bk_tiling.proofs.TilingLaws.{cell_once, side_of, wide_enough, within_of}
use Rattle.bk_tiling.specs.CodeOrder.{InCodeOrder}
use Rattle.bk_tiling.specs.Tiling.{IsOneOf, IsTiling, Tiling, covers}
use Rattle.bk_tiling.specs.declared.Square.{Square}
use Rattle.bk_sym.proofs.Composing.{square_same}
use Rattle.bk_sym.specs.Canonical.{IsCanonical}
use Rattle.bk_sym.proofs.CanonicalPrimitive.{canonical_primitive}

-- two squares of side 1, side by side
abbrev pub row_of_two : Tiling
row_of_two = record { width = 2; height = 1; squares = record { x = 0; y = 0; s = 1 } ∷ record { x = 1; y = 0; s = 1 } ∷ [] }

-- the squares of a list of two
record AreTwo (squares : List Square) : Type 0 where
  pub first : Square
  pub second : Square
  pub are : squares ≡ first ∷ second ∷ []

two_from : (squares : List Square) → length squares ≡ 2 → AreTwo squares
two_from [] e = absurd (omega arith)
two_from (q ∷ []) e = absurd (omega arith)
two_from (q ∷ r ∷ []) e = record { first = q; second = r; are = refl }
two_from (q ∷ r ∷ s ∷ squares) e = absurd (omega arith)

module _ (t : Tiling) (q r : Square) (tiling : IsTiling t) (are : t.squares ≡ q ∷ r ∷ []) (lies : t.height ≤ t.width) where
  wide : 0 < t.width
  wide = wide_enough t tiling

  high : 0 < t.height
  high = high_enough t tiling

  first_is : IsOneOf q t.squares
  first_is = subst (IsOneOf q) (sym are) (inl refl)

  second_is : IsOneOf r t.squares
  second_is = subst (IsOneOf r) (sym are) (inr (inl refl))

  some_over : (i j : ℕ) → i < t.width → j < t.height → IsOver i j q ⊎ IsOver i j r
  some_over i j a b = from (counted_one (covers i j) t.squares (omega (arith, cell_once t tiling i j a b)))
    where
      which : (p : Square) → covers i j p ≡ true → IsOneOf p (q ∷ r ∷ []) → IsOver i j q ⊎ IsOver i j r
      which p e (inl same) = inl (over_from i j q (ap (covers i j) (sym same) ∙ e))
      which p e (inr (inl same)) = inr (over_from i j r (ap (covers i j) (sym same) ∙ e))
      which p e (inr (inr none)) = absurd none

      from : (p : Square) × IsOneOf p t.squares × (covers i j p ≡ true) → IsOver i j q ⊎ IsOver i j r
      from (p, h, e) = which p e (subst (IsOneOf p) are h)

  not_both : (i j : ℕ) → i < t.width → j < t.height → IsOver i j q → IsOver i j r → ⊥
  not_both i j a b o u = omega (
    arith,
    cell_once t tiling i j a b,
    ap (count_by (covers i j)) are,
    count-cons (covers i j) q (r ∷ []),
    count-cons (covers i j) r [],
    one q o,
    one r u,
  )
    where
      one : (p : Square) → IsOver i j p → ◌≡◌ {A = ℕ} (cond (covers i j p) 1 0) 1
      one p o = ap (λ (b : Bool). cond {A = ℕ} b 1 0) (covers_from i j p o.left o.right o.top o.bottom)

  -- the first in order lies at the top left corner
  corner : (q.x ≡ 0) × (q.y ≡ 0)
  corner = cases (some_over 0 0 wide high)
    where
      ordered : InCodeOrder (q ∷ r ∷ [])
      ordered = subst InCodeOrder are tiling.ordered

      not : (q.y < r.y) ⊎ ((q.y ≡ r.y) × (q.x < r.x)) → IsOver 0 0 r → ⊥
      not (inl h) o = omega (arith, h, o.top)
      not (inr h) o = omega (arith, h.1, o.left)

      cases : IsOver 0 0 q ⊎ IsOver 0 0 r → (q.x ≡ 0) × (q.y ≡ 0)
      cases (inl o) = (omega (arith, o.left), omega (arith, o.top))
      cases (inr o) = absurd (not (before_cases q r (ordered.0).0) o)

  -- the second lies at the bottom right corner, and at the top right one
  bottom_right : IsOver (t.width - 1) (t.height - 1) r
  bottom_right = cases (some_over (t.width - 1) (t.height - 1) (omega (arith, wide)) (omega (arith, high)))
    where
      cases : IsOver (t.width - 1) (t.height - 1) q ⊎ IsOver (t.width - 1) (t.height - 1) r → IsOver (t.width - 1) (t.height - 1) r
      cases (inr o) = o
      cases (inl o) =
          let w = within_of t tiling r second_is in
          let s = side_of t tiling r second_is in
          absurd (not_both r.x r.y (omega (arith, w.right, s)) (omega (arith, w.bottom, s))
          (record {
            left = omega (arith, corner.0);
            right = omega (arith, corner.0, o.right, w.right, s);
            top = omega (arith, corner.1);
            bottom = omega (arith, corner.1, o.bottom, w.bottom, s);
          })
          (record { left = omega arith; right = omega (arith, s); top = omega arith; bottom = omega (arith, s) }))

  top_right : IsOver (t.width - 1) 0 r
  top_right = cases (some_over (t.width - 1) 0 (omega (arith, wide)) high)
    where
      cases : IsOver (t.width - 1) 0 q ⊎ IsOver (t.width - 1) 0 r → IsOver (t.width - 1) 0 r
      cases (inr o) = o
      cases (inl o) = absurd (not_both (t.width - 1) (t.height - 1) (omega (arith, wide)) (omega (arith, high))
          (record { left = omega (arith, corner.0); right = o.right; top = omega (arith, corner.1); bottom = omega (arith, corner.0, corner.1, o.right, lies) })
          bottom_right)

  -- the first square lies at the bottom left corner
  bottom_left : IsOver 0 (t.height - 1) q
  bottom_left = cases (some_over 0 (t.height - 1) wide (omega (arith, high)))
    where
      cases : IsOver 0 (t.height - 1) q ⊎ IsOver 0 (t.height - 1) r → IsOver 0 (t.height - 1) q
      cases (inl o) = o
      cases (inr o) =
          let s = side_of t tiling q first_is in
          absurd (not_both 0 0 wide high
          (record { left = omega (arith, corner.0); right = omega (arith, s); top = omega (arith, corner.1); bottom = omega (arith, s) })
          (record { left = o.left; right = o.right; top = top_right.top; bottom = top_right.bottom }))

  first_side : q.s ≡ t.height
  first_side = let w = within_of t tiling q first_is in omega (arith, corner.1, bottom_left.bottom, w.bottom, high)

  second_side : r.s ≡ t.height
  second_side = let w = within_of t tiling r second_is in omega (arith, top_right.top, bottom_right.bottom, w.bottom, high)

  -- they touch
  beside : r.x ≡ q.s
  beside = cases (cases_lt r.x q.s) (cases_lt q.s r.x)
    where
      cases : (r.x < q.s) ⊎ (q.s ≤ r.x) → (q.s < r.x) ⊎ (r.x ≤ q.s) → r.x ≡ q.s
      cases (inl h) any =
          let w = within_of t tiling r second_is in
          let s = side_of t tiling r second_is in
          absurd (not_both r.x 0 (omega (arith, w.right, s)) high
          (record { left = omega (arith, corner.0); right = omega (arith, h); top = omega (arith, corner.1); bottom = omega (arith, h) })
          (record { left = omega arith; right = omega (arith, s); top = top_right.top; bottom = top_right.bottom }))
      cases (inr h) (inl k) =
          let w = within_of t tiling r second_is in
          absurd (gap (some_over q.s 0 (omega (arith, w.right, k)) high))
        where
          gap : IsOver q.s 0 q ⊎ IsOver q.s 0 r → ⊥
          gap (inl o) = omega (arith, o.right, corner.0)
          gap (inr o) = omega (arith, o.left, k)
      cases (inr h) (inr k) = omega arith

  width_is : t.width ≡ t.height + t.height
  width_is = let w = within_of t tiling r second_is in omega (arith, beside, first_side, second_side, bottom_right.right, w.right, wide)

  lowest : IsCanonical t → t.height ≡ 1
  lowest own = canonical_primitive t tiling own t.height (subst (AllByRecursion (λ p. (m : ℕ) × (p.s ≡ t.height * m))) (sym are)
      ((1, omega (arith, first_side)), ((1, omega (arith, second_side)), tt)))

  are_these : IsCanonical t → t ≡ row_of_two
  are_these own = λ i. record { width = wides i; height = lowest own i; squares = list i }
    where
      wides : t.width ≡ 2
      wides = omega (arith, width_is, lowest own)

      first : q ≡ record { x = 0; y = 0; s = 1 }
      first = square_same _ _ corner.0 corner.1 (first_side ∙ lowest own)

      second : r ≡ record { x = 1; y = 0; s = 1 }
      second = square_same _ _ (beside ∙ first_side ∙ lowest own) (omega (arith, top_right.top)) (second_side ∙ lowest own)

      list : t.squares ≡ row_of_two.squares
      list = are ∙ ap (λ (p : Square). p ∷ r ∷ []) first ∙ ap (λ (p : Square). record { x = 0; y = 0; s = 1 } ∷ p ∷ []) second

-- no other tiling of two squares is its own canonical one
pub only_row_of_two : (t : Tiling) → IsTiling t → length t.squares ≡ 2 → IsCanonical t → t ≡ row_of_two
only_row_of_two t tiling order own = let found = two_from t.squares order in are_these t found.first found.second tiling found.are own.lying own
