-- The next corner: of squares in the order of a code, each stands no later than any cell that the ones before it
-- leave free. So a width and a flat list of sides fix a tiling.
use Rattle.std.specs.List.{AllByRecursion}
use Rattle.std.proofs.Common.{List, [], ap, append_assoc, arith, cond, count_by, inl, inr, map, refl, subst, sym, true, ℕ, ◌++◌, ◌<◌, ◌∙◌, ◌∷◌, ◌≡◌, ◌≤◌, ◌⊎◌}
use Rattle.std.proofs.lemmas.Bool.{cases_lt}
use Rattle.std.proofs.lemmas.Bool.Decides.{nat_tests}
use Rattle.std.proofs.lemmas.List.Sums.{sum_by-append}
use Rattle.bk_laws.proofs.NumberOrder.{le_or_gt}
use Rattle.bk_tiling.proofs.Cells.{counted_one, covers_from, from_append, in_all, one_counted, over_from}
use Rattle.bk_tiling.proofs.Members.{in_back}
use Rattle.bk_tiling.proofs.OrderLaws.{before_level}
use Rattle.bk_tiling.proofs.TilingLaws.{wide_enough}
use Rattle.bk_tiling.specs.CodeOrder.{InCodeOrder, comes_before}
use Rattle.bk_tiling.specs.Tiling.{IsOneOf, IsTiling, IsWithin, Tiling, covers, whole}
use Rattle.bk_tiling.specs.declared.Square.{Square}

-- the square's corner is the cell, or stands before it in the order of a code
pub record IsNoLater (q : Square) (i j : ℕ) : Type 0 where
  pub level : q.y ≤ j
  pub column : q.y ≡ j → q.x ≤ i

order_at : (front : List Square) (q : Square) (back : List Square) → InCodeOrder (front ++ q ∷ back) → AllByRecursion (λ r. comes_before q r ≡ true) back
order_at [] q back o = o.0
order_at (p ∷ front) q back o = order_at front q back o.1

before_column : (q r : Square) → comes_before q r ≡ true → q.y ≡ r.y → q.x ≤ r.x
before_column q r e same = grind (arith, nat_tests)

-- a cell that no square in front of q covers comes no earlier than the top left cell of q
pub next_corner : (t : Tiling) (front : List Square) (q : Square) (back : List Square) → IsTiling t → t.squares ≡ front ++ q ∷ back
    → (i j : ℕ) → i < t.width → j < t.height → ((r : Square) → IsOneOf r front → covers i j r ≡ true → ⊥) → IsNoLater q i j
next_corner t front q back tiling is i j wide low free = cases (from_append front (q ∷ back) there.0 (subst (IsOneOf there.0) is there.1))
  where
    there : (r : Square) × IsOneOf r t.squares × (covers i j r ≡ true)
    there = counted_one (covers i j) t.squares (let e = (tiling.tiles).once i j (omega arith) (omega arith) (omega arith) (omega arith) in omega (arith, e))

    cases : IsOneOf there.0 front ⊎ IsOneOf there.0 (q ∷ back) → IsNoLater q i j
    cases (inl h) = absurd (free there.0 h there.2)
    cases (inr (inl same)) = let over = over_from i j there.0 there.2 in let a = over.left in let b = over.top in
        let x : (there.0).x ≡ q.x = ap (λ (s : Square). s.x) same in let y : (there.0).y ≡ q.y = ap (λ (s : Square). s.y) same in
        record { level = omega arith; column = λ e. omega arith }
    cases (inr (inr h)) = let over = over_from i j there.0 there.2 in let a = over.left in let b = over.top in
        let first = in_all (λ r. comes_before q r ≡ true) back (order_at front q back (subst InCodeOrder is tiling.ordered)) there.0 h in
        record { level = omega (arith, before_level q there.0 first); column = λ e. omega (arith, before_level q there.0 first, before_column q there.0 first) }

module _ (t u : Tiling) (tiling : IsTiling t) (other : IsTiling u) (widths : t.width ≡ u.width) where
  -- after common squares the one next of t stands no later than that of u
  no_later : (front : List Square) (q r : Square) (tb ub : List Square) → t.squares ≡ front ++ q ∷ tb → u.squares ≡ front ++ r ∷ ub → IsNoLater q r.x r.y
  no_later front q r tb ub ti ui = cases (cases_lt r.y t.height)
    where
      q_in : IsOneOf q t.squares
      q_in = subst (IsOneOf q) (sym ti) (in_back front (q ∷ tb) q (inl refl))

      r_in : IsOneOf r u.squares
      r_in = subst (IsOneOf r) (sym ui) (in_back front (r ∷ ub) r (inl refl))

      q_within : IsWithin (whole t) q
      q_within = in_all (IsWithin (whole t)) t.squares (tiling.tiles).within q q_in

      r_within : IsWithin (whole u) r
      r_within = in_all (IsWithin (whole u)) u.squares (other.tiles).within r r_in

      q_side : 0 < q.s
      q_side = in_all (λ q. 0 < q.s) t.squares (tiling.tiles).sides q q_in

      r_side : 0 < r.s
      r_side = in_all (λ q. 0 < q.s) u.squares (other.tiles).sides r r_in

      own : covers r.x r.y r ≡ true
      own = covers_from r.x r.y r (omega arith) (omega (arith, r_side)) (omega arith) (omega (arith, r_side))

      one : count_by (covers r.x r.y) u.squares ≡ 1
      one = let a = r_within.right in let b =
          r_within.bottom in (other.tiles).once r.x r.y (omega arith) (omega (arith, r_side)) (omega arith) (omega (arith, r_side))

      free : (p : Square) → IsOneOf p front → covers r.x r.y p ≡ true → ⊥
      free p h e = omega (
        arith,
        one,
        ap (count_by (covers r.x r.y)) ui,
        sum_by-append (λ s. cond (covers r.x r.y s) 1 0) front (r ∷ ub),
        one_counted (covers r.x r.y) front p h e,
        one_counted (covers r.x r.y) (r ∷ ub) r (inl refl) own,
      )

      cases : (r.y < t.height) ⊎ (t.height ≤ r.y) → IsNoLater q r.x r.y
      cases (inl low) = next_corner t front q tb tiling ti r.x r.y (let a = r_within.right in omega (arith, r_side, widths)) low free
      cases (inr deep) = let a = q_within.bottom in record { level = omega (arith, q_side); column = λ e. absurd (omega (arith, q_side)) }

same_square : (q r : Square) → IsNoLater q r.x r.y → IsNoLater r q.x q.y → q.s ≡ r.s → q ≡ r
same_square q r a b side = λ i. record { x = x i; y = y i; s = side i }
  where
    y : q.y ≡ r.y
    y = let k = a.level in let l = b.level in omega arith

    x : q.x ≡ r.x
    x = let k = a.column y in let l = b.column (sym y) in omega arith

module _ (t u : Tiling) (tiling : IsTiling t) (other : IsTiling u) (widths : t.width ≡ u.width) where
  -- with the same front and the same sides behind it two tilings have the same squares behind it
  pub same_rest : (front tb ub : List Square) → t.squares ≡ front ++ tb → u.squares ≡ front ++ ub → map (λ q. q.s) tb ≡ map (λ q. q.s) ub → tb ≡ ub
  same_rest front [] [] ti ui e = refl
  same_rest front [] (r ∷ ub) ti ui e = absurd (cc)
  same_rest front (q ∷ tb) [] ti ui e = absurd (cc)
  same_rest front (q ∷ tb) (r ∷ ub) ti ui e = λ i. first i ∷ same_rest (front ++ q ∷ []) tb ub (ti ∙ sym (append_assoc front (q ∷ []) tb)) next rest i
    where
      side : q.s ≡ r.s
      side = cc

      rest : map (λ q. q.s) tb ≡ map (λ q. q.s) ub
      rest = cc

      first : q ≡ r
      first = same_square q r (no_later t u tiling other widths front q r tb ub ti ui) (no_later u t other tiling (sym widths) front r q ub tb ui ti) side

      next : u.squares ≡ (front ++ q ∷ []) ++ ub
      next = ui ∙ ap (λ (p : Square). front ++ p ∷ ub) (sym first) ∙ sym (append_assoc front (q ∷ []) ub)

-- the squares of a tiling reach down to its height
pub not_higher : (t u : Tiling) → IsTiling t → IsTiling u → t.width ≡ u.width → t.squares ≡ u.squares → t.height ≤ u.height
not_higher t u tiling other widths same = cases (le_or_gt t.height u.height)
  where
    cases : (t.height ≤ u.height) ⊎ (u.height < t.height) → t.height ≤ u.height
    cases (inl h) = h
    cases (inr h) =
        absurd (deep (counted_one (covers 0 u.height) t.squares
        (let e = (tiling.tiles).once 0 u.height (omega arith) (omega (arith, wide_enough t tiling)) (omega arith) (omega arith) in omega (arith, e))))
      where
        deep : (q : Square) × IsOneOf q t.squares × (covers 0 u.height q ≡ true) → ⊥
        deep (q, k, e) = let w = in_all (IsWithin (whole u)) u.squares (other.tiles).within q (subst (IsOneOf q) same k) in let b =
            w.bottom in let d = (over_from 0 u.height q e).bottom in omega arith

-- tilings of one width with the same squares are one
pub same_tiling : (t u : Tiling) → IsTiling t → IsTiling u → t.width ≡ u.width → t.squares ≡ u.squares → t ≡ u
same_tiling t u tiling other widths same = λ i. record { width = widths i; height = heights i; squares = same i }
  where
    heights : t.height ≡ u.height
    heights = omega (arith, not_higher t u tiling other widths same, not_higher u t other tiling (sym widths) (sym same))
