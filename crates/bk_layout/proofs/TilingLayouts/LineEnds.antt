-- Where the lines of a tiling end: the tests of ends, and the first end below a level.
use Rattle.std.specs.List.{list_any}
use Rattle.std.proofs.Common.{Bool, List, [], ap, arith, cond, false, inl, inr, nat_lt, refl, subst, suc, sym, true, zero, ℕ, ◌&&◌, ◌+◌, ◌<◌, ◌==◌}
use Rattle.std.proofs.Common.{◌||◌, ◌∙◌, ◌∷◌, ◌≡◌, ◌≤◌, ◌⊎◌}
use Rattle.std.proofs.lemmas.Bool.{both_ways, cases_lt, and_parts, and_from}
use Rattle.bk_laws.proofs.NumberTests.{both_equal-from_test, both_equal-to_test, equal_and_between-from_test, equal_and_between-to_test}
use Rattle.bk_tiling.specs.Tiling.{IsOneOf, Tiling}
use Rattle.bk_tiling.specs.declared.Square.{Square}
use Rattle.bk_layout.specs.TilingLayout.{goes_on_left, goes_on_right, is_end, line_end}

-- a test that some square passes is passed by one of the list
pub any_from : (p : Square → Bool) (squares : List Square) → list_any p squares ≡ true → (q : Square) × IsOneOf q squares × (p q ≡ true)
any_from p [] e = absurd (cc)
any_from p (r ∷ squares) e = cases (p r) refl e (any_from p squares)
  where
    cases : (b : Bool) → p r ≡ b → (b || list_any p squares) ≡ true
        → (list_any p squares ≡ true → (q : Square) × IsOneOf q squares × (p q ≡ true)) → (q : Square) × IsOneOf q (r ∷ squares) × (p q ≡ true)
    cases true f e rest = (r, inl refl, f)
    cases false f e rest = let k = rest e in (k.0, inr k.1, k.2)

-- if a square of a list passes a test, one of the list passes it
pub any_to : (p : Square → Bool) (squares : List Square) (q : Square) → IsOneOf q squares → p q ≡ true → list_any p squares ≡ true
any_to p [] q h e = absurd h
any_to p (r ∷ squares) q h e = cases (p r) refl h (any_to p squares q)
  where
    cases : (b : Bool) → p r ≡ b → (q ≡ r) ⊎ IsOneOf q squares → (IsOneOf q squares → p q ≡ true → list_any p squares ≡ true) → (b || list_any p squares) ≡ true
    cases true f h rest = refl
    cases false f (inl same) rest = absurd (both_ways (p r) f (ap p (sym same) ∙ e))
    cases false f (inr k) rest = rest k e

-- squares on both sides of the column with their bottoms at the level
pub record Ends (squares : List Square) (x y : ℕ) : Type 0 where
  pub left : Square
  pub right : Square
  pub left_in : IsOneOf left squares
  pub right_in : IsOneOf right squares
  pub left_edge : left.x + left.s ≡ x
  pub right_edge : right.x ≡ x
  pub left_bottom : left.y + left.s ≡ y
  pub right_bottom : right.y + right.s ≡ y

-- where the test of an end holds, a square at the left and one at the right of the line end there
pub ends_from : (squares : List Square) (x y : ℕ) → is_end squares x y ≡ true → Ends squares x y
ends_from squares x y e = from (any_from (λ q. (q.x + q.s == x) && (q.y + q.s == y)) squares b.0) (any_from (λ r. (r.x == x) && (r.y + r.s == y)) squares b.1)
  where
    b : (list_any (λ q. (q.x + q.s == x) && (q.y + q.s == y)) squares ≡ true) × (list_any (λ r. (r.x == x) && (r.y + r.s == y)) squares ≡ true)
    b = and_parts (list_any (λ q. (q.x + q.s == x) && (q.y + q.s == y)) squares) (list_any (λ r. (r.x == x) && (r.y + r.s == y)) squares) e

    from : (q : Square) × IsOneOf q squares × (((q.x + q.s == x) && (q.y + q.s == y)) ≡ true) → (r : Square) × IsOneOf r squares
        × (((r.x == x) && (r.y + r.s == y)) ≡ true) → Ends squares x y
    from (q, h, f) (r, k, g) = let m = both_equal-from_test (q.x + q.s) x (q.y + q.s) y f in let n = both_equal-from_test r.x x (r.y + r.s) y g in
        record { left = q; right = r; left_in = h; right_in = k; left_edge = m.0; right_edge = n.0; left_bottom = m.1; right_bottom = n.1 }

-- if a square at the left and one at the right end at a place, the test of an end holds there
pub ends_to : (squares : List Square) (x y : ℕ) → Ends squares x y → is_end squares x y ≡ true
ends_to squares x y e = and_from (list_any (λ q. (q.x + q.s == x) && (q.y + q.s == y)) squares) (list_any (λ r. (r.x == x) && (r.y + r.s == y)) squares)
    (any_to (λ q. (q.x + q.s == x) && (q.y + q.s == y)) squares e.left e.left_in
    (both_equal-to_test (e.left.x + e.left.s) x (e.left.y + e.left.s) y e.left_edge e.left_bottom))
    (any_to (λ r. (r.x == x) && (r.y + r.s == y)) squares e.right e.right_in
    (both_equal-to_test e.right.x x (e.right.y + e.right.s) y e.right_edge e.right_bottom))

-- a square beside which the line at its left edge goes on, and the same at its right edge
pub record GoesOnLeft (squares : List Square) (q : Square) : Type 0 where
  pub beside : Square
  pub is : IsOneOf beside squares
  pub edge : beside.x + beside.s ≡ q.x
  pub top : beside.y < q.y + q.s
  pub bottom : q.y + q.s < beside.y + beside.s

-- a square at the right of the line at its right edge reaches further than it
pub record GoesOnRight (squares : List Square) (q : Square) : Type 0 where
  pub beside : Square
  pub is : IsOneOf beside squares
  pub edge : beside.x ≡ q.x + q.s
  pub top : beside.y < q.y + q.s
  pub bottom : q.y + q.s < beside.y + beside.s

-- the test that a line goes on at the left, and what it tests: from the test
pub goes_left_from : (t : Tiling) (q : Square) → goes_on_left t q ≡ true → GoesOnLeft t.squares q
goes_left_from t q e = from (any_from (λ z. (z.x + z.s == q.x) && (nat_lt z.y (q.y + q.s) && nat_lt (q.y + q.s) (z.y + z.s))) t.squares e)
  where
    from : (z : Square) × IsOneOf z t.squares × (((z.x + z.s == q.x) && (nat_lt z.y (q.y + q.s) && nat_lt (q.y + q.s) (z.y + z.s))) ≡ true)
        → GoesOnLeft t.squares q
    from (z, h, f) =
        let m = equal_and_between-from_test (z.x + z.s) q.x z.y (q.y + q.s) (z.y + z.s) f in record { beside = z; is = h; edge = m.0; top = m.1; bottom = m.2 }

-- if the test that a line goes on at the right holds, a square goes on there
pub goes_right_from : (t : Tiling) (q : Square) → goes_on_right t q ≡ true → GoesOnRight t.squares q
goes_right_from t q e = from (any_from (λ z. (z.x == q.x + q.s) && (nat_lt z.y (q.y + q.s) && nat_lt (q.y + q.s) (z.y + z.s))) t.squares e)
  where
    from : (z : Square) × IsOneOf z t.squares × (((z.x == q.x + q.s) && (nat_lt z.y (q.y + q.s) && nat_lt (q.y + q.s) (z.y + z.s))) ≡ true)
        → GoesOnRight t.squares q
    from (z, h, f) =
        let m = equal_and_between-from_test z.x (q.x + q.s) z.y (q.y + q.s) (z.y + z.s) f in record { beside = z; is = h; edge = m.0; top = m.1; bottom = m.2 }

-- if a line goes on at the left, the test holds
pub goes_left_to : (t : Tiling) (q : Square) → GoesOnLeft t.squares q → goes_on_left t q ≡ true
goes_left_to t q g = any_to (λ z. (z.x + z.s == q.x) && (nat_lt z.y (q.y + q.s) && nat_lt (q.y + q.s) (z.y + z.s))) t.squares g.beside g.is
    (equal_and_between-to_test (g.beside.x + g.beside.s) q.x g.beside.y (q.y + q.s) (g.beside.y + g.beside.s) g.edge g.top g.bottom)

-- if a line goes on at the right, the test holds
pub goes_right_to : (t : Tiling) (q : Square) → GoesOnRight t.squares q → goes_on_right t q ≡ true
goes_right_to t q g = any_to (λ z. (z.x == q.x + q.s) && (nat_lt z.y (q.y + q.s) && nat_lt (q.y + q.s) (z.y + z.s))) t.squares g.beside g.is
    (equal_and_between-to_test g.beside.x (q.x + q.s) g.beside.y (q.y + q.s) (g.beside.y + g.beside.s) g.edge g.top g.bottom)

-- ---- the first end below a level

module _ (squares : List Square) (x : ℕ) where
  -- the first end is looked for within so many levels
  pub end_within : (more y : ℕ) → line_end squares x more y ≤ y + more
  end_within zero y = omega arith
  end_within (suc more) y = cases (is_end squares x (suc y)) (end_within more (suc y))
    where
      cases : (b : Bool) → line_end squares x more (suc y) ≤ suc y + more → cond b (suc y) (line_end squares x more (suc y)) ≤ y + suc more
      cases true rest = omega arith
      cases false rest = omega (arith, rest)

  -- the first one
  pub end_is : (more y b : ℕ) → y < b → b ≤ y + more → Ends squares x b → ((c : ℕ) → y < c → c < b → Ends squares x c → ⊥) → line_end squares x more y ≡ b
  end_is zero y b lo hi e none = absurd (omega arith)
  end_is (suc more) y b lo hi e none = cases (is_end squares x (suc y)) refl (end_is more (suc y) b) (cases_lt (suc y) b)
    where
      cases : (v : Bool) → is_end squares x (suc y) ≡ v
          → (suc y < b → b ≤ suc y + more → Ends squares x b → ((c : ℕ) → suc y < c → c < b → Ends squares x c → ⊥)
          → line_end squares x more (suc y) ≡ b) → (suc y < b) ⊎ (b ≤ suc y) → cond v (suc y) (line_end squares x more (suc y)) ≡ b
      cases true f rest (inl h) = absurd (none (suc y) (omega arith) h (ends_from squares x (suc y) f))
      cases true f rest (inr h) = omega arith
      cases false f rest (inl h) = rest h (omega arith) e (λ c l m. none c (omega arith) m)
      cases false f rest (inr h) = let same : b ≡ suc y = omega arith in
          absurd (both_ways (is_end squares x (suc y)) f (ends_to squares x (suc y) (subst (Ends squares x) same e)))

  -- above it no line ends
  pub none_before : (more y c : ℕ) → y < c → c < line_end squares x more y → Ends squares x c → ⊥
  none_before zero y c lo hi e = omega arith
  none_before (suc more) y c lo hi e = cases (is_end squares x (suc y)) refl hi (none_before more (suc y) c) (cases_lt (suc y) c)
    where
      cases : (v : Bool) → is_end squares x (suc y) ≡ v → c < cond v (suc y) (line_end squares x more (suc y))
          → (suc y < c → c < line_end squares x more (suc y) → Ends squares x c → ⊥) → (suc y < c) ⊎ (c ≤ suc y) → ⊥
      cases true f h rest k = omega (arith, h)
      cases false f h rest (inl k) = rest k h e
      cases false f h rest (inr k) = let same : c ≡ suc y = omega arith in
          both_ways (is_end squares x (suc y)) f (ends_to squares x (suc y) (subst (Ends squares x) same e))

  -- where no line ends between two levels, the end of the line is not above the lower one
  pub not_passed : (more y b : ℕ) → b ≤ y + more → ((c : ℕ) → y < c → c < b → Ends squares x c → ⊥) → b ≤ line_end squares x more y
  not_passed zero y b hi none = omega arith
  not_passed (suc more) y b hi none = cases (is_end squares x (suc y)) refl
      (not_passed more (suc y) b (omega arith) (λ c l m. none c (omega arith) m)) (cases_lt (suc y) b)
    where
      cases : (v : Bool) → is_end squares x (suc y) ≡ v → b ≤ line_end squares x more (suc y) → (suc y < b) ⊎ (b ≤ suc y)
          → b ≤ cond v (suc y) (line_end squares x more (suc y))
      cases true f rest (inl k) = absurd (none (suc y) (omega arith) k (ends_from squares x (suc y) f))
      cases true f rest (inr k) = k
      cases false f rest k = rest

  -- where none is passed, it is the same from a lower level
  pub end_skips : (d more y : ℕ) → ((c : ℕ) → y < c → c ≤ y + d → Ends squares x c → ⊥) → line_end squares x (d + more) y ≡ line_end squares x more (y + d)
  end_skips zero more y none = λ i. line_end squares x (left i) (right i)
    where
      left : 0 + more ≡ more
      left = omega arith

      right : y ≡ y + 0
      right = omega arith
  end_skips (suc d) more y none = ap (λ (n : ℕ). line_end squares x n y) fuel ∙ cases (is_end squares x (suc y)) refl
      ∙ end_skips d more (suc y) (λ c l m. none c (omega arith) (omega arith)) ∙ ap (line_end squares x more) level
    where
      fuel : suc d + more ≡ suc (d + more)
      fuel = omega arith

      level : suc y + d ≡ y + suc d
      level = omega arith

      cases : (v : Bool) → is_end squares x (suc y) ≡ v → cond v (suc y) (line_end squares x (d + more) (suc y)) ≡ line_end squares x (d + more) (suc y)
      cases true f = absurd (none (suc y) (omega arith) (omega arith) (ends_from squares x (suc y) f))
      cases false f = refl
