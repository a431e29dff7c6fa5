-- How far the seam above a square goes to the right and the one at its left downwards, and that no rectangle from its top left
-- corner goes past their ends without cutting a square.
use Rattle.std.specs.Prelude.{List, get_or, length, true, ℕ, ◌+◌, ◌-◌, ◌<◌, ◌||◌, ◌≡◌, ◌≤◌, ◌⊎◌}
use Rattle.std.proofs.Common.{arith, inl, inr, refl, subst, sym}
use Rattle.std.proofs.lemmas.Bool.{cases_eq, cases_lt, or_cases}
use Rattle.std.proofs.lemmas.Bool.Decides.{nat_tests}
use Rattle.std.proofs.lemmas.List.Sums.{AllPass-from_list_all}
use Rattle.bk_tiling.proofs.Cells.{IsOver, counted_one, covers_from, over_from}
use Rattle.bk_tiling.proofs.OrderLaws.{before_level}
use Rattle.bk_tiling.proofs.Places.{at_place, later_place}
use Rattle.bk_tiling.proofs.TilingLaws.{cell_once}
use Rattle.bk_tiling.specs.CodeOrder.{comes_before}
use Rattle.bk_tiling.specs.Tiling.{IsOneOf, IsTiling, IsWithin, Rectangle, Tiling, covers, whole}
use Rattle.bk_tiling.specs.declared.Square.{Square}
use Rattle.bk_simple.specs.Border.{is_inside, is_outside}
use Rattle.bk_simple.specs.Reach.{NoneHigher, NoneWider}
use Rattle.bk_simple.proofs.UncutParts.{inside_means, no_two_squares_over_a_cell, outside_means, square_at_a_place_has_a_side, within_at}

-- the squares from place i up to k stand side by side, and end at a column
pub record IsRunTo (squares : List Square) (i : ℕ) (d : Square) (k end : ℕ) : Type 0 where
  pub some : i < k
  pub within : k ≤ length squares
  pub level : (get_or squares (k - 1) d).y ≡ (get_or squares i d).y
  pub right : (get_or squares i d).x ≤ (get_or squares (k - 1) d).x
  pub ends : (get_or squares (k - 1) d).x + (get_or squares (k - 1) d).s ≡ end

module _ (t : Tiling) (tiling : IsTiling t) (i : ℕ) (d : Square) where
  abbrev at : ℕ → Square
  at k = get_or t.squares k d

  -- a run of the square at its first place alone
  pub run_start : i < length t.squares → IsRunTo t.squares i d (i + 1) ((at i).x + (at i).s)
  run_start few =
      let e : i + 1 - 1 ≡ i = omega arith in
      record { some = omega arith; within = omega arith; level = rw e refl; right = rw e (omega arith); ends = rw e refl }

  -- a run of squares, and one more that is level and begins where they end
  pub run_more : (k end : ℕ) → IsRunTo t.squares i d k end → k < length t.squares → (at k).y ≡ (at i).y
      → (at k).x ≡ end → IsRunTo t.squares i d (k + 1) (end + (at k).s)
  run_more k end run few level begins =
      let e : k + 1 - 1 ≡ k = omega arith in
      record {
        some = omega (arith, run.some);
        within = omega arith;
        level = rw e level;
        right = rw e (omega (arith, run.right, run.ends, begins));
        ends = rw e (omega (arith, begins));
      }

  -- where a square isn't cut by the border of a rectangle, and covers a cell of its first row, its top is that of the rectangle
  level_on : (r : Rectangle) (q : Square) (c : ℕ) → is_inside r q || is_outside r q ≡ true → covers c r.y q ≡ true → r.x ≤ c → c < r.x + r.width → q.y ≡ r.y
  level_on r q c uncut over left right = cases (over_from c r.y q over) (or_cases _ _ uncut)
    where
      beyond : IsOver c r.y q → ((q.x + q.s ≤ r.x) ⊎ (r.x + r.width ≤ q.x)) ⊎ ((q.y + q.s ≤ r.y) ⊎ (r.y + r.height ≤ q.y)) → q.y ≡ r.y
      beyond o (inl (inl h)) = absurd (omega (arith, o.right))
      beyond o (inl (inr h)) = absurd (omega (arith, o.left))
      beyond o (inr (inl h)) = absurd (omega (arith, o.bottom))
      beyond o (inr (inr h)) = omega (arith, o.top)

      cases : IsOver c r.y q → (is_inside r q ≡ true) ⊎ (is_outside r q ≡ true) → q.y ≡ r.y
      cases o (inl h) = omega (arith, (inside_means r q h).top, o.top)
      cases o (inr h) = beyond o (outside_means r q h)

  -- two squares over one cell stand at one place
  same_place : (c j k l : ℕ) → c < t.width → j < t.height → k < length t.squares → l < length t.squares
      → covers c j (at k) ≡ true → covers c j (at l) ≡ true → k ≡ l
  same_place c j k l wide high few also one other = cases (cases_eq k l)
    where
      cases : (k ≡ l) ⊎ (k ≡ l → ⊥) → k ≡ l
      cases (inl e) = e
      cases (inr e) = sides (cases_lt k l)
        where
          sides : (k < l) ⊎ (l ≤ k) → k ≡ l
          sides (inl h) = absurd (no_two_squares_over_a_cell t tiling c j k l d wide high h also one other)
          sides (inr h) = absurd (no_two_squares_over_a_cell t tiling c j l k d wide high (omega (arith, h, e)) few other one)

  -- behind the last square of a run that ends before the width stands one level with it that begins where the run ends, unless a
  -- higher one hangs there
  next_of_run : (k end m : ℕ) → IsRunTo t.squares i d k end → m < length t.squares
      → covers end (at i).y (at m) ≡ true → (at m).y ≡ (at i).y → (m ≡ k) × ((at m).x ≡ end)
  next_of_run k end m run few over level = (place, column)
    where
      o : IsOver end (at i).y (at m)
      o = over_from end (at i).y (at m) over

      bounds : IsWithin (whole t) (at m)
      bounds = within_at t tiling m d few

      side : 0 < (at (k - 1)).s
      side = square_at_a_place_has_a_side t tiling (k - 1) d (omega (arith, run.some, run.within))

      column : (at m).x ≡ end
      column = from (cases_lt (at m).x end)
        where
          from : ((at m).x < end) ⊎ (end ≤ (at m).x) → (at m).x ≡ end
          from (inr h) = omega (arith, o.left)
          from (inl h) =
              let same : m ≡ k - 1 = same_place (end - 1) (at i).y m (k - 1) (omega (arith, bounds.right, o.right))
              (omega (arith, bounds.bottom, o.bottom)) few (omega (arith, run.some, run.within))
              (covers_from (end - 1) (at i).y (at m) (omega arith) (omega (arith, o.right)) o.top o.bottom)
              (covers_from (end - 1) (at i).y (at (k - 1)) (omega (arith, side, run.ends)) (omega (arith, side, run.ends)) (omega (arith, run.level))
              (omega (arith, side, run.level))) in
              let past : end < (at (k - 1)).x + (at (k - 1)).s = subst (λ (n : ℕ). end < (at n).x + (at n).s) same o.right in
              absurd (omega (arith, run.ends))

      not_before : m < k → ⊥
      not_before h = from (cases_eq m (k - 1))
        where
          from : (m ≡ k - 1) ⊎ (m ≡ k - 1 → ⊥) → ⊥
          from (inl e) =
              let past : end < (at (k - 1)).x + (at (k - 1)).s = subst (λ (n : ℕ). end < (at n).x + (at n).s) e o.right in
              omega (arith, run.ends)
          from (inr e) =
              let before : comes_before (at m) (at (k - 1)) ≡ true = later_place t.squares tiling.ordered m (k - 1) d (omega (arith, h, e))
              (omega (arith, run.some, run.within)) in
              grind (arith, nat_tests, before, column, level, run.level, run.ends, side)

      not_behind : k < m → ⊥
      not_behind h =
          let few_k : k < length t.squares = omega arith in
          let first : comes_before (at (k - 1)) (at k) ≡ true = later_place t.squares tiling.ordered (k - 1) k d (omega (arith, run.some)) few_k in
          let second : comes_before (at k) (at m) ≡ true = later_place t.squares tiling.ordered k m d h few in
          let low : (at (k - 1)).y ≤ (at k).y = before_level (at (k - 1)) (at k) first in
          let high : (at k).y ≤ (at m).y = before_level (at k) (at m) second in
          let level_k : (at k).y ≡ (at i).y = omega (arith, level, run.level) in
          let after : (at (k - 1)).x < (at k).x = grind (arith, nat_tests, first, level_k, run.level) in
          let before : (at k).x < (at m).x = grind (arith, nat_tests, second, level_k, level) in
          let own : 0 < (at k).s = square_at_a_place_has_a_side t tiling k d few_k in
          let same : k ≡ k - 1 = same_place (at k).x (at i).y k (k - 1) (omega (arith, before, bounds.right))
          (omega (arith, bounds.bottom, o.bottom)) few_k (omega (arith, few_k))
          (covers_from (at k).x (at i).y (at k) (omega arith) (omega arith) (omega arith) (omega arith))
          (covers_from (at k).x (at i).y (at (k - 1)) (omega arith) (omega (arith, before, column, run.ends)) (omega
          (arith, run.level)) (omega (arith, run.level, side))) in
          omega (arith, run.some, same)

      place : m ≡ k
      place = from (cases_lt m k) (cases_lt k m)
        where
          from : (m < k) ⊎ (k ≤ m) → (k < m) ⊎ (m ≤ k) → m ≡ k
          from (inl h) b = absurd (not_before h)
          from (inr h) (inl g) = absurd (not_behind g)
          from (inr h) (inr g) = omega arith

  -- where no more square stands beside a run, no rectangle that cuts no square goes past its end
  pub none_wider : (k end : ℕ) → IsRunTo t.squares i d k end → (k < length t.squares → (at k).y ≡ (at i).y
      → (at k).x ≡ end → ⊥) → NoneWider t.squares (at i) t.width end
  none_wider k end run last r left top uncut narrow = cases (cases_lt end (r.x + r.width))
    where
      first : IsWithin (whole t) (at i)
      first = within_at t tiling i d (omega (arith, run.some, run.within))

      side : 0 < (at i).s
      side = square_at_a_place_has_a_side t tiling i d (omega (arith, run.some, run.within))

      cases : (end < r.x + r.width) ⊎ (r.x + r.width ≤ end) → r.x + r.width ≤ end
      cases (inr h) = h
      cases (inl past) =
          from (counted_one (covers end (at i).y) t.squares (omega (arith, cell_once t tiling end (at i).y (omega arith) (omega (arith, first.bottom, side)))))
        where
          at_m : (m : ℕ) → m < length t.squares → covers end (at i).y (at m) ≡ true → ⊥
          at_m m few over =
              let level : (at m).y ≡ r.y = level_on r (at m) end (AllPass-from_list_all (λ q. is_inside r q || is_outside r q) t.squares uncut m d few)
              (subst (λ (n : ℕ). covers end n (at m) ≡ true) (sym top) over) (omega (arith, left, run.right, run.ends)) past in
              let next = next_of_run k end m run few over (omega (arith, level, top)) in
              last (omega (arith, next.0)) (subst (λ (n : ℕ). (at n).y ≡ (at i).y) next.0 (omega (arith, level, top)))
              (subst (λ (n : ℕ). (at n).x ≡ end) next.0 next.1)

          from : (q : Square) × IsOneOf q t.squares × (covers end (at i).y q ≡ true) → r.x + r.width ≤ end
          from (q, one, over) =
              let found = at_place t.squares q one in
              absurd (at_m found.0 found.1 (subst (λ (s : Square). covers end (at i).y s ≡ true) (sym (found.2 d)) over))

  -- a later square that reaches across the column of the left edge stops each rectangle that cuts no square
  pub none_higher : (k most : ℕ) → i < k → k < length t.squares → (at k).x < (at i).x
      → (at i).x < (at k).x + (at k).s → NoneHigher t.squares (at i) most (at k).y
  none_higher k most behind few before past r left top uncut low =
      cases (or_cases _ _ (AllPass-from_list_all (λ q. is_inside r q || is_outside r q) t.squares uncut k d few))
    where
      side : 0 < (at k).s
      side = square_at_a_place_has_a_side t tiling k d few

      lower : (at i).y ≤ (at k).y
      lower = before_level (at i) (at k) (later_place t.squares tiling.ordered i k d behind few)

      beyond : (((at k).x + (at k).s ≤ r.x) ⊎ (r.x + r.width ≤ (at k).x)) ⊎ (((at k).y + (at k).s ≤ r.y) ⊎ (r.y + r.height ≤ (at k).y))
          → r.y + r.height ≤ (at k).y
      beyond (inl (inl h)) = absurd (omega (arith, left))
      beyond (inl (inr h)) = absurd (omega (arith, left))
      beyond (inr (inl h)) = absurd (omega (arith, top, lower, side))
      beyond (inr (inr h)) = h

      cases : (is_inside r (at k) ≡ true) ⊎ (is_outside r (at k) ≡ true) → r.y + r.height ≤ (at k).y
      cases (inl h) = absurd (omega (arith, (inside_means r (at k) h).left, left))
      cases (inr h) = beyond (outside_means r (at k) h)
