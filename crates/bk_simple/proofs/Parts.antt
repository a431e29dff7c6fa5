-- The squares at the corners of a part, and that no square lies across its border.
use Rattle.std.specs.Prelude.{IsTrue, count_by, false, filter, get_or, length, max, true, ℕ, ◌&&◌, ◌+◌, ◌-◌, ◌<◌, ◌==◌, ◌||◌, ◌≡◌, ◌⊎◌}
use Rattle.std.proofs.Common.{ap, arith, inl, inr, sym, ◌∙◌}
use Rattle.std.proofs.lemmas.Bool.{and_parts, both_ways, cases_Bool, eqb-true, false_from_ne_true, or_left, or_right}
use Rattle.std.proofs.lemmas.List.Elements.{All-from_recursion}
use Rattle.std.proofs.lemmas.List.Sums.{length-filter, list_all-from_AllPass, passes_at_first}
use Rattle.bk_laws.proofs.AllOfLists.{all-filter_back}
use Rattle.bk_laws.proofs.Counts.{count_by-filter_lt}
use Rattle.bk_laws.proofs.ListItems.{position_or_len-below}
use Rattle.bk_laws.proofs.NumberTests.{both_equal-to_test}
use Rattle.bk_tiling.proofs.Cells.{IsOver, covers_from, over_from}
use Rattle.bk_tiling.proofs.TilingLaws.{cell_once}
use Rattle.bk_tiling.specs.Tiling.{IsTiling, IsWithin, Rectangle, Tiling, covers, whole}
use Rattle.bk_tiling.specs.declared.Square.{Square}
use Rattle.bk_simple.proofs.SimpleTest.{first_corner, has_cell, last_corner, same_selection, selected_within}
use Rattle.bk_simple.specs.Border.{IsUncut, is_inside, is_outside}
use Rattle.bk_simple.specs.Simple.{IsPart, bottom_right, top_left}
use Rattle.bk_simple.specs.CornerSquares.{IsBetween}
use Rattle.bk_simple.proofs.UncutParts.{Meets, inside_from, meets_where_not_outside, square_at_a_place_has_a_side, within_at}

module _ (t : Tiling) (r : Rectangle) (tiling : IsTiling t) (part : IsPart t r) where
  abbrev none : Square
  none = record { x = 0; y = 0; s = 0 }

  abbrev at : ℕ → Square
  at k = get_or t.squares k none

  -- the squares at the corners of a part
  first_place : (k : ℕ) × (k < length t.squares) × IsTrue (part.pick (at k)) × IsTrue (covers r.x r.y (at k))
  first_place = first_corner t r tiling part

  last_place : (k : ℕ) × (k < length t.squares) × IsTrue (part.pick (at k)) × IsTrue (covers (r.x + r.width - 1) (r.y + r.height - 1) (at k))
  last_place = last_corner t r tiling part

  -- there is a square at the top left corner
  pub top_left_below : top_left t r < length t.squares
  top_left_below =
      let q : Square = at first_place.0 in
      let p : IsWithin r q = selected_within t r tiling part first_place.0 first_place.1 first_place.2 in
      let c : IsOver r.x r.y q = over_from r.x r.y q first_place.3 in
      position_or_len-below (λ q. (q.x == r.x) && (q.y == r.y)) t.squares first_place.0 none first_place.1
      (both_equal-to_test q.x r.x q.y r.y (omega (arith, p.left, c.left)) (omega (arith, p.top, c.top)))

  -- there is a square at the bottom right corner of a part
  pub bottom_right_below : bottom_right t r < length t.squares
  bottom_right_below =
      let q : Square = at last_place.0 in
      let p : IsWithin r q = selected_within t r tiling part last_place.0 last_place.1 last_place.2 in
      let c : IsOver (r.x + r.width - 1) (r.y + r.height - 1) q = over_from (r.x + r.width - 1) (r.y + r.height - 1) q last_place.3 in
      let cell = has_cell t r tiling part in
      position_or_len-below (λ q. (q.x + q.s == r.x + r.width) && (q.y + q.s == r.y + r.height)) t.squares last_place.0 none last_place.1
      (both_equal-to_test (q.x + q.s) (r.x + r.width) (q.y + q.s) (r.y + r.height) (omega (arith, p.right, c.right, cell.0))
      (omega (arith, p.bottom, c.bottom, cell.1)))

  -- the part reaches from the corner of the first to that of the second
  pub between_corners : (d : Square) → IsBetween (get_or t.squares (top_left t r) d) (get_or t.squares (bottom_right t r) d) r
  between_corners d =
      let first = and_parts _ _ (passes_at_first (λ q. (q.x == r.x) && (q.y == r.y)) t.squares d top_left_below) in
      let last = and_parts _ _ (passes_at_first (λ q. (q.x + q.s == r.x + r.width) && (q.y + q.s == r.y + r.height)) t.squares d bottom_right_below) in
      let cell = has_cell t r tiling part in
      record {
        left = sym (eqb-true _ _ first.0);
        top = sym (eqb-true _ _ first.1);
        right = sym (eqb-true _ _ last.0);
        bottom = sym (eqb-true _ _ last.1);
        wide = cell.0;
        high = cell.1;
      }

  -- as many squares lie in a part as are selected
  pub count_of_part : count_by (is_inside r) t.squares ≡ length (filter part.pick t.squares)
  count_of_part = sym (length-filter (is_inside r) t.squares) ∙ sym (ap length (same_selection t r tiling part))

  -- a square that shares a cell with a part lies in it
  pub no_square_across_part : (k : ℕ) (d : Square) → k < length t.squares → is_inside r (get_or t.squares k d) ≡ false → Meets r (get_or t.squares k d) → ⊥
  no_square_across_part k d few cut m =
      let q : Square = get_or t.squares k d in
      let w : IsWithin (whole t) q = within_at t tiling k d few in
      let some : 0 < q.s = square_at_a_place_has_a_side t tiling k d few in
      let cell = has_cell t r tiling part in
      let over : covers (max q.x r.x) (max q.y r.y) q ≡ true =
      covers_from (max q.x r.x) (max q.y r.y) q (omega arith) (omega (arith, m.left)) (omega arith) (omega (arith, m.top)) in
      let unpicked : part.pick q ≡ false = false_from_ne_true (part.pick q) (λ e. both_ways (is_inside r q) cut (picked_inside k d few e)) in
      let fewer = count_by-filter_lt part.pick (covers (max q.x r.x) (max q.y r.y)) t.squares k d few unpicked over in
      let one = part.tiled.once (max q.x r.x) (max q.y r.y) (omega arith) (omega (arith, m.right, cell.0)) (omega arith) (omega (arith, m.bottom, cell.1)) in
      let all = cell_once t tiling (max q.x r.x) (max q.y r.y) (omega (arith, w.right, some, m.left)) (omega (arith, w.bottom, some, m.top)) in
      omega (arith, fewer, one, all)
    where
      picked_inside : (k : ℕ) (d : Square) → k < length t.squares → part.pick (get_or t.squares k d) ≡ true → is_inside r (get_or t.squares k d) ≡ true
      picked_inside k d few e = inside_from r (get_or t.squares k d)
          (All-from_recursion (λ q. IsTrue (part.pick q) → IsWithin r q) t.squares (all-filter_back (IsWithin r) part.pick t.squares part.tiled.within) k d few
          e)

  -- no square lies across the border of a part
  pub uncut_part : IsUncut r t.squares
  uncut_part = list_all-from_AllPass (λ q. is_inside r q || is_outside r q) t.squares
      (λ k d few. each k d few (cases_Bool (is_inside r (get_or t.squares k d))) (cases_Bool (is_outside r (get_or t.squares k d))))
    where
      each : (k : ℕ) (d : Square) → k < length t.squares
          → (is_inside r (get_or t.squares k d) ≡ true) ⊎ (is_inside r (get_or t.squares k d) ≡ false)
          → (is_outside r (get_or t.squares k d) ≡ true) ⊎ (is_outside r (get_or t.squares k d) ≡ false)
          → is_inside r (get_or t.squares k d) || is_outside r (get_or t.squares k d) ≡ true
      each k d few (inl h) other = or_left _ _ h
      each k d few (inr h) (inl o) = or_right _ _ o
      each k d few (inr h) (inr o) = absurd (no_square_across_part k d few h (meets_where_not_outside r (get_or t.squares k d) o))
