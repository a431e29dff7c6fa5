-- The square at the bottom right corner of a part stands behind the one at its top left corner.
use Rattle.std.specs.Prelude.{get_or, length, refl, true, ℕ, ◌+◌, ◌<◌, ◌≡◌, ◌≤◌, ◌⊎◌}
use Rattle.std.proofs.Common.{ap, arith, inl, inr, sym, ◌∙◌}
use Rattle.std.proofs.lemmas.Bool.{cases_eq, cases_lt, true_from_ne_false}
use Rattle.std.proofs.lemmas.Bool.Decides.{nat_tests}
use Rattle.bk_tiling.proofs.Cells.{covers_from}
use Rattle.bk_tiling.proofs.Places.{later_place}
use Rattle.bk_tiling.specs.CodeOrder.{comes_before}
use Rattle.bk_tiling.specs.Tiling.{IsTiling, IsWithin, Rectangle, Tiling, covers, whole}
use Rattle.bk_tiling.specs.declared.Square.{Square}
use Rattle.bk_simple.proofs.Repeats.{IsTwice, twice_from_count}
use Rattle.bk_simple.specs.Border.{is_inside}
use Rattle.bk_simple.specs.Simple.{IsPart, bottom_right, top_left}
use Rattle.bk_simple.specs.CornerSquares.{IsBetween}
use Rattle.bk_simple.proofs.UncutParts.{inside_means, no_two_squares_over_a_cell, square_at_a_place_has_a_side, within_at}
use Rattle.bk_simple.proofs.PartCorners.{covers_first}
use Rattle.bk_simple.proofs.Parts.{between_corners, bottom_right_below, count_of_part, no_square_across_part, top_left_below}

module _ (t : Tiling) (r : Rectangle) (tiling : IsTiling t) (part : IsPart t r) where
  abbrev none : Square
  none = record { x = 0; y = 0; s = 0 }

  abbrev at : ℕ → Square
  at k = get_or t.squares k none

  -- the square at the bottom right corner doesn't stand before that at the top left one
  pub corners_in_order : top_left t r ≤ bottom_right t r
  corners_in_order = cases (cases_lt (top_left t r) (bottom_right t r))
    where
      p : Square
      p = at (top_left t r)

      q : Square
      q = at (bottom_right t r)

      corners : IsBetween p q r
      corners = between_corners t r tiling part none

      inside : is_inside r q ≡ true
      inside = true_from_ne_false (is_inside r q) (λ cut. no_square_across_part t r tiling part (bottom_right t r) none
          (bottom_right_below t r tiling part) cut (record {
            left = omega (arith, corners.right, corners.wide);
            right = omega (arith, corners.right, square_at_a_place_has_a_side t tiling (bottom_right t r) none (bottom_right_below t r tiling part));
            top = omega (arith, corners.bottom, corners.high);
            bottom = omega (arith, corners.bottom, square_at_a_place_has_a_side t tiling (bottom_right t r) none (bottom_right_below t r tiling part));
          }))

      not_before : comes_before q p ≡ true → ⊥
      not_before e = let within = inside_means r q inside in grind (arith, nat_tests, e, within.left, within.top, corners.left, corners.top)

      cases : (top_left t r < bottom_right t r) ⊎ (bottom_right t r ≤ top_left t r) → top_left t r ≤ bottom_right t r
      cases (inl up) = omega arith
      cases (inr down) = equal_or (cases_eq (bottom_right t r) (top_left t r))
        where
          equal_or : (bottom_right t r ≡ top_left t r) ⊎ (bottom_right t r ≡ top_left t r → ⊥) → top_left t r ≤ bottom_right t r
          equal_or (inl same) = omega (arith, same)
          equal_or (inr other) = absurd (not_before (later_place t.squares tiling.ordered (bottom_right t r) (top_left t r) none
              (omega (arith, down, other)) (top_left_below t r tiling part)))

  -- the square at the top left corner of a part stands before that at the bottom right one: a square that is both would be the part, and hold two squares
  pub corners_apart : top_left t r < bottom_right t r
  corners_apart = cases (cases_eq (top_left t r) (bottom_right t r))
    where
      q : Square
      q = at (top_left t r)

      twice : IsTwice (is_inside r) t.squares none
      twice = twice_from_count (is_inside r) t.squares none (omega (arith, count_of_part t r tiling part, part.several))

      alone : (k : ℕ) → k < length t.squares → is_inside r (at k) ≡ true → top_left t r ≡ bottom_right t r → (k ≡ top_left t r → ⊥) → ⊥
      alone k below inside same other = two (cases_lt k (top_left t r))
        where
          corners : IsBetween q (at (bottom_right t r)) r
          corners = between_corners t r tiling part none

          width_is : r.x + r.width ≡ q.x + q.s
          width_is = corners.right ∙ ap (λ n. (at n).x + (at n).s) (sym same)

          height_is : r.y + r.height ≡ q.y + q.s
          height_is = corners.bottom ∙ ap (λ n. (at n).y + (at n).s) (sym same)

          within : IsWithin r (at k)
          within = inside_means r (at k) inside

          side : 0 < (at k).s
          side = square_at_a_place_has_a_side t tiling k none below

          own : covers (at k).x (at k).y (at k) ≡ true
          own = covers_first (at k) (at k).x (at k).y side refl refl

          over : covers (at k).x (at k).y q ≡ true
          over = covers_from (at k).x (at k).y q (omega (arith, corners.left, within.left)) (omega (arith, width_is, within.right, side))
              (omega (arith, corners.top, within.top)) (omega (arith, height_is, within.bottom, side))

          bounds : IsWithin (whole t) (at k)
          bounds = within_at t tiling k none below

          two : (k < top_left t r) ⊎ (top_left t r ≤ k) → ⊥
          two (inl before) = no_two_squares_over_a_cell t tiling (at k).x (at k).y k (top_left t r) none (omega (arith, bounds.right, side))
              (omega (arith, bounds.bottom, side)) before (top_left_below t r tiling part) own over
          two (inr behind) = no_two_squares_over_a_cell t tiling (at k).x (at k).y (top_left t r) k none (omega (arith, bounds.right, side))
              (omega (arith, bounds.bottom, side)) (omega (arith, behind, other)) below over own

      cases : (top_left t r ≡ bottom_right t r) ⊎ (top_left t r ≡ bottom_right t r → ⊥) → top_left t r < bottom_right t r
      cases (inl same) = absurd (one_of (cases_eq twice.first (top_left t r)))
        where
          one_of : (twice.first ≡ top_left t r) ⊎ (twice.first ≡ top_left t r → ⊥) → ⊥
          one_of (inl first) = alone twice.second twice.below twice.other same (λ e. omega (arith, twice.apart, first, e))
          one_of (inr other) = alone twice.first (omega (arith, twice.apart, twice.below)) twice.one same other
      cases (inr other) = let low : top_left t r ≤ bottom_right t r = corners_in_order in omega (arith, low, other)
