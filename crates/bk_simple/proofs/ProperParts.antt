-- Where a perfect tiling has a part, it has one that is wider and higher than the square at its top left corner.
use Rattle.std.specs.Prelude.{Bool, List, [], cond, count_by, false, get_or, length, suc, true, zero, ℕ, ◌+◌, ◌-◌, ◌<◌, ◌∷◌, ◌≡◌, ◌≢◌, ◌≤◌, ◌||◌, ◌⊎◌}
use Rattle.std.proofs.Common.{ap, arith, inl, inr, subst, sym}
use Rattle.std.proofs.lemmas.Bool.{cases_eq, cases_lt, false_from_ne_true, le-leb, or_cases, or_left, or_right, true_from_ne_false}
use Rattle.std.proofs.lemmas.List.Sums.{AllPass-from_list_all, count_by-le-length, list_all-from_AllPass, sum_by-cons}
use Rattle.std.proofs.lemmas.List.{get_or_default}
use Rattle.bk_laws.proofs.Counts.{count_two}
use Rattle.bk_tiling.proofs.Cells.{covers_from, over_from, IsOver}
use Rattle.bk_tiling.specs.Tiling.{IsTiling, IsWithin, Rectangle, Tiling, covers}
use Rattle.bk_tiling.specs.declared.Square.{Square}
use Rattle.bk_simple.specs.Border.{IsUncut, is_inside, is_outside}
use Rattle.bk_simple.specs.Simple.{IsPart, IsPerfect, IsSimple, bottom_right, top_left}
use Rattle.bk_simple.specs.LargeParts.{HasNoLargePart}
use Rattle.bk_simple.proofs.CornerOrder.{corners_apart}
use Rattle.bk_simple.proofs.PartCorners.{covers_first}
use Rattle.bk_simple.proofs.Parts.{between_corners, bottom_right_below, no_square_across_part, top_left_below, uncut_part}
use Rattle.bk_simple.proofs.UncutParts.{IsAt, Meets, inside_from, inside_means, no_two_squares_over_a_cell, outside_means, part_from_count}
use Rattle.bk_simple.proofs.UncutParts.{square_at_a_place_has_a_side, square_over, within_at}

-- not all are counted where one isn't
pub counts_not_all : (p : Square → Bool) (squares : List Square) (k : ℕ) (d : Square) → k < length squares → p (get_or squares k d) ≡ false
    → count_by p squares < length squares
counts_not_all p [] k d few e = absurd (omega arith)
counts_not_all p (q ∷ squares) zero d few e =
    let here : ◌≡◌ {A = ℕ} (cond (p q) 1 0) 0 = ap (λ b. cond {A = ℕ} b 1 0) e in
    omega (arith, here, sum_by-cons (λ y. cond {A = ℕ} (p y) 1 0) q squares, count_by-le-length p squares)
counts_not_all p (q ∷ squares) (suc k) d few e = omega (
  arith,
  at_most_one (p q),
  sum_by-cons (λ y. cond {A = ℕ} (p y) 1 0) q squares,
  counts_not_all p squares k d (omega (arith, few)) e,
)
  where
    at_most_one : (b : Bool) → cond {A = ℕ} b 1 0 ≤ 1
    at_most_one true = omega arith
    at_most_one false = omega arith

module _ (t : Tiling) (tiling : IsTiling t) where
  abbrev none : Square
  none = record { x = 0; y = 0; s = 0 }

  abbrev at : ℕ → Square
  at k = get_or t.squares k none

  -- a square of a tiling that meets a part lies in it
  pub lies_within : (r : Rectangle) → IsPart t r → (k : ℕ) → k < length t.squares → Meets r (at k) → IsWithin r (at k)
  lies_within r part k few meets =
      inside_means r (at k) (true_from_ne_false (is_inside r (at k)) (λ cut. no_square_across_part t r tiling part k none few cut meets))

  -- a square over a cell of a part lies in it
  pub over_within : (r : Rectangle) → IsPart t r → (c j k : ℕ) → k < length t.squares → covers c j (at k) ≡ true
      → r.x ≤ c → c < r.x + r.width → r.y ≤ j → j < r.y + r.height → IsWithin r (at k)
  over_within r part c j k few over left right top bottom =
      let o : IsOver c j (at k) = over_from c j (at k) over in
      lies_within r part k few (record {
        left = omega (arith, o.right, left);
        right = omega (arith, o.left, right);
        top = omega (arith, o.bottom, top);
        bottom = omega (arith, o.top, bottom);
      })

  -- the bounds of a part
  pub record IsBounded (r : Rectangle) : Type 0 where
    pub right : r.x + r.width ≤ t.width
    pub bottom : r.y + r.height ≤ t.height
    pub wide : 0 < r.width
    pub high : 0 < r.height

  -- a part lies within the rectangle and has a cell
  pub part_is_bounded : (r : Rectangle) → IsPart t r → IsBounded r
  part_is_bounded r part =
      let c = between_corners t r tiling part none in
      let last = within_at t tiling (bottom_right t r) none (bottom_right_below t r tiling part) in
      record { right = omega (arith, c.right, last.right); bottom = omega (arith, c.bottom, last.bottom); wide = c.wide; high = c.high }

  -- the square at the top left corner of a part
  pub record IsCorner (r : Rectangle) : Type 0 where
    pub below : top_left t r < length t.squares
    pub left : r.x ≡ (at (top_left t r)).x
    pub top : r.y ≡ (at (top_left t r)).y
    pub within : IsWithin r (at (top_left t r))
    pub side : 0 < (at (top_left t r)).s

  -- the square at the top left of a part begins at its corner and lies in it
  pub part_has_corner : (r : Rectangle) → IsPart t r → IsCorner r
  part_has_corner r part =
      let c = between_corners t r tiling part none in
      let b = part_is_bounded r part in
      let few = top_left_below t r tiling part in
      let s = square_at_a_place_has_a_side t tiling (top_left t r) none few in
      record {
        below = few;
        left = c.left;
        top = c.top;
        within = over_within r part r.x r.y (top_left t r) few (covers_first (at (top_left t r)) r.x r.y s c.left c.top)
            (omega arith) (omega (arith, b.wide)) (omega arith) (omega (arith, b.high));
        side = s;
      }

  -- the part without the square at its top left corner is a part, where that one has its whole width or its whole height
  record Rests (r u : Rectangle) : Type 0 where
    pub left : r.x ≤ u.x
    pub top : r.y ≤ u.y
    pub right : u.x + u.width ≤ r.x + r.width
    pub bottom : u.y + u.height ≤ r.y + r.height
    pub wide : 0 < u.width
    pub high : 0 < u.height
    -- the square lies outside, and what else lies in the part lies inside
    pub apart : is_outside u (at (top_left t r)) ≡ true
    pub others : (k : ℕ) → k < length t.squares → (k ≡ top_left t r → ⊥) → IsWithin r (at k) → is_inside u (at k) ≡ true

  -- what ends before a rectangle or begins behind it is outside
  outside_from : (u : Rectangle) (q : Square)
      → ((q.x + q.s ≤ u.x) ⊎ (u.x + u.width ≤ q.x)) ⊎ ((q.y + q.s ≤ u.y) ⊎ (u.y + u.height ≤ q.y)) → is_outside u q ≡ true
  outside_from u q (inl (inl h)) = or_left _ _ (or_left _ _ (le-leb _ _ h))
  outside_from u q (inl (inr h)) = or_left _ _ (or_right _ _ (le-leb _ _ h))
  outside_from u q (inr (inl h)) = or_right _ _ (or_left _ _ (le-leb _ _ h))
  outside_from u q (inr (inr h)) = or_right _ _ (or_right _ _ (le-leb _ _ h))

  -- what is outside of a part is outside of a rectangle in it
  outside_rest : (r u : Rectangle) → Rests r u → (q : Square)
      → ((q.x + q.s ≤ r.x) ⊎ (r.x + r.width ≤ q.x)) ⊎ ((q.y + q.s ≤ r.y) ⊎ (r.y + r.height ≤ q.y)) → is_outside u q ≡ true
  outside_rest r u rests q (inl (inl h)) = outside_from u q (inl (inl (omega (arith, h, rests.left))))
  outside_rest r u rests q (inl (inr h)) = outside_from u q (inl (inr (omega (arith, h, rests.right))))
  outside_rest r u rests q (inr (inl h)) = outside_from u q (inr (inl (omega (arith, h, rests.top))))
  outside_rest r u rests q (inr (inr h)) = outside_from u q (inr (inr (omega (arith, h, rests.bottom))))

  rest_uncut : (r u : Rectangle) → IsPart t r → Rests r u → IsUncut u t.squares
  rest_uncut r u part rests = list_all-from_AllPass (λ q. is_inside u q || is_outside u q) t.squares (λ k d few.
      subst (λ (q : Square). is_inside u q || is_outside u q ≡ true) (get_or_default t.squares k none d few)
      (each k few (cases_eq k (top_left t r)) (or_cases _ _ (AllPass-from_list_all (λ q. is_inside r q || is_outside r q) t.squares
      (uncut_part t r tiling part) k none few))))
    where
      each : (k : ℕ) → k < length t.squares → (k ≡ top_left t r) ⊎ (k ≡ top_left t r → ⊥)
          → (is_inside r (at k) ≡ true) ⊎ (is_outside r (at k) ≡ true) → is_inside u (at k) || is_outside u (at k) ≡ true
      each k few (inl e) either = or_right _ _ (subst (λ (j : ℕ). is_outside u (at j) ≡ true) (sym e) rests.apart)
      each k few (inr e) (inl h) = or_left _ _ (rests.others k few e (inside_means r (at k) h))
      each k few (inr e) (inr h) = or_right _ _ (outside_rest r u rests (at k) (outside_means r (at k) h))

  -- the square that is left out isn't inside
  first_not_inside : (r u : Rectangle) → IsPart t r → Rests r u → is_inside u (at (top_left t r)) ≡ false
  first_not_inside r u part rests = false_from_ne_true _ (λ e. apart (inside_means u (at (top_left t r)) e) (outside_means u (at (top_left t r)) rests.apart))
    where
      c : IsCorner r
      c = part_has_corner r part

      apart : IsWithin u (at (top_left t r)) → (((at (top_left t r)).x + (at (top_left t r)).s ≤ u.x) ⊎ (u.x + u.width ≤ (at (top_left t r)).x))
          ⊎ (((at (top_left t r)).y + (at (top_left t r)).s ≤ u.y) ⊎ (u.y + u.height ≤ (at (top_left t r)).y)) → ⊥
      apart w (inl (inl h)) = omega (arith, w.left, c.side, h)
      apart w (inl (inr h)) = omega (arith, w.right, c.side, h)
      apart w (inr (inl h)) = omega (arith, w.top, c.side, h)
      apart w (inr (inr h)) = omega (arith, w.bottom, c.side, h)

  rest_is_part : (r u : Rectangle) → IsPart t r → Rests r u → (k l : ℕ) → (k ≡ l → ⊥) → k < length t.squares → l < length t.squares
      → is_inside u (at k) ≡ true → is_inside u (at l) ≡ true → IsPart t u
  rest_is_part r u part rests k l apart few low one other =
      part_from_count t tiling u (omega (arith, b.right, rests.right)) (omega (arith, b.bottom, rests.bottom)) (rest_uncut r u part rests)
      (several (cases_lt k l))
      (counts_not_all (is_inside u) t.squares (top_left t r) none (part_has_corner r part).below (first_not_inside r u part rests))
    where
      b : IsBounded r
      b = part_is_bounded r part

      several : (k < l) ⊎ (l ≤ k) → 2 ≤ count_by (is_inside u) t.squares
      several (inl h) = count_two (is_inside u) t.squares k l none h low one other
      several (inr h) = count_two (is_inside u) t.squares l k none (omega (arith, apart, h)) few other one

  -- two squares over one cell are one
  same_cell : (c j k l : ℕ) → c < t.width → j < t.height → k < length t.squares → l < length t.squares → (k ≡ l → ⊥)
      → covers c j (at k) ≡ true → covers c j (at l) ≡ true → ⊥
  same_cell c j k l wide high few low apart one other = cases (cases_lt k l)
    where
      cases : (k < l) ⊎ (l ≤ k) → ⊥
      cases (inl h) = no_two_squares_over_a_cell t tiling c j k l none wide high h low one other
      cases (inr h) = no_two_squares_over_a_cell t tiling c j l k none wide high (omega (arith, h, apart)) few other one

  -- the sides of two squares of a perfect tiling differ
  sides_differ : IsPerfect t → (k l : ℕ) → k < length t.squares → l < length t.squares → (k ≡ l → ⊥) → (at k).s ≡ (at l).s → ⊥
  sides_differ perfect k l few low apart same = cases (cases_lt k l)
    where
      cases : (k < l) ⊎ (l ≤ k) → ⊥
      cases (inl h) = perfect k l none h low same
      cases (inr h) = perfect l k none (omega (arith, h, apart)) few (sym same)

  module _ (perfect : IsPerfect t) (r : Rectangle) (part : IsPart t r) where
    abbrev p : Square
    p = at (top_left t r)

    own : IsCorner r
    own = part_has_corner r part

    b : IsBounded r
    b = part_is_bounded r part

    -- another square of the part shares no cell with the first
    apart_from : (k : ℕ) → k < length t.squares → (k ≡ top_left t r → ⊥) → IsWithin r (at k) → (at k).x < p.x + p.s → (at k).y < p.y + p.s → ⊥
    apart_from k few other w left high =
        let side = square_at_a_place_has_a_side t tiling k none few in
        same_cell (at k).x (at k).y k (top_left t r) (omega (arith, w.right, side, b.right)) (omega (arith, w.bottom, side, b.bottom)) few own.below other
        (covers_from (at k).x (at k).y (at k) (omega arith) (omega (arith, side)) (omega arith) (omega (arith, side)))
        (covers_from (at k).x (at k).y p (omega (arith, own.left, w.left)) left (omega (arith, own.top, w.top)) high)

    -- the first isn't as wide and as high
    not_whole : p.s ≡ r.width → p.s ≡ r.height → ⊥
    not_whole wide high =
        let last : ℕ = bottom_right t r in
        let low : last < length t.squares = bottom_right_below t r tiling part in
        let c = between_corners t r tiling part none in
        let side = square_at_a_place_has_a_side t tiling last none low in
        let w : IsWithin r (at last) = lies_within r part last low (record {
          left = omega (arith, c.right, c.wide);
          right = omega (arith, c.right, side);
          top = omega (arith, c.bottom, c.high);
          bottom = omega (arith, c.bottom, side);
        }) in
        apart_from last low (λ e. omega (arith, e, corners_apart t r tiling part)) w
        (omega (arith, w.right, side, own.left, wide)) (omega (arith, w.bottom, side, own.top, high))

    -- a square of the part over a cell that the first one isn't over
    record IsOther (c j : ℕ) : Type 0 where
      pub place : ℕ
      pub below : place < length t.squares
      pub over : IsOver c j (at place)
      pub within : IsWithin r (at place)
      pub apart : place ≡ top_left t r → ⊥

    other_over : (c j : ℕ) → r.x ≤ c → c < r.x + r.width → r.y ≤ j → j < r.y + r.height → (p.x + p.s ≤ c) ⊎ (p.y + p.s ≤ j) → IsOther c j
    other_over c j left right top bottom past =
        let found : IsAt t tiling none c j = square_over t tiling none c j (omega (arith, right, b.right)) (omega (arith, bottom, b.bottom)) in
        let over : IsOver c j (at found.place) = over_from c j (at found.place) found.over in
        record {
          place = found.place;
          below = found.below;
          over = over;
          within = over_within r part c j found.place found.below found.over left right top bottom;
          apart = λ e. not_over (subst (λ (k : ℕ). IsOver c j (at k)) e over) past;
        }
      where
        not_over : IsOver c j p → (p.x + p.s ≤ c) ⊎ (p.y + p.s ≤ j) → ⊥
        not_over o (inl h) = omega (arith, o.right, h)
        not_over o (inr h) = omega (arith, o.bottom, h)

    -- what is left without the first is a part, where two cells of it aren't of one square
    two_squares_left : (u : Rectangle) → Rests r u → (c j d k : ℕ) (first : IsOther c j) (last : IsOther d k)
        → (IsOver d k (at first.place) → (at first.place).s ≢ p.s → ⊥) → IsPart t u
    two_squares_left u rests c j d k first last not_one =
        rest_is_part r u part rests first.place last.place two first.below last.below (rests.others first.place first.below first.apart first.within)
        (rests.others last.place last.below last.apart last.within)
      where
        two : first.place ≡ last.place → ⊥
        two e = not_one (subst (λ (i : ℕ). IsOver d k (at i)) (sym e) last.over)
            (sides_differ perfect first.place (top_left t r) first.below own.below first.apart)

    -- where it is as wide, the rest below it is a part
    abbrev under : Rectangle
    under = record { x = r.x; y = r.y + p.s; width = r.width; height = r.height - p.s }

    under_rests : p.s ≡ r.width → p.s < r.height → Rests r under
    under_rests wide high = record {
      left = omega arith;
      top = omega arith;
      right = omega arith;
      bottom = omega (arith, high);
      wide = b.wide;
      high = omega (arith, high);
      apart = outside_from under p (inr (inl (omega (arith, own.top))));
      others = λ k few other w. inside_from under (at k) (record {
        left = w.left;
        right = w.right;
        top = elim (cases_lt (at k).y (r.y + p.s)) [
          | inl h ↦ absurd (apart_from k few other w
              (omega (arith, w.right, square_at_a_place_has_a_side t tiling k none few, own.left, wide)) (omega (arith, h, own.top)))
          | inr h ↦ h
        ];
        bottom = omega (arith, w.bottom, high);
      });
    }

    under_is_part : p.s ≡ r.width → p.s < r.height → IsPart t under
    under_is_part wide high =
        let first : IsOther r.x (r.y + p.s) = other_over r.x (r.y + p.s) (omega arith) (omega (arith, b.wide)) (omega arith) (omega (arith, high))
        (inr (omega (arith, own.top))) in
        let last : IsOther (r.x + r.width - 1) (r.y + p.s) = other_over (r.x + r.width - 1) (r.y + p.s) (omega (arith, b.wide)) (omega (arith, b.wide))
        (omega arith) (omega (arith, high)) (inr (omega (arith, own.top))) in
        two_squares_left under (under_rests wide high) _ _ _ _ first last
        (λ o shorter. omega (arith, o.right, first.over.left, first.within.left, first.within.right, shorter, wide, b.wide))

    -- where it is as high, the rest beside it is a part
    abbrev beside : Rectangle
    beside = record { x = r.x + p.s; y = r.y; width = r.width - p.s; height = r.height }

    beside_rests : p.s ≡ r.height → p.s < r.width → Rests r beside
    beside_rests high wide = record {
      left = omega arith;
      top = omega arith;
      right = omega (arith, wide);
      bottom = omega arith;
      wide = omega (arith, wide);
      high = b.high;
      apart = outside_from beside p (inl (inl (omega (arith, own.left))));
      others = λ k few other w. inside_from beside (at k) (record {
        left = elim (cases_lt (at k).x (r.x + p.s)) [
          | inl h ↦ absurd (apart_from k few other w
              (omega (arith, h, own.left)) (omega (arith, w.bottom, square_at_a_place_has_a_side t tiling k none few, own.top, high)))
          | inr h ↦ h
        ];
        right = omega (arith, w.right, wide);
        top = w.top;
        bottom = w.bottom;
      });
    }

    beside_is_part : p.s ≡ r.height → p.s < r.width → IsPart t beside
    beside_is_part high wide =
        let first : IsOther (r.x + p.s) r.y = other_over (r.x + p.s) r.y (omega arith) (omega (arith, wide)) (omega arith) (omega (arith, b.high))
        (inl (omega (arith, own.left))) in
        let last : IsOther (r.x + p.s) (r.y + r.height - 1) = other_over (r.x + p.s) (r.y + r.height - 1) (omega arith) (omega (arith, wide))
        (omega (arith, b.high)) (omega (arith, b.high)) (inl (omega (arith, own.left))) in
        two_squares_left beside (beside_rests high wide) _ _ _ _ first last
        (λ o shorter. omega (arith, o.bottom, first.over.top, first.within.top, first.within.bottom, shorter, high, b.high))

    -- so where no part is larger than its first square both ways, there is a lesser part
    lesser : HasNoLargePart t → (n : ℕ) → r.width + r.height < n + 1 → ((u : Rectangle) → IsPart t u → u.width + u.height < n → ⊥) → ⊥
    lesser no_large n small none_less = cases (cases_lt p.s r.width) (cases_lt p.s r.height)
      where
        across : p.s ≤ r.width
        across = omega (arith, own.within.right, own.left)

        down : p.s ≤ r.height
        down = omega (arith, own.within.bottom, own.top)

        cases : (p.s < r.width) ⊎ (r.width ≤ p.s) → (p.s < r.height) ⊎ (r.height ≤ p.s) → ⊥
        cases (inl wide) (inl high) = no_large r part wide high
        cases (inl wide) (inr high) = none_less beside (beside_is_part (omega (arith, high, down)) wide) (omega (arith, small, wide, own.side))
        cases (inr wide) (inl high) = none_less under (under_is_part (omega (arith, wide, across)) high) (omega (arith, small, high, own.side))
        cases (inr wide) (inr high) = not_whole (omega (arith, wide, across)) (omega (arith, high, down))

  none_below : IsPerfect t → HasNoLargePart t → (n : ℕ) → (r : Rectangle) → IsPart t r → r.width + r.height < n → ⊥
  none_below perfect no_large zero r part small = omega (arith, small)
  none_below perfect no_large (suc n) r part small = lesser perfect r part no_large n (omega (arith, small)) (none_below perfect no_large n)

  -- a perfect tiling with no large part is simple
  pub simple_from_no_large : IsPerfect t → HasNoLargePart t → IsSimple t
  simple_from_no_large perfect no_large (r, part) = none_below perfect no_large (r.width + r.height + 1) r part (omega arith)
