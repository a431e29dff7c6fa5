-- What the trial of one pair of squares shows, and how the trials lead from pair to pair to the first part.
use Rattle.std.specs.Prelude.{count_by, get_or, length, ℕ, ◌+◌, ◌<◌}
use Rattle.std.specs.Prelude.{◌≡◌, ◌≢◌, ◌≤◌, ◌⊎◌}
use Rattle.std.proofs.Common.{arith, inl, inr, subst}
use Rattle.std.proofs.lemmas.Bool.{cases_eq, true_from_ne_false}
use Rattle.bk_tiling.specs.Tiling.{IsTiling, IsWithin, Rectangle, Tiling, order}
use Rattle.bk_tiling.specs.declared.Square.{Square}
use Rattle.bk_simple.specs.Border.{IsUncut, is_inside}
use Rattle.bk_simple.specs.Simple.{IsFirstPart, IsPart, IsSimple, bottom_right, top_left}
use Rattle.bk_simple.specs.CornerSquares.{IsBetween, IsFirstPartFrom, IsHeldBetween, IsPartAt}
use Rattle.bk_simple.specs.Reach.{NoneWider}
use Rattle.bk_simple.proofs.Parts.{between_corners, bottom_right_below, count_of_part, no_square_across_part, top_left_below, uncut_part}
use Rattle.bk_simple.proofs.PartCorners.{between-one, bottom_right_at, top_left_at}
use Rattle.bk_simple.proofs.UncutParts.{inside_means, part_from_count, square_at_a_place_has_a_side, within_at}
use Rattle.bk_simple.proofs.CornerOrder.{corners_apart}

-- what the trial of one pair of squares shows
module _ (t : Tiling) (tiling : IsTiling t) (i j : ℕ) (d : Square) where
  corners_at : (r : Rectangle) → IsPartAt t i j r → IsBetween (get_or t.squares i d) (get_or t.squares j d) r
  corners_at r p =
      subst (λ k. IsBetween (get_or t.squares k d) (get_or t.squares j d) r) p.first
      (subst (λ k. IsBetween (get_or t.squares (top_left t r) d) (get_or t.squares k d) r) p.last (between_corners t r tiling p.part d))

  -- a part with the two squares at its corners holds both, and goes past no column that none without a cut square goes past
  held_at : (right : ℕ) → NoneWider t.squares (get_or t.squares i d) t.width right → (r : Rectangle) → IsPartAt t i j r
      → i < length t.squares → j < length t.squares
      → IsHeldBetween (get_or t.squares i d) (get_or t.squares j d) right r
  held_at right wider r p first last = record {
    corners = c;
    first_column = omega (arith, c.left, holds_last.left);
    first_level = omega (arith, c.top, holds_last.top);
    last_column = omega (arith, c.right, holds_first.right);
    last_level = omega (arith, c.bottom, holds_first.bottom);
    narrow = omega (arith, c.right, wider r c.left c.top uncut (omega (arith, c.right, (within_at t tiling j d last).right)));
  }
    where
      c : IsBetween (get_or t.squares i d) (get_or t.squares j d) r
      c = corners_at r p

      uncut : IsUncut r t.squares
      uncut = uncut_part t r tiling p.part

      holds_first : IsWithin r (get_or t.squares i d)
      holds_first =
          let side = square_at_a_place_has_a_side t tiling i d first in
          inside_means r (get_or t.squares i d) (true_from_ne_false (is_inside r (get_or t.squares i d))
          (λ cut. no_square_across_part t r tiling p.part i d first cut (record {
            left = omega (arith, c.left, side);
            right = omega (arith, c.left, c.wide);
            top = omega (arith, c.top, side);
            bottom = omega (arith, c.top, c.high);
          })))

      holds_last : IsWithin r (get_or t.squares j d)
      holds_last =
          let side = square_at_a_place_has_a_side t tiling j d last in
          inside_means r (get_or t.squares j d) (true_from_ne_false (is_inside r (get_or t.squares j d))
          (λ cut. no_square_across_part t r tiling p.part j d last cut (record {
            left = omega (arith, c.right, c.wide);
            right = omega (arith, c.right, side);
            top = omega (arith, c.bottom, c.high);
            bottom = omega (arith, c.bottom, side);
          })))

  -- where no rectangle that holds both squares lies between them, no part has them at its corners
  pub no_part_with_corners_where_none_is_between : (right : ℕ) → NoneWider t.squares (get_or t.squares i d) t.width right
      → i < length t.squares → j < length t.squares
      → ((r : Rectangle) → ¬ (IsHeldBetween (get_or t.squares i d) (get_or t.squares j d) right r)) → (r : Rectangle) → ¬ (IsPartAt t i j r)
  no_part_with_corners_where_none_is_between right wider first last nowhere r p = nowhere r (held_at right wider r p first last)

  module _ (tried : Rectangle) (h : IsBetween (get_or t.squares i d) (get_or t.squares j d) tried) where
    tried_part : (r : Rectangle) → IsPartAt t i j r → IsPart t tried
    tried_part r p = subst (IsPart t) (between-one (get_or t.squares i d) (get_or t.squares j d) r tried (corners_at r p) h) p.part

    -- where a square lies across the border of the rectangle that holds two squares, no part has them at its corners
    pub none_cut : ¬ (IsUncut tried t.squares) → (r : Rectangle) → ¬ (IsPartAt t i j r)
    none_cut cut r p = cut (uncut_part t tried tiling (tried_part r p))

    -- where fewer than two squares lie in the rectangle that holds two squares, no part has them at its corners
    pub none_single : count_by (is_inside tried) t.squares < 2 → (r : Rectangle) → ¬ (IsPartAt t i j r)
    none_single few r p = let part = tried_part r p in omega (arith, part.several, count_of_part t tried tiling part)

    -- where all squares lie in the rectangle that holds two squares, no part has them at its corners
    pub none_whole : order t ≤ count_by (is_inside tried) t.squares → (r : Rectangle) → ¬ (IsPartAt t i j r)
    none_whole all r p = let part = tried_part r p in omega (arith, part.not_all, count_of_part t tried tiling part)

    -- where no square is cut, and several squares but not all lie in the rectangle that holds two squares, it is a part with these corners
    pub part_at_from : i < length t.squares → j < length t.squares → IsUncut tried t.squares
        → 2 ≤ count_by (is_inside tried) t.squares → count_by (is_inside tried) t.squares < order t → IsPartAt t i j tried
    part_at_from first last uncut several not_all =
        let p = within_at t tiling i d first in
        let q = within_at t tiling j d last in
        record {
          part = part_from_count t tiling tried (omega (arith, h.right, q.right)) (omega (arith, h.bottom, q.bottom)) uncut several not_all;
          first = top_left_at t tiling i d (get_or t.squares j d) tried first h;
          last = bottom_right_at t tiling j d (get_or t.squares i d) tried last h;
        }

-- from one bottom right square to the next, and from one top left square to the next
module _ (t : Tiling) (i : ℕ) where
  -- no part that begins with square i ends before square j
  abbrev pub NoneBelow : ℕ → Type 0
  NoneBelow j = (r : Rectangle) → IsPart t r → top_left t r ≡ i → j ≤ bottom_right t r

  -- each bottom right square stands behind the top left one
  pub none_below_start : IsTiling t → NoneBelow (i + 1)
  none_below_start tiling r part first = omega (arith, first, corners_apart t r tiling part)

  -- where none ends with square j either, none ends before the next one
  pub none_below_more : (j : ℕ) → NoneBelow j → ((r : Rectangle) → ¬ (IsPartAt t i j r)) → NoneBelow (j + 1)
  none_below_more j below here r part first =
      let low : j ≤ bottom_right t r = below r part first in
      let other : bottom_right t r ≢ j = λ e. here r (record { part = part; first = first; last = e }) in
      omega arith

  -- where one ends with square j, it is the first that begins with square i
  pub first_from : (j : ℕ) (r : Rectangle) → NoneBelow j → IsPartAt t i j r → IsFirstPartFrom t i r
  first_from j r below p = record {
    part = p.part;
    first = p.first;
    earliest = λ other part first. let low : j ≤ bottom_right t other = below other part first in omega (arith, p.last);
  }

  -- where none ends at all, none begins with square i
  pub no_part_begins_where_none_ends : IsTiling t → NoneBelow (order t) → (r : Rectangle) → IsPart t r → top_left t r ≢ i
  no_part_begins_where_none_ends tiling below r part first = let low : order t ≤ bottom_right t r = below r part first in
      omega (arith, bottom_right_below t r tiling part)

module _ (t : Tiling) where
  -- no part begins before square i
  abbrev pub NoneBefore : ℕ → Type 0
  NoneBefore i = (r : Rectangle) → IsPart t r → i ≤ top_left t r

  -- where none begins with square i either, none begins before the next one
  pub none_before_more : (i : ℕ) → NoneBefore i → ((r : Rectangle) → IsPart t r → top_left t r ≢ i) → NoneBefore (i + 1)
  none_before_more i before here r part =
      let low : i ≤ top_left t r = before r part in
      let other : top_left t r ≢ i = here r part in
      omega arith

  -- the first that begins with square i is the first of all
  pub first_of_all : (i : ℕ) (r : Rectangle) → NoneBefore i → IsFirstPartFrom t i r → IsFirstPart t r
  first_of_all i r before p = record { part = p.part; first = λ other part. compare other part (cases_eq (top_left t other) i) }
    where
      compare : (other : Rectangle) → IsPart t other → (top_left t other ≡ i) ⊎ (top_left t other ≡ i → ⊥)
          → (top_left t r < top_left t other) ⊎ ((top_left t r ≡ top_left t other) × (bottom_right t r ≤ bottom_right t other))
      compare other part (inl e) = inr (omega (arith, p.first, e), p.earliest other part e)
      compare other part (inr e) = let low : i ≤ top_left t other = before other part in inl (omega (arith, p.first, e))

  -- a tiling is simple where no part begins with any square
  pub simple_from_none : IsTiling t → NoneBefore (order t) → IsSimple t
  simple_from_none tiling before (r, part) = let low : order t ≤ top_left t r = before r part in omega (arith, top_left_below t r tiling part)
