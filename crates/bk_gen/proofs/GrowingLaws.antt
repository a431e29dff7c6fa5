-- A rectangle that grows stays tiled.
use Rattle.std.specs.List.{AllByRecursion}
use Rattle.std.proofs.Common.{Bool, [], arith, cond, false, inl, inr, length, map, refl, subst, suc, sym, true, zero, zero-add, ℕ, ◌%◌, ◌+◌, ◌/◌}
use Rattle.std.proofs.Common.{◌<◌, ◌^◌, ◌∷◌, ◌≡◌, ◌≤◌, ◌⊎◌}
use Rattle.std.proofs.lemmas.Bool.{le-leb, cases_lt, lt-leb}
use Rattle.std.proofs.lemmas.List.Elements.{All-from_recursion}
use Rattle.std.proofs.lemmas.List.{length-append, length-map}
use Rattle.bk_laws.proofs.AllOfLists.{all_append}
use Rattle.bk_tiling.proofs.Cells.{all_from, in_all}
use Rattle.bk_tiling.proofs.CutRectangles.{left_part, lower_part, rectangle, right_part, split_beside, split_stacked, upper_part}
use Rattle.bk_tiling.proofs.JoinedParts.{HasCell, Splits, tiles_alone, tiles_joined}
use Rattle.bk_tiling.proofs.MovedSquares.{all_moved, moved_rectangle, tiles_moved}
use Rattle.bk_tiling.proofs.OneRefusal.{kept_from, tiles_apart, tiles_cells}
use Rattle.bk_tiling.proofs.Sizes.{most_height, most_width}
use Rattle.bk_tiling.specs.CodeOrder.{in_code_order}
use Rattle.bk_tiling.specs.KeptTiling.{IsKept, IsSide}
use Rattle.bk_tiling.specs.Refusal.{HaveSides, ShareNoCell, sized}
use Rattle.bk_tiling.specs.Scale.{moved_square}
use Rattle.bk_tiling.specs.Tiling.{IsOneOf, IsWithin, Rectangle, Tiles, Tiling}
use Rattle.bk_tiling.specs.declared.Square.{Square}
use Rattle.bk_gen.specs.Attaching.{attached, goes_up_or_down, is_odd, next_side, with_above, with_below, with_left, with_next, with_right}
use Rattle.bk_gen.specs.Growing.{IsGrowing}

-- with its squares in order it is what a `Tiling` keeps
pub kept_in_order : (t : Tiling) → IsGrowing t → IsKept (record t { squares = in_code_order t.squares })
kept_in_order t g = kept_from t.width t.height t.squares (in_code_order t.squares) g.width_fits g.height_fits g.accepted refl

-- the squares of a growing rectangle have sides that squares may have
pub growing_sides : (t : Tiling) → IsGrowing t → HaveSides t.squares
growing_sides t g = All-from_recursion (λ (q : Square). IsSide q.s) t.squares (g.accepted).sides

-- the squares of a growing rectangle share no cell
pub growing_apart : (t : Tiling) → IsGrowing t → ShareNoCell t.squares
growing_apart t g = tiles_apart t.width t.height t.squares (g.accepted).tiles

-- a growing rectangle has at most the width that a tiling of 200 squares can have
pub growing_width : (t : Tiling) → IsGrowing t → t.width ≤ 199999999999999800
growing_width t g = most_width (record t { squares = in_code_order t.squares }) (kept_in_order t g)

-- a growing rectangle has at most the height that a tiling of 200 squares can have
pub growing_height : (t : Tiling) → IsGrowing t → t.height ≤ 199999999999999800
growing_height t g = most_height (record t { squares = in_code_order t.squares }) (kept_in_order t g)

abbrev square_at : ℕ → ℕ → ℕ → Square
square_at x y s = record { x = x; y = y; s = s }

swapped : (r a b : Rectangle) → Splits r a b → Splits r b a
swapped r a b splits i j has = cases (splits i j has)
  where
    cases : (HasCell a i j × (HasCell b i j → ⊥)) ⊎ ((HasCell a i j → ⊥) × HasCell b i j)
        → (HasCell b i j × (HasCell a i j → ⊥)) ⊎ ((HasCell b i j → ⊥) × HasCell a i j)
    cases (inl (in_a, not_b)) = inr (not_b, in_a)
    cases (inr (not_a, in_b)) = inl (in_b, not_a)

module _ (t : Tiling) (g : IsGrowing t) (few : length t.squares < 200) where
  some_width : 0 < t.width
  some_width = (tiles_cells t.width t.height t.squares (g.accepted).tiles).0

  some_height : 0 < t.height
  some_height = (tiles_cells t.width t.height t.squares (g.accepted).tiles).1

  -- with a square attached at its right it grows on, where its height is a side that a square may have
  pub grows_right : t.height ≤ 999_999_999_999_999 → IsGrowing (with_right t)
  grows_right side = record {
    accepted = record {
      few = omega (arith, length-append t.squares (square_at t.width 0 t.height ∷ []));
      sides = all_append (λ q. IsSide q.s) t.squares (square_at t.width 0 t.height ∷ []) (g.accepted).sides ((some_height, side), tt);
      tiles = tiles_joined (sized (t.width + t.height) t.height) (rectangle 0 0 t.width t.height) (rectangle t.width 0 t.height t.height) t.squares
          (square_at t.width 0 t.height ∷ [])
          (left_part 0 t.width 0 (t.width + t.height) t.width t.height t.height (omega arith) refl)
          (right_part 0 t.width 0 (t.width + t.height) t.width t.height t.height (omega arith) refl)
          (split_beside 0 t.width 0 (t.width + t.height) t.width t.height t.height (omega arith) refl)
          (g.accepted).tiles (tiles_alone (square_at t.width 0 t.height) some_height);
    };
    width_fits = omega (arith, growing_width t g);
    height_fits = g.height_fits;
  }

  -- with a square attached below it a rectangle grows on, where its width is a side that a square may have
  pub grows_below : t.width ≤ 999_999_999_999_999 → IsGrowing (with_below t)
  grows_below side = record {
    accepted = record {
      few = omega (arith, length-append t.squares (square_at 0 t.height t.width ∷ []));
      sides = all_append (λ q. IsSide q.s) t.squares (square_at 0 t.height t.width ∷ []) (g.accepted).sides ((some_width, side), tt);
      tiles = tiles_joined (sized t.width (t.height + t.width)) (rectangle 0 0 t.width t.height) (rectangle 0 t.height t.width t.width) t.squares
          (square_at 0 t.height t.width ∷ [])
          (upper_part 0 0 t.height t.width (t.height + t.width) t.height t.width (omega arith) refl)
          (lower_part 0 0 t.height t.width (t.height + t.width) t.height t.width (omega arith) refl)
          (split_stacked 0 0 t.height t.width (t.height + t.width) t.height t.width (omega arith) refl)
          (g.accepted).tiles (tiles_alone (square_at 0 t.height t.width) some_width);
    };
    width_fits = g.width_fits;
    height_fits = omega (arith, growing_height t g);
  }

  sides_moved : (right down : ℕ) → AllByRecursion (λ q. IsSide q.s) (map (moved_square right down) t.squares)
  sides_moved right down = all_moved (λ q. IsSide q.s) (λ q. IsSide q.s) right down (λ q is. is) t.squares (g.accepted).sides

  moved_right : moved_rectangle t.height 0 (sized t.width t.height) ≡ rectangle t.height 0 t.width t.height
  moved_right = λ z. record { x = zero-add t.height z; y = 0; width = t.width; height = t.height }

  moved_down : moved_rectangle 0 t.width (sized t.width t.height) ≡ rectangle 0 t.width t.width t.height
  moved_down = λ z. record { x = 0; y = zero-add t.width z; width = t.width; height = t.height }

  -- with one at its left
  pub grows_left : t.height ≤ 999_999_999_999_999 → IsGrowing (with_left t)
  grows_left side = record {
    accepted = record {
      few = omega (
        arith,
        length-append (map (moved_square t.height 0) t.squares) (square_at 0 0 t.height ∷ []),
        length-map t.squares
            (moved_square t.height 0),
      );
      sides = all_append (λ q. IsSide q.s) (map (moved_square t.height 0) t.squares) (square_at 0 0 t.height ∷ []) (sides_moved t.height 0)
          ((some_height, side), tt);
      tiles = tiles_joined (sized (t.width + t.height) t.height) (rectangle t.height 0 t.width t.height) (rectangle 0 0 t.height t.height)
          (map (moved_square t.height 0) t.squares) (square_at 0 0 t.height ∷ [])
          (right_part 0 t.height 0 (t.width + t.height) t.height t.width t.height (omega arith) (omega arith))
          (left_part 0 t.height 0 (t.width + t.height) t.height t.width t.height (omega arith) (omega arith))
          (swapped (sized (t.width + t.height) t.height) (rectangle 0 0 t.height t.height) (rectangle t.height 0 t.width t.height)
          (split_beside 0 t.height 0 (t.width + t.height) t.height t.width t.height (omega arith) (omega arith)))
          (subst (λ (r : Rectangle). Tiles r (map (moved_square t.height 0) t.squares)) moved_right
          (tiles_moved t.height 0 (sized t.width t.height) t.squares (g.accepted).tiles))
          (tiles_alone (square_at 0 0 t.height) some_height);
    };
    width_fits = omega (arith, growing_width t g);
    height_fits = g.height_fits;
  }

  -- a rectangle with a square above it can grow
  pub grows_above : t.width ≤ 999_999_999_999_999 → IsGrowing (with_above t)
  grows_above side = record {
    accepted = record {
      few = omega (arith, length-append (map (moved_square 0 t.width) t.squares) (square_at 0 0 t.width ∷ []), length-map t.squares (moved_square 0 t.width));
      sides = all_append (λ q. IsSide q.s) (map (moved_square 0 t.width) t.squares) (square_at 0 0 t.width ∷ []) (sides_moved 0 t.width)
          ((some_width, side), tt);
      tiles = tiles_joined (sized t.width (t.height + t.width)) (rectangle 0 t.width t.width t.height) (rectangle 0 0 t.width t.width)
          (map (moved_square 0 t.width) t.squares) (square_at 0 0 t.width ∷ [])
          (lower_part 0 0 t.width t.width (t.height + t.width) t.width t.height (omega arith) (omega arith))
          (upper_part 0 0 t.width t.width (t.height + t.width) t.width t.height (omega arith) (omega arith))
          (swapped (sized t.width (t.height + t.width)) (rectangle 0 0 t.width t.width) (rectangle 0 t.width t.width t.height)
          (split_stacked 0 0 t.width t.width (t.height + t.width) t.width t.height (omega arith) (omega arith)))
          (subst (λ (r : Rectangle). Tiles r (map (moved_square 0 t.width) t.squares)) moved_down
          (tiles_moved 0 t.width (sized t.width t.height) t.squares (g.accepted).tiles))
          (tiles_alone (square_at 0 0 t.width) some_width);
    };
    width_fits = g.width_fits;
    height_fits = omega (arith, growing_height t g);
  }

-- squares that are moved keep within the types of the code
pub fit_moved : (right down : ℕ) (t : Tiling) → IsGrowing t → right ≤ 999_999_999_999_999 → down ≤ 999_999_999_999_999
    → AllByRecursion (λ q. (q.x + right < 2 ^ 64) × (q.y + down < 2 ^ 64)) t.squares
fit_moved right down t g few_right few_down = all_from (λ q. (q.x + right < 2 ^ 64) × (q.y + down < 2 ^ 64)) t.squares fits
  where
    fits : (q : Square) → IsOneOf q t.squares → (q.x + right < 2 ^ 64) × (q.y + down < 2 ^ 64)
    fits q h =
        let within = in_all (IsWithin (sized t.width t.height)) t.squares ((g.accepted).tiles).within q h in
        (omega (arith, within.right, growing_width t g), omega (arith, within.bottom, growing_height t g))

-- by the bits of a number
pub grows_next : (v i : ℕ) (t : Tiling) → IsGrowing t → length t.squares < 200 → next_side v i t ≤ 999_999_999_999_999 → IsGrowing (with_next v i t)
grows_next v i t g few side = cases (goes_up_or_down v i) (is_odd (v / 2 ^ (i % 64))) side
  where
    cases : (b c : Bool) → cond b t.width t.height ≤ 999_999_999_999_999
        → IsGrowing (cond b (cond c (with_above t) (with_below t)) (cond c (with_left t) (with_right t)))
    cases true true side = grows_above t g few side
    cases true false side = grows_below t g few side
    cases false true side = grows_left t g few side
    cases false false side = grows_right t g few side

-- one square more
pub next_length : (v i : ℕ) (t : Tiling) → length (with_next v i t).squares ≡ length t.squares + 1
next_length v i t = cases (goes_up_or_down v i) (is_odd (v / 2 ^ (i % 64)))
  where
    cases : (b c : Bool) → length (cond b (cond c (with_above t) (with_below t)) (cond c (with_left t) (with_right t))).squares ≡ length t.squares + 1
    cases true true = omega (
      arith,
      length-append (map (moved_square 0 t.width) t.squares) (square_at 0 0 t.width ∷ []),
      length-map t.squares
          (moved_square 0 t.width),
    )
    cases true false = omega (arith, length-append t.squares (square_at 0 t.height t.width ∷ []))
    cases false true = omega (
      arith,
      length-append (map (moved_square t.height 0) t.squares) (square_at 0 0 t.height ∷ []),
      length-map t.squares
          (moved_square t.height 0),
    )
    cases false false = omega (arith, length-append t.squares (square_at t.width 0 t.height ∷ []))

-- a rectangle can grow with as many squares as are attached step by step, up to 200
pub grows_on : (n v i : ℕ) (t : Tiling) → IsGrowing t → length t.squares + n ≤ 200 → IsGrowing (attached n v i t)
grows_on zero v i t g few = g
grows_on (suc n) v i t g few = cases (cases_lt 999_999_999_999_999 (next_side v i t))
    (λ side. grows_on n v (i + 1) (with_next v i t) (grows_next v i t g (omega arith) side) (omega (arith, next_length v i t)))
  where
    cases : (999_999_999_999_999 < next_side v i t) ⊎ (next_side v i t ≤ 999_999_999_999_999)
        → (next_side v i t ≤ 999_999_999_999_999 → IsGrowing (attached n v (i + 1) (with_next v i t)))
        → IsGrowing (attached (suc n) v i t)
    cases (inl more) rest = subst (λ (b : Bool). IsGrowing (cond b (attached n v (i + 1) (with_next v i t)) t))
        (sym (lt-leb (next_side v i t) 999_999_999_999_999 more)) g
    cases (inr side) rest = subst (λ (b : Bool). IsGrowing (cond b (attached n v (i + 1) (with_next v i t)) t))
        (sym (le-leb (next_side v i t) 999_999_999_999_999 side)) (rest side)
