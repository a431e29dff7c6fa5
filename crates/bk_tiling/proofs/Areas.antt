-- Squares that share no cell, and have as many as the rectangle in which they lie, leave no cell of it free: the cells are counted
-- column by column and level by level.
use Rattle.std.specs.List.{AllByRecursion}
use Rattle.std.specs.Prelude.{get_or, ◌&&◌, ◌*◌}
use Rattle.std.proofs.Common.{Bool, List, [], ap, arith, cond, count_by, false, length, refl, suc, take, true, zero, ℕ, ◌+◌, ◌<◌, ◌∙◌}
use Rattle.std.proofs.Common.{◌∷◌, ◌≡◌, ◌≤◌}
use Rattle.std.proofs.lemmas.List.Elements.{recursion_from_All}
use Rattle.std.proofs.lemmas.Nat.{mul-le}
use Rattle.bk_tiling.proofs.Cells.{count-cons}
use Rattle.bk_tiling.proofs.Refusing.{at_most_one}
use Rattle.bk_tiling.specs.Area.{area_of}
use Rattle.bk_tiling.specs.Refusal.{AreWithin, HaveSides, ShareNoCell, sized}
use Rattle.bk_tiling.specs.Tiling.{IsWithin, covers}
use Rattle.bk_tiling.specs.declared.Square.{Square}
use Rattle.bk_laws.proofs.SumsBelow.{spans, sum_below, sum_below-add, sum_below-full, sum_below-le_times, sum_below-same_terms, sum_below-span}
use Rattle.bk_laws.proofs.SumsBelow.{sum_below-zero_terms}

-- of one square more the area is its own besides
pub area_more : (squares : List Square) (k : ℕ) (d : Square) → k < length squares
    → area_of (take (k + 1) squares) ≡ area_of (take k squares) + (get_or squares k d).s * (get_or squares k d).s
area_more [] k d h = absurd (omega arith)
area_more (q ∷ squares) zero d h = omega arith
area_more (q ∷ squares) (suc k) d h =
    let next : suc k + 1 ≡ suc (k + 1) = omega arith in
    ap (λ (n : ℕ). area_of (take n (q ∷ squares))) next ∙ omega (arith, area_more squares k d (omega (arith, h)))

-- the area of one square is small
pub area_small : (squares : List Square) (k : ℕ) (d : Square) → k < length squares → HaveSides squares
    → (get_or squares k d).s * (get_or squares k d).s ≤ 999999999999999 * 999999999999999
area_small squares k d h sides =
    mul-le (get_or squares k d).s (get_or squares k d).s 999999999999999 999999999999999 (sides k d h).1 (sides k d h).1

-- the squares over a level, each as often as it has columns there
abbrev pub over_level : ℕ → List Square → ℕ → ℕ
over_level width squares j = sum_below (λ i. count_by (covers i j) squares) width

-- a square has as many cells as its side times its side
module _ (width height : ℕ) (q : Square) (within : IsWithin (sized width height) q) where
  level_cells : (j : ℕ) → sum_below (λ i. cond {A = ℕ} (covers i j q) 1 0) width ≡ cond {A = ℕ} (spans q.y q.s j) q.s 0
  level_cells j = cases (spans q.y q.s j) refl
    where
      cases : (b : Bool) → spans q.y q.s j ≡ b → sum_below (λ i. cond {A = ℕ} (covers i j q) 1 0) width ≡ cond {A = ℕ} b q.s 0
      cases true e = sum_below-same_terms (λ i. cond {A = ℕ} (covers i j q) 1 0) (λ i. cond {A = ℕ} (spans q.x q.s i) 1 0) width over
          ∙ sum_below-span q.x q.s 1 width (omega (arith, within.right)) ∙ omega arith
        where
          and_true : (a b : Bool) → b ≡ true → (a && b) ≡ a
          and_true true b h = h
          and_true false b h = refl

          over : (i : ℕ) → cond {A = ℕ} (covers i j q) 1 0 ≡ cond {A = ℕ} (spans q.x q.s i) 1 0
          over i = ap (λ (b : Bool). cond {A = ℕ} b 1 0) (and_true (spans q.x q.s i) (spans q.y q.s j) e)
      cases false e = sum_below-zero_terms (λ i. cond {A = ℕ} (covers i j q) 1 0) width none
        where
          and_false : (a b : Bool) → b ≡ false → (a && b) ≡ false
          and_false true b h = h
          and_false false b h = refl

          none : (i : ℕ) → cond {A = ℕ} (covers i j q) 1 0 ≡ 0
          none i = ap (λ (b : Bool). cond {A = ℕ} b 1 0) (and_false (spans q.x q.s i) (spans q.y q.s j) e)

  square_cells : sum_below (λ j. sum_below (λ i. cond {A = ℕ} (covers i j q) 1 0) width) height ≡ q.s * q.s
  square_cells = sum_below-same_terms (λ j. sum_below (λ i. cond {A = ℕ} (covers i j q) 1 0) width) (λ j. cond {A = ℕ} (spans q.y q.s j) q.s 0) height
      level_cells
      ∙ sum_below-span q.y q.s q.s height (omega (arith, within.bottom))

-- so all cells of squares in a rectangle are their area
area_counts : (width height : ℕ) (squares : List Square) → AllByRecursion (IsWithin (sized width height)) squares
    → sum_below (over_level width squares) height ≡ area_of squares
area_counts width height [] within = sum_below-zero_terms (over_level width []) height
    (λ j. sum_below-zero_terms (λ i. count_by (covers i j) []) width (λ i. refl))
area_counts width height (q ∷ squares) within =
    sum_below-same_terms (over_level width (q ∷ squares)) (λ j. sum_below (λ i. cond {A = ℕ} (covers i j q) 1 0) width + over_level width squares j) height one
    ∙ sum_below-add (λ j. sum_below (λ i. cond {A = ℕ} (covers i j q) 1 0) width) (over_level width squares) height
    ∙ omega (arith, square_cells width height q within.0, area_counts width height squares within.1)
  where
    one : (j : ℕ) → over_level width (q ∷ squares) j ≡ sum_below (λ i. cond {A = ℕ} (covers i j q) 1 0) width + over_level width squares j
    one j = sum_below-same_terms (λ i. count_by (covers i j) (q ∷ squares)) (λ i. cond {A = ℕ} (covers i j q) 1 0 + count_by (covers i j) squares) width
        (λ i. count-cons (covers i j) q squares)
        ∙ sum_below-add (λ i. cond {A = ℕ} (covers i j q) 1 0) (λ i. count_by (covers i j) squares) width

-- squares within a rectangle that share no cell and have its area cover each of its cells
pub covered_by_area : (width height : ℕ) (squares : List Square) → AreWithin width height squares → ShareNoCell squares
    → area_of squares ≡ width * height → (i j : ℕ) → i < width → j < height → 0 < count_by (covers i j) squares
covered_by_area width height squares within apart full i j left low = omega (arith, cell)
  where
    level_most : (k : ℕ) → over_level width squares k ≤ width
    level_most k = omega (arith, sum_below-le_times (λ n. count_by (covers n k) squares) 1 width (λ n. at_most_one squares apart n k))

    level : over_level width squares j ≡ width
    level = sum_below-full (over_level width squares) width height level_most
        (area_counts width height squares (recursion_from_All (IsWithin (sized width height)) squares within) ∙ full ∙ omega arith) j low

    cell : count_by (covers i j) squares ≡ 1
    cell = sum_below-full (λ n. count_by (covers n j) squares) 1 width (λ n. at_most_one squares apart n j) (level ∙ omega arith) i left
