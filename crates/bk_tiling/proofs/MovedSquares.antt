-- Moved squares tile the moved rectangle.
use Rattle.std.specs.List.{AllByRecursion}
use Rattle.std.proofs.Common.{Bool, List, [], ap, arith, cond, count_by, map, refl, subst, ℕ, ◌&&◌, ◌+◌, ◌-◌, ◌<◌, ◌∙◌, ◌∷◌, ◌≡◌, ◌≤◌}
use Rattle.std.proofs.lemmas.List.{length-map}
use Rattle.bk_laws.proofs.NumberTests.{nat_le-shifted, nat_lt-shifted}
use Rattle.bk_tiling.proofs.Cells.{count-cons}
use Rattle.bk_tiling.specs.Scale.{moved_square}
use Rattle.bk_tiling.specs.Tiling.{IsWithin, Rectangle, Tiles, covers}
use Rattle.bk_tiling.specs.declared.Square.{Square}

-- a rectangle moved to the right and down
abbrev pub moved_rectangle : ℕ → ℕ → Rectangle → Rectangle
moved_rectangle right down r = record { x = r.x + right; y = r.y + down; width = r.width; height = r.height }

covers_moved : (right down i j : ℕ) (q : Square) → covers (i + right) (j + down) (moved_square right down q) ≡ covers i j q
covers_moved right down i j q =
    λ z. (nat_le-shifted q.x i right z && nat_lt-shifted i q.x q.s right z) && (nat_le-shifted q.y j down z && nat_lt-shifted j q.y q.s down z)

count_moved : (right down i j : ℕ) (squares : List Square)
    → count_by (covers (i + right) (j + down)) (map (moved_square right down) squares) ≡ count_by (covers i j) squares
count_moved right down i j [] = refl
count_moved right down i j (q ∷ squares) = omega (
  arith,
  count-cons (covers (i + right) (j + down)) (moved_square right down q) (map (moved_square right down) squares),
  count-cons (covers i j) q squares,
  ap (λ (b : Bool). cond {A = ℕ} b 1 0) (covers_moved right down i j q),
  count_moved right down i j squares,
)

-- a fact of all squares becomes one of all moved squares, where it does for each
pub all_moved : (P Q : Square → Type 0) (right down : ℕ) → ((q : Square) → P q → Q (moved_square right down q)) → (squares : List Square)
    → AllByRecursion P squares
    → AllByRecursion Q (map (moved_square right down) squares)
all_moved P Q right down f [] all = tt
all_moved P Q right down f (q ∷ squares) all = (f q all.0, all_moved P Q right down f squares all.1)

-- what tiles a rectangle, moved, tiles the moved rectangle
pub tiles_moved : (right down : ℕ) (r : Rectangle) (squares : List Square) → Tiles r squares
    → Tiles (moved_rectangle right down r) (map (moved_square right down) squares)
tiles_moved right down r squares tiles = record {
  some = omega (arith, length-map squares (moved_square right down), tiles.some);
  sides = all_moved (λ q. 0 < q.s) (λ q. 0 < q.s) right down (λ q some. some) squares tiles.sides;
  within = all_moved (IsWithin r) (IsWithin (moved_rectangle right down r)) right down within squares tiles.within;
  once = λ i j left right' top bottom. once i j left right' top bottom;
}
  where
    within : (q : Square) → IsWithin r q → IsWithin (moved_rectangle right down r) (moved_square right down q)
    within q is = record {
      left = omega (arith, is.left);
      right = omega (arith, is.right);
      top = omega (arith, is.top);
      bottom = omega (arith, is.bottom);
    }

    once : (i j : ℕ) → r.x + right ≤ i → i < (r.x + right) + r.width → r.y + down ≤ j → j < (r.y + down) + r.height
        → count_by (covers i j) (map (moved_square right down) squares) ≡ 1
    once i j a b c d =
        let column : (i - right) + right ≡ i = omega arith in
        let level : (j - down) + down ≡ j = omega arith in
        subst (λ (k : ℕ). count_by (covers k j) (map (moved_square right down) squares) ≡ 1) column
        (subst (λ (l : ℕ). count_by (covers ((i - right) + right) l) (map (moved_square right down) squares) ≡ 1) level
        (count_moved right down (i - right) (j - down) squares ∙ tiles.once (i - right) (j - down) (omega arith) (omega arith) (omega arith) (omega arith)))
