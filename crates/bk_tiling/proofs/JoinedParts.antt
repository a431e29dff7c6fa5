-- Squares that tile two parts of a rectangle tile it together.
use Rattle.std.proofs.Common.{Bool, List, [], ap, arith, cond, count_by, inl, inr, true, ℕ, ◌++◌, ◌+◌, ◌<◌, ◌∷◌, ◌≡◌, ◌≤◌, ◌⊎◌}
use Rattle.std.proofs.lemmas.List.Sums.{sum_by-append}
use Rattle.std.proofs.lemmas.List.{length-append}
use Rattle.bk_laws.proofs.AllOfLists.{all_append}
use Rattle.bk_tiling.proofs.Cells.{all_from, count-cons, covers_from, in_all, none_counted, over_from}
use Rattle.bk_tiling.specs.Tiling.{IsOneOf, IsWithin, Rectangle, Tiles, covers}
use Rattle.bk_tiling.specs.declared.Square.{Square}

-- the part lies within the rectangle
pub record IsPart (r part : Rectangle) : Type 0 where
  pub left : r.x ≤ part.x
  pub right : part.x + part.width ≤ r.x + r.width
  pub top : r.y ≤ part.y
  pub bottom : part.y + part.height ≤ r.y + r.height

-- the cell lies in the rectangle
pub record HasCell (r : Rectangle) (i j : ℕ) : Type 0 where
  pub left : r.x ≤ i
  pub right : i < r.x + r.width
  pub top : r.y ≤ j
  pub bottom : j < r.y + r.height

within_part : (r part : Rectangle) (q : Square) → IsPart r part → IsWithin part q → IsWithin r q
within_part r part q lies is = record {
  left = omega (arith, lies.left, is.left);
  right = omega (arith, lies.right, is.right);
  top = omega (arith, lies.top, is.top);
  bottom = omega (arith, lies.bottom, is.bottom);
}

-- each cell of the rectangle lies in one of the parts, and not in the other
abbrev pub Splits : Rectangle → Rectangle → Rectangle → Type 0
Splits r a b = (i j : ℕ) → HasCell r i j → (HasCell a i j × (HasCell b i j → ⊥)) ⊎ ((HasCell a i j → ⊥) × HasCell b i j)

none_outside : (part : Rectangle) (squares : List Square) (i j : ℕ) → Tiles part squares → (HasCell part i j → ⊥) → count_by (covers i j) squares ≡ 0
none_outside part squares i j tiles outside = none_counted (covers i j) squares no_cover
  where
    no_cover : (q : Square) → IsOneOf q squares → covers i j q ≡ true → ⊥
    no_cover q h e =
        let over = over_from i j q e in
        let within = in_all (IsWithin part) squares tiles.within q h in
        outside (record {
          left = omega (arith, over.left, within.left);
          right = omega (arith, over.right, within.right);
          top = omega (arith, over.top, within.top);
          bottom = omega (arith, over.bottom, within.bottom);
        })

count-append : (i j : ℕ) (p q : List Square) → count_by (covers i j) (p ++ q) ≡ count_by (covers i j) p + count_by (covers i j) q
count-append i j p q = sum_by-append (λ (s : Square). cond {A = ℕ} (covers i j s) 1 0) p q

-- squares that tile two rectangles which make up a third tile the third together
pub tiles_joined : (r a b : Rectangle) (p q : List Square) → IsPart r a → IsPart r b → Splits r a b → Tiles a p → Tiles b q → Tiles r (p ++ q)
tiles_joined r a b p q in_a in_b splits first second = record {
  some = omega (arith, length-append p q, first.some);
  sides = all_append (λ s. 0 < s.s) p q first.sides second.sides;
  within = all_append (IsWithin r) p q (all_from (IsWithin r) p (λ s h. within_part r a s in_a (in_all (IsWithin a) p first.within s h)))
      (all_from (IsWithin r) q (λ s h. within_part r b s in_b (in_all (IsWithin b) q second.within s h)));
  once = λ i j left right top bottom. once i j (splits i j (record { left = left; right = right; top = top; bottom = bottom }));
}
  where
    once : (i j : ℕ) → (HasCell a i j × (HasCell b i j → ⊥)) ⊎ ((HasCell a i j → ⊥) × HasCell b i j) → count_by (covers i j) (p ++ q) ≡ 1
    once i j (inl (has, not)) = omega (arith, count-append i j p q, first.once i j has.left has.right has.top has.bottom, none_outside b q i j second not)
    once i j (inr (not, has)) = omega (arith, count-append i j p q, second.once i j has.left has.right has.top has.bottom, none_outside a p i j first not)

-- a square alone tiles its own rectangle
abbrev pub square_rectangle : Square → Rectangle
square_rectangle q = record { x = q.x; y = q.y; width = q.s; height = q.s }

-- a square alone tiles its own rectangle
pub tiles_alone : (q : Square) → 0 < q.s → Tiles (square_rectangle q) (q ∷ [])
tiles_alone q some = record {
  some = omega arith;
  sides = (some, tt);
  within = (record { left = omega arith; right = omega arith; top = omega arith; bottom = omega arith }, tt);
  once = λ i j left right top bottom. omega (arith, count-cons (covers i j) q [], one i j (covers_from i j q left right top bottom));
}
  where
    one : (i j : ℕ) → covers i j q ≡ true → ◌≡◌ {A = ℕ} (cond (covers i j q) 1 0) 1
    one i j e = ap (λ (c : Bool). cond {A = ℕ} c 1 0) e
