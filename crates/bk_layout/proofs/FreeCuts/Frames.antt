-- A rectangle whose border cuts no square of a simple tiling is one square or the whole.
use Rattle.std.specs.Prelude.{IsTrue}
use Rattle.std.specs.List.{list_all}
use Rattle.std.proofs.Common.{Bool, List, [], ap, arith, cond, count_by, false, inl, inr, length, refl, true, ℕ, ◌&&◌, ◌+◌, ◌-◌, ◌<◌, ◌||◌, ◌∙◌, ◌∷◌}
use Rattle.std.proofs.Common.{◌≡◌, ◌≤◌, ◌⊎◌}
use Rattle.std.proofs.lemmas.Bool.{cases_Bool, cases_lt, or_left, or_right}
use Rattle.std.proofs.lemmas.Bool.Decides.{nat_tests}
use Rattle.bk_tiling.proofs.Cells.{count-cons, no_two}
use Rattle.bk_tiling.specs.Tiling.{IsOneOf, IsTiling, Rectangle, Tiling}
use Rattle.bk_tiling.specs.declared.Square.{Square}
use Rattle.bk_simple.proofs.UncutParts.{part_from_count}
use Rattle.bk_simple.specs.Border.{IsUncut, is_inside, is_outside}
use Rattle.bk_simple.specs.Simple.{IsSimple}
use Rattle.bk_layout.proofs.TilingLayouts.Edges.{IsCell, IsOn, cell}

-- no square lies across the border of the rectangle from one column to another and from one level to another
pub record IsFrame (t : Tiling) (left right top bottom : ℕ) : Type 0 where
  pub wide : left < right
  pub high : top < bottom
  pub within_width : right ≤ t.width
  pub within_height : bottom ≤ t.height
  pub at_left : (q : Square) → IsOneOf q t.squares → q.x < left → left < q.x + q.s → q.y < bottom → top < q.y + q.s → ⊥
  pub at_right : (q : Square) → IsOneOf q t.squares → q.x < right → right < q.x + q.s → q.y < bottom → top < q.y + q.s → ⊥
  pub at_top : (q : Square) → IsOneOf q t.squares → q.y < top → top < q.y + q.s → q.x < right → left < q.x + q.s → ⊥
  pub at_bottom : (q : Square) → IsOneOf q t.squares → q.y < bottom → bottom < q.y + q.s → q.x < right → left < q.x + q.s → ⊥

-- the square lies within the frame
pub record IsInside (left right top bottom : ℕ) (q : Square) : Type 0 where
  pub left_in : left ≤ q.x
  pub right_in : q.x + q.s ≤ right
  pub top_in : top ≤ q.y
  pub bottom_in : q.y + q.s ≤ bottom

inside_to : (r : Rectangle) (q : Square) → r.x ≤ q.x → q.x + q.s ≤ r.x + r.width → r.y ≤ q.y → q.y + q.s ≤ r.y + r.height → is_inside r q ≡ true
inside_to r q a b c d = grind (arith, nat_tests)

inside_from : (r : Rectangle) (q : Square) → is_inside r q ≡ true → IsInside r.x (r.x + r.width) r.y (r.y + r.height) q
inside_from r q e = record {
  left_in = grind (arith, nat_tests);
  right_in = grind (arith, nat_tests);
  top_in = grind (arith, nat_tests);
  bottom_in = grind (arith, nat_tests);
}

outside_left : (r : Rectangle) (q : Square) → q.x + q.s ≤ r.x → is_outside r q ≡ true
outside_left r q a = grind (arith, nat_tests)

outside_right : (r : Rectangle) (q : Square) → r.x + r.width ≤ q.x → is_outside r q ≡ true
outside_right r q a = grind (arith, nat_tests)

outside_top : (r : Rectangle) (q : Square) → q.y + q.s ≤ r.y → is_outside r q ≡ true
outside_top r q a = grind (arith, nat_tests)

outside_bottom : (r : Rectangle) (q : Square) → r.y + r.height ≤ q.y → is_outside r q ≡ true
outside_bottom r q a = grind (arith, nat_tests)

uncut_from : (r : Rectangle) (squares : List Square) → ((q : Square) → IsOneOf q squares → (is_inside r q || is_outside r q) ≡ true)
    → IsTrue (list_all (λ q. is_inside r q || is_outside r q) squares)
uncut_from r [] each = refl
uncut_from r (q ∷ squares) each = put (is_inside r q || is_outside r q) (each q (inl refl)) (uncut_from r squares (λ p h. each p (inr h)))
  where
    put : (b : Bool) → b ≡ true → IsTrue (list_all (λ q. is_inside r q || is_outside r q) squares)
        → IsTrue (b && list_all (λ q. is_inside r q || is_outside r q) squares)
    put true e rest = rest
    put false e rest = absurd (cc)

count_most : (p : Square → Bool) (squares : List Square) → count_by p squares ≤ length squares
count_most p [] = omega arith
count_most p (q ∷ squares) = omega (arith, count-cons p q squares, one (p q), count_most p squares)
  where
    one : (b : Bool) → ◌≤◌ (cond {A = ℕ} b 1 0) 1
    one true = omega arith
    one false = omega arith

all_counted : (p : Square → Bool) (squares : List Square) → length squares ≤ count_by p squares → (q : Square) → IsOneOf q squares → p q ≡ true
all_counted p [] full q h = absurd h
all_counted p (r ∷ squares) full q h = cases (cases_Bool (p r)) h (all_counted p squares)
  where
    cases : (p r ≡ true) ⊎ (p r ≡ false) → (q ≡ r) ⊎ IsOneOf q squares
        → (length squares ≤ count_by p squares → (q : Square) → IsOneOf q squares → p q ≡ true) → p q ≡ true
    cases (inl e) (inl same) rest = ap p same ∙ e
    cases (inl e) (inr k) rest = rest (omega (arith, full, count-cons p r squares, ap (λ (b : Bool). cond {A = ℕ} b 1 0) e)) q k
    cases (inr e) k rest = absurd (omega (arith, full, count-cons p r squares, ap (λ (b : Bool). cond {A = ℕ} b 1 0) e, count_most p squares))

module _ (t : Tiling) (tiling : IsTiling t) (simple : IsSimple t) (left right top bottom : ℕ) (frame : IsFrame t left right top bottom) where
  abbrev rect : Rectangle
  rect = record { x = left; y = top; width = right - left; height = bottom - top }

  width_is : left + (right - left) ≡ right
  width_is = omega (arith, frame.wide)

  height_is : top + (bottom - top) ≡ bottom
  height_is = omega (arith, frame.high)

  -- a square that shares a cell with the frame lies in it
  pub inside_or_out : (q : Square) → IsOneOf q t.squares → q.x < right → left < q.x + q.s → q.y < bottom → top < q.y + q.s → IsInside left right top bottom q
  inside_or_out q h a b c d = record {
    left_in = not_less q.x left (λ e. frame.at_left q h e b c d);
    right_in = not_less right (q.x + q.s) (λ e. frame.at_right q h a e c d);
    top_in = not_less q.y top (λ e. frame.at_top q h e d a b);
    bottom_in = not_less bottom (q.y + q.s) (λ e. frame.at_bottom q h c e a b);
  }
    where
      not_less : (m n : ℕ) → (m < n → ⊥) → n ≤ m
      not_less m n never = by (cases_lt m n)
        where
          by : (m < n) ⊎ (n ≤ m) → n ≤ m
          by (inl e) = absurd (never e)
          by (inr e) = e

  test_from : (q : Square) → IsInside left right top bottom q → is_inside rect q ≡ true
  test_from q i = inside_to rect q i.left_in (omega (arith, width_is, i.right_in)) i.top_in (omega (arith, height_is, i.bottom_in))

  test_to : (q : Square) → is_inside rect q ≡ true → IsInside left right top bottom q
  test_to q e = let i = inside_from rect q e in
      record { left_in = i.left_in; right_in = omega (arith, width_is, i.right_in); top_in = i.top_in; bottom_in = omega (arith, height_is, i.bottom_in) }

  uncut : IsUncut rect t.squares
  uncut = uncut_from rect t.squares each
    where
      each : (q : Square) → IsOneOf q t.squares → (is_inside rect q || is_outside rect q) ≡ true
      each q h = cases (cases_lt q.x right) (cases_lt left (q.x + q.s)) (cases_lt q.y bottom) (cases_lt top (q.y + q.s))
        where
          out : is_outside rect q ≡ true → (is_inside rect q || is_outside rect q) ≡ true
          out e = or_right (is_inside rect q) (is_outside rect q) e

          cases : (q.x < right) ⊎ (right ≤ q.x) → (left < q.x + q.s) ⊎ (q.x + q.s ≤ left) → (q.y < bottom) ⊎ (bottom ≤ q.y)
              → (top < q.y + q.s) ⊎ (q.y + q.s ≤ top) → (is_inside rect q || is_outside rect q) ≡ true
          cases (inl a) (inl b) (inl c) (inl d) = or_left (is_inside rect q) (is_outside rect q) (test_from q (inside_or_out q h a b c d))
          cases (inr a) b c d = out (outside_right rect q (omega (arith, width_is, a)))
          cases (inl a) (inr b) c d = out (outside_left rect q b)
          cases (inl a) (inl b) (inr c) d = out (outside_bottom rect q (omega (arith, height_is, c)))
          cases (inl a) (inl b) (inl c) (inr d) = out (outside_top rect q d)

  -- the frame is one square
  pub record IsOne : Type 0 where
    pub square : Square
    pub is : IsOneOf square t.squares
    pub left_is : square.x ≡ left
    pub right_is : square.x + square.s ≡ right
    pub top_is : square.y ≡ top
    pub bottom_is : square.y + square.s ≡ bottom
    pub only : (q : Square) → IsOneOf q t.squares → IsInside left right top bottom q → q ≡ square

  -- the frame is the whole rectangle
  pub record IsAll : Type 0 where
    pub left_is : left ≡ 0
    pub right_is : right ≡ t.width
    pub top_is : top ≡ 0
    pub bottom_is : bottom ≡ t.height

  corner : (i j : ℕ) → left ≤ i → i < right → top ≤ j → j < bottom → (q : Square) × IsOneOf q t.squares × IsOn i j q × IsInside left right top bottom q
  corner i j a b c d = from (cell t tiling i j (omega (arith, b, frame.within_width)) (omega (arith, d, frame.within_height)))
    where
      from : IsCell t tiling i j → (q : Square) × IsOneOf q t.squares × IsOn i j q × IsInside left right top bottom q
      from w = (
        w.square,
        w.is,
        w.on,
        inside_or_out w.square w.is (omega (arith, w.on.left, b)) (omega (arith, w.on.right, a))
            (omega (arith, w.on.top, d)) (omega (arith, w.on.bottom, c)),
      )

  -- in a simple tiling a frame that cuts no square bounds one square, or all
  pub one_or_all : IsOne ⊎ IsAll
  one_or_all = cases (cases_lt (count_by (is_inside rect) t.squares) 2) (cases_lt (count_by (is_inside rect) t.squares) (length t.squares))
    where
      cases : (count_by (is_inside rect) t.squares < 2) ⊎ (2 ≤ count_by (is_inside rect) t.squares)
          → (count_by (is_inside rect) t.squares < length t.squares) ⊎ (length t.squares ≤ count_by (is_inside rect) t.squares) → IsOne ⊎ IsAll
      cases (inr several) (inl few) = absurd (simple
          (rect, part_from_count t tiling rect (omega (arith, width_is, frame.within_width)) (omega (arith, height_is, frame.within_height)) uncut several few))
      cases (inl few) b = inl (from (corner left top (omega arith) frame.wide (omega arith) frame.high)
          (corner (right - 1) (bottom - 1) (omega (arith, frame.wide)) (omega (arith, frame.wide)) (omega (arith, frame.high)) (omega (arith, frame.high))))
        where
          same : (p q : Square) → IsOneOf p t.squares → IsOneOf q t.squares → IsInside left right top bottom p → IsInside left right top bottom q → p ≡ q
          same p q h k i j = no_two (is_inside rect) t.squares (omega (arith, few)) p q h (test_from p i) k (test_from q j)

          from : (q : Square) × IsOneOf q t.squares × IsOn left top q × IsInside left right top bottom q → (q : Square)
              × IsOneOf q t.squares × IsOn (right - 1) (bottom - 1) q × IsInside left right top bottom q → IsOne
          from (p, h, on, i) (q, k, over, j) = record {
            square = p;
            is = h;
            left_is = omega (arith, on.left, i.left_in);
            right_is = omega (arith, over.right, i.right_in, frame.wide, ap (λ (s : Square). s.x + s.s) (same p q h k i j));
            top_is = omega (arith, on.top, i.top_in);
            bottom_is = omega (arith, over.bottom, i.bottom_in, frame.high, ap (λ (s : Square). s.y + s.s) (same p q h k i j));
            only = λ r m l. same r p m h l i;
          }
      cases (inr several) (inr full) = inr (from
          (cell t tiling 0 0 (omega (arith, frame.wide, frame.within_width)) (omega (arith, frame.high, frame.within_height)))
          (cell t tiling (t.width - 1) (t.height - 1) (omega (arith, frame.wide, frame.within_width)) (omega (arith, frame.high, frame.within_height))))
        where
          inside : (q : Square) → IsOneOf q t.squares → IsInside left right top bottom q
          inside q h = test_to q (all_counted (is_inside rect) t.squares full q h)

          from : IsCell t tiling 0 0 → IsCell t tiling (t.width - 1) (t.height - 1) → IsAll
          from p q = let i = inside p.square p.is in let j = inside q.square q.is in record {
            left_is = omega (arith, i.left_in, p.on.left);
            right_is = omega (arith, j.right_in, q.on.right, frame.wide, frame.within_width);
            top_is = omega (arith, i.top_in, p.on.top);
            bottom_is = omega (arith, j.bottom_in, q.on.bottom, frame.high, frame.within_height);
          }
