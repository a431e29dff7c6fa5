-- The numbers of the lines of a tiling: one number, one line.
use Rattle.std.specs.Prelude.{if◌then◌else◌}
use Rattle.std.proofs.Common.{Bool, ap, arith, false, refl, sym, true, ℕ, ◌*◌, ◌+◌, ◌-◌, ◌<◌, ◌==◌, ◌∙◌, ◌≡◌, ◌≢◌, ◌≤◌}
use Rattle.std.proofs.lemmas.Bool.{both_ways, eq-eqb, eqb-true}
use Rattle.std.proofs.lemmas.Nat.{same_from_place}
use Rattle.bk_tiling.specs.Tiling.{Tiling}
use Rattle.bk_layout.specs.TilingLayout.{line_end, line_number}
use Rattle.bk_layout.proofs.TilingLayouts.LineEnds.{end_within}

-- ---- the numbers of lines

module _ (t : Tiling) where
  -- the left wall has the number 0
  pub number_left : (x y : ℕ) → x ≡ 0 → line_number t x y ≡ 0
  number_left x y e = ap (λ (b : Bool). if b then 0 else if x == t.width then 1 else 2
      + (x * (t.height + 1) + line_end t.squares x (t.height - y) y)) (eq-eqb x 0 e)

  -- what a number is
  pub data IsNumber (x y : ℕ) (n : ℕ) : Type 0 where
    wall_left : x ≡ 0 → n ≡ 0 → IsNumber x y n
    wall_right : x ≢ 0 → x ≡ t.width → n ≡ 1 → IsNumber x y n
    inner : x ≢ 0 → x ≢ t.width → n ≡ 2 + (x * (t.height + 1) + line_end t.squares x (t.height - y) y) → IsNumber x y n

  -- each line has the number of a wall, or that of its column and its end
  pub number_is : (x y : ℕ) → IsNumber x y (line_number t x y)
  number_is x y = cases (x == 0) (x == t.width) refl refl
    where
      cases : (a b : Bool) → (x == 0) ≡ a → (x == t.width) ≡ b
          → IsNumber x y (if a then 0 else if b then 1 else 2 + (x * (t.height + 1) + line_end t.squares x (t.height - y) y))
      cases true b e f = wall_left (eqb-true x 0 e) refl
      cases false true e f = wall_right (λ k. both_ways (x == 0) e (eq-eqb x 0 k)) (eqb-true x t.width f) refl
      cases false false e f = inner (λ k. both_ways (x == 0) e (eq-eqb x 0 k)) (λ k. both_ways (x == t.width) f (eq-eqb x t.width k)) refl

  -- a line with the number 0 lies in column 0
  pub number_zero : (x y : ℕ) → line_number t x y ≡ 0 → x ≡ 0
  number_zero x y e = cases (number_is x y)
    where
      cases : IsNumber x y (line_number t x y) → x ≡ 0
      cases (wall_left h n) = h
      cases (wall_right h k n) = absurd (omega (arith, n, e))
      cases (inner h k n) = absurd (omega (arith, n, e))

  -- the number 1 is that of the right wall alone
  pub number_one : (x y : ℕ) → line_number t x y ≡ 1 → x ≡ t.width
  number_one x y e = cases (number_is x y)
    where
      cases : IsNumber x y (line_number t x y) → x ≡ t.width
      cases (wall_left h n) = absurd (omega (arith, n, e))
      cases (wall_right h k n) = k
      cases (inner h k n) = absurd (omega (arith, n, e))

  -- the right wall has the number 1
  pub number_right : (x y : ℕ) → 0 < x → x ≡ t.width → line_number t x y ≡ 1
  number_right x y some e = cases (number_is x y)
    where
      cases : IsNumber x y (line_number t x y) → line_number t x y ≡ 1
      cases (wall_left h n) = absurd (omega (arith, h))
      cases (wall_right h k n) = n
      cases (inner h k n) = absurd (k e)

  -- one number, one line: from the right edge of a square, and the left edge of another
  pub number_both : (x y a b : ℕ) → 0 < x → a < t.width → y ≤ t.height → b ≤ t.height → line_number t x y ≡ line_number t a b → (x ≡ a)
      × (line_end t.squares x (t.height - y) y ≡ line_end t.squares a (t.height - b) b)
  number_both x y a b some wide h k e = cases (number_is x y) (number_is a b)
    where
      cases : IsNumber x y (line_number t x y) → IsNumber a b (line_number t a b) → (x ≡ a)
          × (line_end t.squares x (t.height - y) y ≡ line_end t.squares a (t.height - b) b)
      cases (wall_left i n) other = absurd (omega (arith, i))
      cases (wall_right i j n) (wall_left l m) = absurd (omega (arith, n, m, e))
      cases (wall_right i j n) (wall_right l o m) = absurd (omega (arith, o))
      cases (wall_right i j n) (inner l o m) = absurd (omega (arith, n, m, e))
      cases (inner i j n) (wall_left l m) = absurd (omega (arith, n, m, e))
      cases (inner i j n) (wall_right l o m) = absurd (omega (arith, o))
      cases (inner i j n) (inner l o m) = same_from_place x (line_end t.squares x (t.height - y) y) a (line_end t.squares a (t.height - b) b) (t.height + 1)
          (omega (arith, end_within t.squares x (t.height - y) y)) (omega (arith, end_within t.squares a (t.height - b) b)) (omega (arith, n, m, e))

  -- two levels of a column from which the line ends at one place have one number
  pub number_same : (x y z : ℕ) → line_end t.squares x (t.height - y) y ≡ line_end t.squares x (t.height - z) z → line_number t x y ≡ line_number t x z
  number_same x y z e = ap (λ (n : ℕ). if x == 0 then 0 else if x == t.width then 1 else 2 + (x * (t.height + 1) + n)) e

  -- one number: one column, and one end
  pub number_column : (x y a b : ℕ) → y ≤ t.height → b ≤ t.height → line_number t x y ≡ line_number t a b → x ≡ a
  number_column x y a b h k e = cases (number_is x y) (number_is a b)
    where
      cases : IsNumber x y (line_number t x y) → IsNumber a b (line_number t a b) → x ≡ a
      cases (wall_left i n) (wall_left l m) = i ∙ sym l
      cases (wall_left i n) (wall_right l o m) = absurd (omega (arith, n, m, e))
      cases (wall_left i n) (inner l o m) = absurd (omega (arith, n, m, e))
      cases (wall_right i j n) (wall_left l m) = absurd (omega (arith, n, m, e))
      cases (wall_right i j n) (wall_right l o m) = j ∙ sym o
      cases (wall_right i j n) (inner l o m) = absurd (omega (arith, n, m, e))
      cases (inner i j n) (wall_left l m) = absurd (omega (arith, n, m, e))
      cases (inner i j n) (wall_right l o m) = absurd (omega (arith, n, m, e))
      cases (inner i j n) (inner l o m) = (same_from_place x (line_end t.squares x (t.height - y) y) a (line_end t.squares a (t.height - b) b) (t.height + 1)
          (omega (arith, end_within t.squares x (t.height - y) y)) (omega (arith, end_within t.squares a (t.height - b) b)) (omega (arith, n, m, e))).0

  -- two levels of one column and number have the line end at one place
  pub number_end : (x y b : ℕ) → 0 < x → x < t.width → line_number t x y ≡ line_number t x b
      → line_end t.squares x (t.height - y) y ≡ line_end t.squares x (t.height - b) b
  number_end x y b some wide e = cases (number_is x y) (number_is x b)
    where
      cases : IsNumber x y (line_number t x y) → IsNumber x b (line_number t x b)
          → line_end t.squares x (t.height - y) y ≡ line_end t.squares x (t.height - b) b
      cases (wall_left i n) other = absurd (omega (arith, i))
      cases (wall_right i j n) other = absurd (omega (arith, j))
      cases (inner i j n) (wall_left l m) = absurd (omega (arith, l))
      cases (inner i j n) (wall_right l o m) = absurd (omega (arith, o))
      cases (inner i j n) (inner l o m) = omega (arith, n, m, e)
