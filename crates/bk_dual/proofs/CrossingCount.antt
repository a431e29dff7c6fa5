-- Each crossing of a tiling is the top left corner of one square.
use Rattle.std.specs.List.{range_with_len}
use Rattle.std.proofs.Common.{Bool, List, [], ap, arith, cond, count_by, false, inl, inr, refl, sum_by, true, ℕ, ◌+◌, ◌∙◌, ◌∷◌, ◌≡◌, ◌≢◌, ◌≤◌}
use Rattle.std.proofs.lemmas.Bool.Decides.{nat_tests}
use Rattle.std.proofs.lemmas.List.Sums.{sum_by-cons}
use Rattle.bk_laws.proofs.NumberTests.{eq_four-from_test}
use Rattle.bk_laws.proofs.Sums.{sum_by-add, sum_by-same_terms, sum_by-zero_terms, sum_by_range-one_counts}
use Rattle.bk_tiling.proofs.Cells.{count-cons}
use Rattle.bk_tiling.proofs.TilingLaws.{within_of}
use Rattle.bk_tiling.specs.Point.{is_corner}
use Rattle.bk_tiling.specs.Tiling.{IsOneOf, IsTiling, Tiling}
use Rattle.bk_tiling.specs.declared.Square.{Square}
use Rattle.bk_dual.proofs.CrossingBegins.{crossing_begins}
use Rattle.bk_dual.proofs.SquareCorners.{own_corner}
use Rattle.bk_dual.proofs.CornerCounts.{top_left}
use Rattle.bk_dual.specs.Dual.{crossings, is_crossing}

elsewhere_x : (x y : ℕ) (q : Square) → x ≢ q.x → top_left x y q ≡ false
elsewhere_x x y q h = grind (arith, nat_tests)

elsewhere_y : (x y : ℕ) (q : Square) → y ≢ q.y → top_left x y q ≡ false
elsewhere_y x y q h = grind (arith, nat_tests)

-- a term that counts where a test of the point passes
abbrev if_passing : Bool → ℕ → ℕ
if_passing b n = cond b n 0

passing_none : (b c : Bool) → c ≡ false → ◌≡◌ {A = ℕ} (if_passing b (cond c 1 0)) 0
passing_none true c e = ap (λ (d : Bool). cond {A = ℕ} d 1 0) e
passing_none false c e = refl

passing_one : (b c : Bool) → c ≡ true → ◌≡◌ {A = ℕ} (if_passing b (cond c 1 0)) (cond b 1 0)
passing_one true c e = ap (λ (d : Bool). cond {A = ℕ} d 1 0) e
passing_one false c e = refl

passing_plus : (b : Bool) (k m n : ℕ) → k ≡ m + n → if_passing b k ≡ if_passing b m + if_passing b n
passing_plus true k m n e = e
passing_plus false k m n e = refl

-- the squares with their top left corner at a point of the rectangle that passes the test
module _ (width height : ℕ) (test : ℕ → ℕ → Bool) where
  abbrev row : (ℕ → ℕ → ℕ) → ℕ → ℕ
  row f y = sum_by (λ x. f x y) (range_with_len 0 (width + 1))

  abbrev grid : (ℕ → ℕ → ℕ) → ℕ
  grid f = sum_by (λ y. row f y) (range_with_len 0 (height + 1))

  grid_same : (f g : ℕ → ℕ → ℕ) → ((x y : ℕ) → f x y ≡ g x y) → grid f ≡ grid g
  grid_same f g each = sum_by-same_terms (λ y. row f y) (λ y. row g y) (range_with_len 0 (height + 1))
      (λ y. sum_by-same_terms (λ x. f x y) (λ x. g x y) (range_with_len 0 (width + 1)) (λ x. each x y))

  grid_plus : (f g : ℕ → ℕ → ℕ) → grid (λ x y. f x y + g x y) ≡ grid f + grid g
  grid_plus f g =
      sum_by-same_terms (λ y. row (λ x y. f x y + g x y) y) (λ y. row f y + row g y) (range_with_len 0 (height + 1))
      (λ y. sum_by-add (λ x. f x y) (λ x. g x y) (range_with_len 0 (width + 1)))
      ∙ sum_by-add (λ y. row f y) (λ y. row g y) (range_with_len 0 (height + 1))

  grid_none : (f : ℕ → ℕ → ℕ) → ((x y : ℕ) → f x y ≡ 0) → grid f ≡ 0
  grid_none f each =
      sum_by-zero_terms (λ y. row f y) (range_with_len 0 (height + 1)) (λ y. sum_by-zero_terms (λ x. f x y) (range_with_len 0 (width + 1)) (λ x. each x y))

  grid_one : (q : Square) → q.x ≤ width → q.y ≤ height → grid (λ x y. if_passing (test x y) (cond (top_left x y q) 1 0)) ≡ cond {A = ℕ} (test q.x q.y) 1 0
  grid_one q wide low =
      sum_by_range-one_counts (λ y. row (λ x y. if_passing (test x y) (cond (top_left x y q) 1 0)) y) q.y 0 (height + 1) (omega arith) (omega arith)
      (λ y h. sum_by-zero_terms (λ x. if_passing (test x y) (cond (top_left x y q) 1 0)) (range_with_len 0 (width + 1))
      (λ x. passing_none (test x y) (top_left x y q) (elsewhere_y x y q h)))
      ∙ sum_by_range-one_counts (λ x. if_passing (test x q.y) (cond (top_left x q.y q) 1 0)) q.x 0 (width + 1) (omega arith) (omega arith)
      (λ x h. passing_none (test x q.y) (top_left x q.y q) (elsewhere_x x q.y q h))
      ∙ passing_one (test q.x q.y) (top_left q.x q.y q) (own_corner q)

  -- counted point by point, the top left corners that pass a test are those counted square by square
  pub grid_squares : (squares : List Square) → ((q : Square) → IsOneOf q squares → (q.x ≤ width) × (q.y ≤ height))
      → grid (λ x y. if_passing (test x y) (count_by (top_left x y) squares)) ≡ sum_by (λ q. cond {A = ℕ} (test q.x q.y) 1 0) squares
  grid_squares [] inside = grid_none (λ x y. if_passing (test x y) (count_by (top_left x y) [])) (λ x y. nothing (test x y))
    where
      nothing : (b : Bool) → if_passing b 0 ≡ 0
      nothing true = refl
      nothing false = refl
  grid_squares (q ∷ squares) inside = omega (
    arith,
    grid_same (λ x y. if_passing (test x y) (count_by (top_left x y) (q ∷ squares)))
        (λ x y. if_passing (test x y) (cond (top_left x y q) 1 0) + if_passing (test x y) (count_by (top_left x y) squares))
        (λ x y. passing_plus (test x y) (count_by (top_left x y) (q ∷ squares)) (cond (top_left x y q) 1 0) (count_by (top_left x y) squares)
        (count-cons (top_left x y) q squares)),
    grid_plus (λ x y. if_passing (test x y) (cond (top_left x y q) 1 0)) (λ x y. if_passing (test x y) (count_by (top_left x y) squares)),
    grid_one q (inside q (inl refl)).0 (inside q (inl refl)).1,
    grid_squares squares (λ r h. inside r (inr h)),
    sum_by-cons (λ q. cond {A = ℕ} (test q.x q.y) 1 0) q squares,
  )

-- there are as many crossings as squares with a crossing at their top left corner
pub crossings_at_squares : (t : Tiling) → IsTiling t → crossings t ≡ sum_by (λ q. cond {A = ℕ} (is_crossing t q.x q.y) 1 0) t.squares
crossings_at_squares t tiling =
    grid_same t.width t.height (is_crossing t) (λ x y. cond {A = ℕ} (is_crossing t x y) 1 0)
    (λ x y. if_passing (is_crossing t x y) (count_by (top_left x y) t.squares))
    (λ x y. begins (is_crossing t x y) (count_by (top_left x y) t.squares)
    (λ e. crossing_begins t tiling x y (eq_four-from_test (count_by (is_corner x y) t.squares) e)))
    ∙ grid_squares t.width t.height (is_crossing t) t.squares (λ q h. inside q h)
  where
    begins : (b : Bool) (n : ℕ) → (b ≡ true → n ≡ 1) → ◌≡◌ {A = ℕ} (cond b 1 0) (if_passing b n)
    begins true n one = omega (arith, one refl)
    begins false n one = refl

    inside : (q : Square) → IsOneOf q t.squares → (q.x ≤ t.width) × (q.y ≤ t.height)
    inside q h = let w = within_of t tiling q h in let a = w.right in let b = w.bottom in (omega arith, omega arith)
