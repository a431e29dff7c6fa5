-- Flat lists compared, and divisors of the rear of a list.
use Rattle.std.specs.Cmp.Lexicographic.{slice_cmp}
use Rattle.std.specs.Ordering.{nat_cmp}
use Rattle.std.specs.Prelude.{◌%◌}
use Rattle.std.proofs.Common.{List, [], ap, arith, drop, get_or, length, map, refl, suc, sym, zero, ℕ, ◌-◌, ◌<◌, ◌∙◌, ◌∷◌, ◌≡◌, ◌≤◌}
use Rattle.bk_code.proofs.FlatList.{flat_is_sides}
use Rattle.bk_code.specs.Code.{code_cmp, code_of, flat}
use Rattle.bk_frac.specs.Divisor.{gcd, gcd_of, gcd_within}
use Rattle.bk_tiling.specs.Tiling.{Tiling}
use Rattle.bk_tiling.specs.declared.Square.{Square}

-- codes compare as the sides of their tilings do
pub code_cmp-sides : (t u : Tiling) → slice_cmp nat_cmp (map (λ q. q.s) t.squares) (map (λ q. q.s) u.squares) ≡ code_cmp (code_of t) (code_of u)
code_cmp-sides t u =
    ap (λ (sides : List ℕ). slice_cmp nat_cmp sides (map (λ q. q.s) u.squares)) (sym (flat_is_sides t))
    ∙ ap (λ (sides : List ℕ). slice_cmp nat_cmp (flat (code_of t)) sides) (sym (flat_is_sides u))

gcd-one : (n : ℕ) → gcd n 1 ≡ 1
gcd-one n = ap (gcd_within 1 1) rest
  where
    rest : n % 1 ≡ 0
    rest = omega arith

-- where the sides from a place on have no common divisor, all have none
pub one_of_rear : (i : ℕ) (squares : List Square) → gcd_of (map (λ q. q.s) (drop i squares)) ≡ 1 → gcd_of (map (λ q. q.s) squares) ≡ 1
one_of_rear zero squares e = e
one_of_rear (suc i) [] e = e
one_of_rear (suc i) (q ∷ squares) e = ap (gcd q.s) (one_of_rear i squares e) ∙ gcd-one q.s

-- the divisor of the sides from a place on, from that of the sides behind it
rear-step : (j : ℕ) (squares : List Square) (d : Square) → j < length squares
    → gcd_of (map (λ q. q.s) (drop j squares)) ≡ gcd (get_or squares j d).s (gcd_of (map (λ q. q.s) (drop (suc j) squares)))
rear-step j [] d below = absurd (omega arith)
rear-step zero (q ∷ squares) d below = refl
rear-step (suc j) (q ∷ squares) d below = rear-step j squares d (omega arith)

-- sides from a place on whose divisor, with that of the side before them, is 1: then all sides have none above 1
pub one_from : (i g : ℕ) (squares : List Square) (d : Square) → 0 < i → i ≤ length squares → g ≡ gcd_of (map (λ q. q.s) (drop i squares))
    → gcd (get_or squares (i - 1) d).s g ≡ 1 → gcd_of (map (λ q. q.s) squares) ≡ 1
one_from zero g squares d some below is e = absurd (omega arith)
one_from (suc j) g squares d some below is e = one_of_rear j squares (rear-step j squares d (omega arith) ∙ ap (gcd (get_or squares j d).s) (sym is) ∙ same)
  where
    before : suc j - 1 ≡ j
    before = omega arith

    same : gcd (get_or squares j d).s g ≡ 1
    same = ap (λ k. gcd (get_or squares k d).s g) (sym before) ∙ e
