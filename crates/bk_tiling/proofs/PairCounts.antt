-- Pairs of squares, counted by the first or by the second of each.
use Rattle.std.proofs.Common.{Bool, List, [], arith, count_by, refl, sum_by, ◌+◌, ◌∷◌, ◌≡◌}
use Rattle.std.proofs.lemmas.List.Sums.{sum_by-cons}
use Rattle.bk_tiling.proofs.Cells.{count-cons}
use Rattle.bk_tiling.specs.declared.Square.{Square}

-- the sum over pairs, either way round
pub pairs_cons : (f : Square → Square → Bool) (q : Square) (ps rs : List Square)
    → sum_by (λ p. count_by (f p) (q ∷ rs)) ps ≡ count_by (λ p. f p q) ps + sum_by (λ p. count_by (f p) rs) ps
pairs_cons f q [] rs = refl
pairs_cons f q (p ∷ ps) rs = omega (
  arith,
  sum_by-cons (λ p. count_by (f p) (q ∷ rs)) p ps,
  sum_by-cons (λ p. count_by (f p) rs) p ps,
  count-cons (λ p. f p q) p ps,
  count-cons (f p) q rs,
  pairs_cons f q ps rs,
)

-- as many pairs pass counted by their first square as counted by their second
pub pairs_exchanged : (f : Square → Square → Bool) (ps rs : List Square) → sum_by (λ p. count_by (f p) rs) ps ≡ sum_by (λ r. count_by (λ p. f p r) ps) rs
pairs_exchanged f ps [] = none ps
  where
    none : (ps : List Square) → sum_by (λ p. count_by (f p) []) ps ≡ 0
    none [] = refl
    none (p ∷ ps) = omega (arith, sum_by-cons (λ p. count_by (f p) []) p ps, none ps)
pairs_exchanged f ps (r ∷ rs) = omega (arith, pairs_cons f r ps rs, pairs_exchanged f ps rs, sum_by-cons (λ r. count_by (λ p. f p r) ps) r rs)
