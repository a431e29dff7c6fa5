-- Each word has at most one primitive tiling.
use Rattle.std.proofs.Common.{ap, arith, map, subst, sym, ℕ, ◌*◌, ◌+◌, ◌∙◌, ◌≡◌}
use Rattle.bk_laws.proofs.Products.{mul_one}
use Rattle.bk_tiling.proofs.Cells.{all_from}
use Rattle.bk_tiling.proofs.EnlargedTilings.{list_back}
use Rattle.bk_tiling.proofs.Scaling.{InProportion, from_enlarged, in_enlarged, in_proportion}
use Rattle.bk_tiling.specs.Scale.{AreAlike, IsPrimitiveTiling, enlarged, enlarged_square}
use Rattle.bk_tiling.specs.Tiling.{IsOneOf, Tiling}
use Rattle.bk_tiling.specs.declared.Square.{Square}
use Rattle.bk_word_net.proofs.PlacedSquares.OneTiling.{a_word_has_one_tiling}
use Rattle.bk_word_net.specs.WordFlow.{AWordHasOnePrimitiveTiling}

-- primitive tilings that are alike are the same
pub alike_primitive : (t u : Tiling) → IsPrimitiveTiling t → IsPrimitiveTiling u → AreAlike t u → t ≡ u
alike_primitive t u pt pu (m, n, a, b, e) = λ i. record { width = widths i; height = heights i; squares = squares i }
  where
    p : InProportion m n
    p = in_proportion (m + n) m n a b (omega arith)

    images : map (enlarged_square m) t.squares ≡ map (enlarged_square n) u.squares
    images = ap (λ (s : Tiling). s.squares) e

    left : p.left ≡ 1
    left = pt p.left (all_from (λ q. (k : ℕ) × (q.s ≡ p.left * k)) t.squares
        (λ q h. of q (from_enlarged n u.squares (enlarged_square m q) (subst (IsOneOf (enlarged_square m q)) images (in_enlarged m t.squares q h)))))
      where
        of : (q : Square) → (r : Square) × IsOneOf r u.squares × (enlarged_square m q ≡ enlarged_square n r) → (k : ℕ) × (q.s ≡ p.left * k)
        of q (r, h, same) = let k = p.each q.s r.s (ap (λ (s : Square). s.s) same) in (k.0, k.1)

    right : p.right ≡ 1
    right = pu p.right (all_from (λ q. (k : ℕ) × (q.s ≡ p.right * k)) u.squares
        (λ q h. of q (from_enlarged m t.squares (enlarged_square n q) (subst (IsOneOf (enlarged_square n q)) (sym images) (in_enlarged n u.squares q h)))))
      where
        of : (q : Square) → (r : Square) × IsOneOf r t.squares × (enlarged_square n q ≡ enlarged_square m r) → (k : ℕ) × (q.s ≡ p.right * k)
        of q (r, h, same) = let k = p.each r.s q.s (sym (ap (λ (s : Square). s.s) same)) in (k.0, k.2)

    factors : m ≡ n
    factors = omega (arith, p.cross, ap (λ (k : ℕ). m * k) left, ap (λ (k : ℕ). n * k) right)

    same : enlarged m t ≡ enlarged m u
    same = e ∙ sym (ap (λ (k : ℕ). enlarged k u) factors)

    widths : t.width ≡ u.width
    widths = mul_one m t.width u.width a (ap (λ (s : Tiling). s.width) same)

    heights : t.height ≡ u.height
    heights = mul_one m t.height u.height a (ap (λ (s : Tiling). s.height) same)

    squares : t.squares ≡ u.squares
    squares = list_back m t.squares u.squares a (ap (λ (s : Tiling). s.squares) same)

-- the law: tilings alike and primitive are equal
pub a_word_has_one_primitive_tiling : AWordHasOnePrimitiveTiling
a_word_has_one_primitive_tiling t u w tiling other pt pu p q = alike_primitive t u pt pu (a_word_has_one_tiling t u w tiling other p q)
