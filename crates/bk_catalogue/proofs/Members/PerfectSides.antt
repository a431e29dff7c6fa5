-- In a perfect tiling no two of the squares that a word's moves lay from the top have one side, since each is laid once.
use Rattle.std.specs.Prelude.{AllPairs}
use Rattle.std.proofs.Common.{List, Some, [], ap, arith, get_or, inl, inr, length, slice_get, subst, suc, sym, zero, ℕ, ◌<◌, ◌∙◌, ◌∷◌, ◌≡◌, ◌≢◌}
use Rattle.bk_tiling.proofs.Cells.{column_from, depth_reaches, in_all}
use Rattle.bk_tiling.proofs.TilingLaws.{own_cell, side_of, within_of}
use Rattle.bk_tiling.specs.Column.{depth}
use Rattle.bk_tiling.specs.declared.Square.{Square}
use Rattle.bk_tiling.specs.Tiling.{IsOneOf, IsTiling, Tiling}
use Rattle.bk_simple.specs.Simple.{IsPerfect}
use Rattle.bk_lay.proofs.WordPlay.{NoneTwice, none_twice}
use Rattle.bk_lay.specs.Depiction.{FillsFromTop}

-- where a square stands
place_of : (q : Square) (squares : List Square) → IsOneOf q squares → (k : ℕ) × (k < length squares) × (get_or squares k q ≡ q)
place_of q [] h = absurd h
place_of q (r ∷ squares) (inl e) = (0, omega arith, sym e)
place_of q (r ∷ squares) (inr h) = let p = place_of q squares h in (suc p.0, omega (arith, p.1), p.2)

-- squares of different sides are told by their sides
head_differs : (r : Square) (squares : List Square) → AllPairs (λ p q. p.s ≢ q.s) (r ∷ squares) → (q : Square) → IsOneOf q squares → r.s ≡ q.s → ⊥
head_differs r squares d q h e = let p = place_of q squares h in d zero (suc p.0) q (omega arith) (omega (arith, p.1)) (e ∙ ap (λ (z : Square). z.s) (sym p.2))

same_square : (squares : List Square) → AllPairs (λ p q. p.s ≢ q.s) squares → (p q : Square) → IsOneOf p squares → IsOneOf q squares → p.s ≡ q.s → p ≡ q
same_square [] d p q a b e = absurd a
same_square (r ∷ squares) d p q (inl a) (inl b) e = a ∙ sym b
same_square (r ∷ squares) d p q (inl a) (inr b) e = absurd (head_differs r squares d q b (ap (λ (z : Square). z.s) (sym a) ∙ e))
same_square (r ∷ squares) d p q (inr a) (inl b) e = absurd (head_differs r squares d p a (ap (λ (z : Square). z.s) (sym b) ∙ sym e))
same_square (r ∷ squares) d p q (inr a) (inr b) e = same_square squares (λ i j x low high. d (suc i) (suc j) x (omega arith) (omega arith)) p q a b e

-- the square at a place is one of them
square_of : (squares : List Square) (k : ℕ) (q : Square) → slice_get squares k ≡ Some q → IsOneOf q squares
square_of [] k q e = absurd (cc)
square_of (r ∷ squares) zero q e = inl same
  where
    same : q ≡ r
    same = cc
square_of (r ∷ squares) (suc k) q e = inr (square_of squares k q e)

-- if no square stands twice in a list, no square stands at two places of it
two_places : (squares : List Square) → NoneTwice squares → (i j : ℕ) (q : Square) → j < i → slice_get squares i ≡ Some q → slice_get squares j ≡ Some q → ⊥
two_places [] none i j q low a b = absurd (cc)
two_places (r ∷ squares) none zero j q low a b = absurd (omega arith)
two_places (r ∷ squares) none (suc i) zero q low a b = none.0 (subst (λ (z : Square). IsOneOf z squares) same (square_of squares i q a))
  where
    same : q ≡ r
    same = cc
two_places (r ∷ squares) none (suc i) (suc j) q low a b = two_places squares none.1 i j q (omega arith) a b

-- no two of the squares that fill a perfect tiling from the top have one side
pub sides_apart : (t : Tiling) → IsTiling t → IsPerfect t → (laid : List Square) → FillsFromTop t laid → (i j : ℕ) (p q : Square) → j < i
    → slice_get laid i ≡ Some p → slice_get laid j ≡ Some q → p.s ≡ q.s → ⊥
sides_apart t tiling perfect laid fills i j p q low at_i at_j e = two_places laid once i j p low at_i (at_j ∙ ap (λ (r : Square). Some r) (sym same))
  where
    laid_in : (r : Square) → IsOneOf r laid → IsOneOf r t.squares
    laid_in r h = in_all (λ s. IsOneOf s t.squares) laid fills.squares r h

    once : NoneTwice laid
    once = none_twice laid (λ r h. omega (arith, fills.filled r.x r.y (wide r h) (deep r h))) (λ r h. own_cell t tiling r (laid_in r h))
      where
        wide : (r : Square) → IsOneOf r laid → r.x < t.width
        wide r h = let reach = (within_of t tiling r (laid_in r h)).right in omega (arith, side_of t tiling r (laid_in r h))

        deep : (r : Square) → IsOneOf r laid → r.y < depth laid r.x
        deep r h = omega (
          arith,
          depth_reaches laid r.x r h (column_from r.x r (omega arith) (omega (arith, side_of t tiling r (laid_in r h)))),
          side_of t tiling r (laid_in r h),
        )

    same : p ≡ q
    same = same_square t.squares perfect p q (laid_in p (square_of laid i p at_i)) (laid_in q (square_of laid j q at_j)) e
