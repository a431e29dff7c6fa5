-- Squares of lists in front of others and behind them, at a place, and found by a test.
use Rattle.std.proofs.Common.{Bool, List, None, Option, Some, [], ap, arith, cond, count_by, false, inl, inr, length, refl, slice_index_or, suc}
use Rattle.std.proofs.Common.{true, zero, ℕ, ◌++◌, ◌∙◌, ◌<◌, ◌∷◌, ◌≡◌}
use Rattle.std.specs.List.{find}
use Rattle.bk_tiling.proofs.Cells.{count-cons}
use Rattle.bk_tiling.specs.Tiling.{IsOneOf}
use Rattle.bk_tiling.specs.declared.Square.{Square}

-- a square of the front list is in the whole list
pub in_front : (front more : List Square) (q : Square) → IsOneOf q front → IsOneOf q (front ++ more)
in_front [] more q h = absurd h
in_front (r ∷ front) more q (inl same) = inl same
in_front (r ∷ front) more q (inr h) = inr (in_front front more q h)

-- a square of the list behind is in the whole list
pub in_back : (front more : List Square) (q : Square) → IsOneOf q more → IsOneOf q (front ++ more)
in_back [] more q h = h
in_back (r ∷ front) more q h = inr (in_back front more q h)

-- the square at a place is one of the squares
pub one_at : (squares : List Square) (k : ℕ) (d : Square) → k < length squares → IsOneOf (slice_index_or squares k d) squares
one_at [] k d h = absurd (omega arith)
one_at (q ∷ squares) zero d h = inl refl
one_at (q ∷ squares) (suc k) d h = inr (one_at squares k d (omega arith))

-- what a search finds
pub found_one : (p : Square → Bool) (squares : List Square) (q : Square) → Some q ≡ find p squares → IsOneOf q squares × (p q ≡ true)
found_one p [] q e = absurd (cc)
found_one p (r ∷ squares) q e = cases (p r) refl e (found_one p squares q)
  where
    cases : (b : Bool) → p r ≡ b → ◌≡◌ {A = Option Square} (Some q) (cond b (Some r) (find p squares))
        → (Some q ≡ find p squares → IsOneOf q squares × (p q ≡ true)) → IsOneOf q (r ∷ squares) × (p q ≡ true)
    cases true f e rest = let same : q ≡ r = cc in (inl same, ap p same ∙ f)
    cases false f e rest = (inr (rest e).0, (rest e).1)

-- where no square is found by a test, none passes it
pub found_none : (p : Square → Bool) (squares : List Square) → None ≡ find p squares → count_by p squares ≡ 0
found_none p [] e = refl
found_none p (r ∷ squares) e = cases (p r) refl e (found_none p squares)
  where
    cases : (b : Bool) → p r ≡ b → ◌≡◌ {A = Option Square} None (cond b (Some r) (find p squares)) → (None ≡ find p squares → count_by p squares ≡ 0)
        → count_by p (r ∷ squares) ≡ 0
    cases true f e rest = absurd (cc)
    cases false f e rest = let none : ◌≡◌ {A = ℕ} (cond (p r) 1 0) 0 = ap (λ (b : Bool). cond {A = ℕ} b 1 0) f in omega (arith, count-cons p r squares, rest e)
