-- Squares put into the order of a code: the same squares, and in order where each lies alone over its first cell.
use Rattle.std.specs.List.{AllByRecursion}
use Rattle.std.proofs.Common.{Bool, List, [], ap, arith, cond, count_by, false, inl, inr, refl, subst, sym, true, ℕ, ◌+◌, ◌<◌, ◌∙◌, ◌∷◌, ◌≡◌, ◌≤◌, ◌⊎◌}
use Rattle.std.proofs.lemmas.Bool.{both_ways, cases_Bool}
use Rattle.bk_tiling.proofs.Cells.{all_from, count-cons, covers_from, in_all, one_counted}
use Rattle.bk_tiling.proofs.OrderLaws.{AreApart, comes_before-trans}
use Rattle.bk_tiling.proofs.Scaling.{before_from}
use Rattle.bk_tiling.specs.CodeOrder.{InCodeOrder, comes_before, in_code_order, with_square}
use Rattle.bk_tiling.specs.Tiling.{IsOneOf, covers}
use Rattle.bk_tiling.specs.declared.Square.{Square}
use Rattle.bk_tiling.proofs.Group.{covers_one, group_top, group_within}
use Rattle.bk_tiling.specs.SquareGroups.{laid_group}

from_with : (q : Square) (squares : List Square) (p : Square) → IsOneOf p (with_square q squares) → IsOneOf p (q ∷ squares)
from_with q [] p h = h
from_with q (r ∷ squares) p h = cases (comes_before q r) h (from_with q squares p)
  where
    swap : (p ≡ q) ⊎ IsOneOf p squares → (p ≡ q) ⊎ IsOneOf p (r ∷ squares)
    swap (inl e) = inl e
    swap (inr k) = inr (inr k)

    cases : (b : Bool) → IsOneOf p (cond b (q ∷ r ∷ squares) (r ∷ with_square q squares))
        → (IsOneOf p (with_square q squares) → IsOneOf p (q ∷ squares)) → IsOneOf p (q ∷ r ∷ squares)
    cases true h rest = h
    cases false (inl e) rest = inr (inl e)
    cases false (inr k) rest = swap (rest k)

in_with : (q : Square) (squares : List Square) (p : Square) → IsOneOf p (q ∷ squares) → IsOneOf p (with_square q squares)
in_with q [] p h = h
in_with q (r ∷ squares) p h = cases (comes_before q r) h (in_with q squares p)
  where
    cases : (b : Bool) → IsOneOf p (q ∷ r ∷ squares) → (IsOneOf p (q ∷ squares) → IsOneOf p (with_square q squares))
        → IsOneOf p (cond b (q ∷ r ∷ squares) (r ∷ with_square q squares))
    cases true h rest = h
    cases false (inl e) rest = inr (rest (inl e))
    cases false (inr (inl e)) rest = inl e
    cases false (inr (inr k)) rest = inr (rest (inr k))

-- a square of the list put in order is in the list
pub from_order : (squares : List Square) (p : Square) → IsOneOf p (in_code_order squares) → IsOneOf p squares
from_order [] p h = h
from_order (q ∷ squares) p h = cases (from_with q (in_code_order squares) p h) (from_order squares p)
  where
    cases : (p ≡ q) ⊎ IsOneOf p (in_code_order squares) → (IsOneOf p (in_code_order squares) → IsOneOf p squares) → IsOneOf p (q ∷ squares)
    cases (inl e) rest = inl e
    cases (inr k) rest = inr (rest k)

-- a square of the list is in it put in order
pub in_order : (squares : List Square) (p : Square) → IsOneOf p squares → IsOneOf p (in_code_order squares)
in_order [] p h = h
in_order (q ∷ squares) p (inl e) = in_with q (in_code_order squares) p (inl e)
in_order (q ∷ squares) p (inr k) = in_with q (in_code_order squares) p (inr (in_order squares p k))

with_ordered : (q : Square) (squares : List Square) → ((r : Square) → IsOneOf r squares → AreApart q r) → InCodeOrder squares
    → InCodeOrder (with_square q squares)
with_ordered q [] apart o = (tt, tt)
with_ordered q (r ∷ squares) apart o = cases (cases_Bool (comes_before q r)) (with_ordered q squares (λ p h. apart p (inr h)) o.1)
  where
    cases : (comes_before q r ≡ true) ⊎ (comes_before q r ≡ false) → InCodeOrder (with_square q squares)
        → InCodeOrder (cond (comes_before q r) (q ∷ r ∷ squares) (r ∷ with_square q squares))
    cases (inl e) rest = subst (λ (b : Bool). InCodeOrder (cond b (q ∷ r ∷ squares) (r ∷ with_square q squares))) (sym e)
        ((e, all_from (λ p. comes_before q p ≡ true) squares (λ p h. comes_before-trans q r p e (in_all (λ p. comes_before r p ≡ true) squares o.0 p h))), o)
    cases (inr e) rest = subst (λ (b : Bool). InCodeOrder (cond b (q ∷ r ∷ squares) (r ∷ with_square q squares))) (sym e)
        (all_from (λ p. comes_before r p ≡ true) (with_square q squares) (λ p h. first p (from_with q squares p h)), rest)
      where
        other : AreApart q r → comes_before r q ≡ true
        other (inl f) = absurd (both_ways (comes_before q r) e f)
        other (inr f) = f

        first : (p : Square) → (p ≡ q) ⊎ IsOneOf p squares → comes_before r p ≡ true
        first p (inl same) = ap (comes_before r) same ∙ other (apart r (inl refl))
        first p (inr k) = in_all (λ p. comes_before r p ≡ true) squares o.0 p k

-- squares that each lie alone over their first cell are put in order
pub ordered : (squares : List Square) → ((q : Square) → IsOneOf q squares → 0 < q.s)
    → ((q : Square) → IsOneOf q squares → count_by (covers q.x q.y) squares ≤ 1) → InCodeOrder (in_code_order squares)
ordered [] some once = tt
ordered (q ∷ squares) some once = with_ordered q (in_code_order squares) (λ r h. apart r (from_order squares r h))
    (ordered squares (λ r h. some r (inr h)) (λ r h. omega (arith, once r (inr h), count-cons (covers r.x r.y) q squares)))
  where
    three : (q r : Square) → ((q.y < r.y) ⊎ ((q.y ≡ r.y) × (q.x < r.x))) ⊎ ((r.y < q.y) ⊎ ((r.y ≡ q.y) × (r.x < q.x))) ⊎ ((q.y ≡ r.y) × (q.x ≡ r.x))
    three q r = grind arith

    apart : (r : Square) → IsOneOf r squares → AreApart q r
    apart r h = cases (three q r)
      where
        cases : ((q.y < r.y) ⊎ ((q.y ≡ r.y) × (q.x < r.x))) ⊎ ((r.y < q.y) ⊎ ((r.y ≡ q.y) × (r.x < q.x))) ⊎ ((q.y ≡ r.y) × (q.x ≡ r.x)) → AreApart q r
        cases (inl a) = inl (before_from q r a)
        cases (inr (inl a)) = inr (before_from r q a)
        cases (inr (inr (y, x))) = absurd (omega (
          arith,
          once q (inl refl),
          count-cons (covers q.x q.y) q squares,
          covers_one q.x q.y q (covers_from q.x q.y q (omega arith) (omega (arith, some q (inl refl))) (omega arith) (omega (arith, some q (inl refl)))),
          one_counted (covers q.x q.y) squares r h
              (covers_from q.x q.y r (omega (arith, x)) (omega (arith, x, some r (inr h))) (omega (arith, y)) (omega (arith, y, some r (inr h)))),
        ))

-- a group stands in order
pub group_ordered : (x level : ℕ) (sides : List ℕ) → AllByRecursion (λ s. 0 < s) sides → InCodeOrder (laid_group x level sides)
group_ordered x level [] some = tt
group_ordered x level (s ∷ sides) some = (
  all_from (λ r. comes_before (record { x = x; y = level; s = s }) r ≡ true) (laid_group (x + s) level sides)
      (λ r h. before_from (record { x = x; y = level; s = s }) r
      (inr (sym (group_top (x + s) level sides r h), omega (arith, (group_within (x + s) level sides r h).0, some.0)))),
  group_ordered (x + s) level sides some.1,
)
