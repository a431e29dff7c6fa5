-- How many groups there are: one or more, and the squares, less those at whose top left corner another has its top right corner.
use Rattle.std.specs.List.{onto_first}
use Rattle.std.proofs.Common.{Bool, List, [], ap, arith, cond, count_by, false, inl, inr, length, refl, sum_by, sym, true, ℕ, ◌+◌, ◌<◌, ◌∙◌, ◌∷◌, ◌≡◌, ◌≤◌}
use Rattle.std.proofs.lemmas.Bool.Decides.{nat_tests}
use Rattle.std.proofs.lemmas.List.Sums.{sum_by-cons}
use Rattle.bk_laws.proofs.TestsAsNumbers.{cond_count-of_true}
use Rattle.bk_tiling.proofs.Cells.{count-cons, covers_from, in_all, none_counted, one_counted}
use Rattle.bk_tiling.proofs.PairCounts.{pairs_cons, pairs_exchanged}
use Rattle.bk_tiling.specs.CodeOrder.{InCodeOrder, comes_before, stands_beside}
use Rattle.bk_tiling.specs.SquareGroups.{square_groups}
use Rattle.bk_tiling.specs.Tiling.{IsOneOf, covers}
use Rattle.bk_tiling.specs.declared.Square.{Square}

put_some : (b : Bool) (q : Square) (groups : List (List Square)) → 0 < length (cond b (onto_first q groups) ((q ∷ []) ∷ groups))
put_some true q [] = omega arith
put_some true q (g ∷ groups) = omega arith
put_some false q groups = omega arith

-- a first square begins a group
pub square_groups-some : (q : Square) (squares : List Square) → 0 < length (square_groups (q ∷ squares))
square_groups-some q [] = omega arith
square_groups-some q (r ∷ squares) = put_some (stands_beside q r) q (square_groups (r ∷ squares))

-- where there are squares there is a group
pub some_group : (squares : List Square) → 0 < length squares → 0 < length (square_groups squares)
some_group [] h = absurd (omega arith)
some_group (q ∷ squares) h = square_groups-some q squares

beside_column : (p q : Square) → stands_beside p q ≡ true → p.x + p.s ≡ q.x
beside_column p q e = grind (arith, nat_tests)

not_itself : (q : Square) → 0 < q.s → stands_beside q q ≡ true → ⊥
not_itself q some e = omega (arith, beside_column q q e)

not_earlier : (q p : Square) → comes_before q p ≡ true → 0 < p.s → stands_beside p q ≡ true → ⊥
not_earlier q p before some e = grind (arith, nat_tests)

-- squares in the order of a code, each with a side, that share no cell
pub record AreLaid (squares : List Square) : Type 0 where
  pub ordered : InCodeOrder squares
  pub sides : (q : Square) → IsOneOf q squares → 0 < q.s
  pub most : (i j : ℕ) → count_by (covers i j) squares ≤ 1

laid_rest : (q : Square) (squares : List Square) → AreLaid (q ∷ squares) → AreLaid squares
laid_rest q squares laid = record {
  ordered = laid.ordered.1;
  sides = λ r h. laid.sides r (inr h);
  most = λ i j. omega (arith, laid.most i j, count-cons (covers i j) q squares);
}

-- only the next square stands beside one
past_next : (q r p : Square) → comes_before q r ≡ true → comes_before r p ≡ true → stands_beside q p ≡ true → (r.y ≡ q.y) × (q.x < r.x) × (r.x < q.x + q.s)
past_next q r p a b e = (grind (arith, nat_tests), grind (arith, nat_tests), grind (arith, nat_tests))

none_past : (q r : Square) (squares : List Square) → AreLaid (q ∷ r ∷ squares) → count_by (stands_beside q) squares ≡ 0
none_past q r squares laid = none_counted (stands_beside q) squares
    (λ p h e. clash (past_next q r p laid.ordered.0.0 (in_all (λ p. comes_before r p ≡ true) squares laid.ordered.1.0 p h) e))
  where
    some : 0 < q.s
    some = laid.sides q (inl refl)

    more : 0 < r.s
    more = laid.sides r (inr (inl refl))

    clash : (r.y ≡ q.y) × (q.x < r.x) × (r.x < q.x + q.s) → ⊥
    clash (level, left, right) = omega (
      arith,
      laid.most r.x r.y,
      count-cons (covers r.x r.y) q (r ∷ squares),
      cond_count-of_true (covers r.x r.y q) (covers_from r.x r.y q (omega arith) right (omega (arith, level)) (omega (arith, level, some))),
      one_counted (covers r.x r.y) (r ∷ squares) r (inl refl) (covers_from r.x r.y r (omega arith) (omega (arith, more)) (omega arith) (omega (arith, more))),
    )

-- the groups, and the pairs of squares of which one stands beside the other
groups_more : (b : Bool) (q : Square) (groups : List (List Square)) → 0 < length groups
    → length (cond b (onto_first q groups) ((q ∷ []) ∷ groups)) + cond {A = ℕ} b 1 0 ≡ length groups + 1
groups_more true q [] some = absurd (omega arith)
groups_more true q (g ∷ groups) some = omega arith
groups_more false q groups some = omega arith

pairs_first : (q : Square) (squares : List Square) → AreLaid (q ∷ squares)
    → sum_by (λ p. count_by (stands_beside p) (q ∷ squares)) (q ∷ squares)
    ≡ count_by (stands_beside q) squares + sum_by (λ p. count_by (stands_beside p) squares) squares
pairs_first q squares laid = omega (
  arith,
  sum_by-cons (λ p. count_by (stands_beside p) (q ∷ squares)) q squares,
  pairs_cons stands_beside q squares squares,
  none_counted (λ p. stands_beside p q) squares
      (λ p h e. not_earlier q p (in_all (λ p. comes_before q p ≡ true) squares laid.ordered.0 p h) (laid.sides p (inr h)) e),
  count-cons (stands_beside q) q squares,
  none_counted (stands_beside q) (q ∷ []) own,
  count-cons (stands_beside q) q [],
)
  where
    own : (p : Square) → IsOneOf p (q ∷ []) → stands_beside q p ≡ true → ⊥
    own p (inl same) e = not_itself q (laid.sides q (inl refl)) (ap (stands_beside q) (sym same) ∙ e)
    own p (inr h) e = absurd h

groups_by_first : (squares : List Square) → AreLaid squares
    → length (square_groups squares) + sum_by (λ p. count_by (stands_beside p) squares) squares ≡ length squares
groups_by_first [] laid = refl
groups_by_first (q ∷ []) laid = omega (arith, pairs_first q [] laid)
groups_by_first (q ∷ r ∷ squares) laid = omega (
  arith,
  pairs_first q (r ∷ squares) laid,
  count-cons (stands_beside q) r squares,
  none_past q r squares laid,
  groups_more (stands_beside q r) q (square_groups (r ∷ squares)) (square_groups-some r squares),
  groups_by_first (r ∷ squares) (laid_rest q (r ∷ squares) laid),
)

-- the groups and the pairs of squares of which one stands beside the other are together as many as the squares
pub groups_counted : (squares : List Square) → AreLaid squares
    → length (square_groups squares) + sum_by (λ r. count_by (λ p. stands_beside p r) squares) squares ≡ length squares
groups_counted squares laid = omega (arith, groups_by_first squares laid, pairs_exchanged stands_beside squares squares)
