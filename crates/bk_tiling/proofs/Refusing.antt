-- Squares that share a cell, and squares that share none, sorted.
use Rattle.std.specs.Cmp.{IsTotalOrder}
use Rattle.std.specs.List.Sorted.{IsPermutation, IsSortedByKey}
use Rattle.std.specs.Ordering.{is_lt, nat_cmp, ordering_then}
use Rattle.std.specs.Prelude.{AllPairs, slice_index_or}
use Rattle.std.proofs.Common.{Bool, List, [], ap, arith, cond, count_by, false, inl, inr, length, max, refl, subst, suc, sym, true, zero, ℕ, ◌+◌}
use Rattle.std.proofs.Common.{◌<◌, ◌∷◌, ◌≡◌, ◌≤◌, ◌⊎◌, ⊎_elim}
use Rattle.std.proofs.lemmas.Cmp.{nat_cmp_total, on_total, then_total}
use Rattle.std.proofs.lemmas.List.Elements.{recursion_from_All}
use Rattle.std.proofs.lemmas.List.Sorted.{All-permutation, IsPermutation-sym, ranks_by, sorted_far, sum_by-IsPermutation}
use Rattle.std.proofs.lemmas.Bool.{both_ways, cases_Bool, cases_lt}
use Rattle.bk_laws.proofs.HasAtLaws.{has_at-below, has_at-read, has_at-within}
use Rattle.bk_tiling.proofs.Cells.{all_from, count-cons, covers_from, in_all, none_counted, one_counted, over_from}
use Rattle.bk_tiling.proofs.Group.{covers_one}
use Rattle.bk_tiling.proofs.Members.{one_at}
use Rattle.bk_tiling.proofs.OrderLaws.{before_by_rank}
use Rattle.bk_tiling.proofs.PuttingInOrder.{from_order, in_order, ordered}
use Rattle.bk_tiling.proofs.Scaling.{before_from, same_members}
use Rattle.bk_tiling.specs.CodeOrder.{InCodeOrder, comes_before, in_code_order}
use Rattle.bk_tiling.specs.KeptTiling.{IsSide}
use Rattle.bk_tiling.specs.Refusal.{HaveSides, IsFirstOverlap, IsLesserPair, ShareCellAt, ShareNoCell, SharesCell}
use Rattle.bk_tiling.specs.Sharing.{IsFirstSharing, SharesWithNoneBefore}
use Rattle.bk_tiling.specs.Tiling.{IsOneOf, covers}
use Rattle.bk_tiling.specs.declared.Square.{Square}

-- squares whose sides cross in both directions share a cell
pub shares_from : (p q : Square) → 0 < p.s → 0 < q.s → p.x < q.x + q.s → q.x < p.x + p.s → p.y < q.y + q.s → q.y < p.y + p.s → SharesCell p q
shares_from p q ps qs a b c d = record {
  column = max p.x q.x;
  level = max p.y q.y;
  in_first = covers_from (max p.x q.x) (max p.y q.y) p (omega arith) (omega arith) (omega arith) (omega arith);
  in_second = covers_from (max p.x q.x) (max p.y q.y) q (omega arith) (omega arith) (omega arith) (omega arith);
}

-- two squares that have a column and a level in common
pub record Cross (p q : Square) : Type 0 where
  pub right : p.x < q.x + q.s
  pub left : q.x < p.x + p.s
  pub bottom : p.y < q.y + q.s
  pub top : q.y < p.y + p.s

-- squares that share a cell reach past each other in both directions
pub cross_from : (p q : Square) → SharesCell p q → Cross p q
cross_from p q h =
    let a = over_from h.column h.level p h.in_first in
    let b = over_from h.column h.level q h.in_second in
    record {
      right = omega (arith, a.left, b.right);
      left = omega (arith, b.left, a.right);
      bottom = omega (arith, a.top, b.bottom);
      top =
          omega (arith, b.top, a.bottom);
    }

-- of squares no two of which share a cell, the first shares none with a later one
first_apart : (q : Square) (squares : List Square) → ShareNoCell (q ∷ squares) → (r : Square) → IsOneOf r squares → ¬ (SharesCell q r)
first_apart q squares apart r h = in_all (λ r. ¬ (SharesCell q r)) squares
    (recursion_from_All (λ r. ¬ (SharesCell q r)) squares (λ k d below. apart 0 (suc k) d (omega arith) (omega arith))) r h

rest_apart : (q : Square) (squares : List Square) → ShareNoCell (q ∷ squares) → ShareNoCell squares
rest_apart q squares apart a b d up below = apart (suc a) (suc b) d (omega arith) (omega arith)

-- where no two squares share a cell, no cell lies in two
pub at_most_one : (squares : List Square) → ShareNoCell squares → (i j : ℕ) → count_by (covers i j) squares ≤ 1
at_most_one [] apart i j = omega arith
at_most_one (q ∷ squares) apart i j = cases (covers i j q) refl (at_most_one squares (rest_apart q squares apart) i j)
  where
    cases : (b : Bool) → covers i j q ≡ b → count_by (covers i j) squares ≤ 1 → count_by (covers i j) (q ∷ squares) ≤ 1
    cases true e rest = omega (
      arith,
      count-cons (covers i j) q squares,
      covers_one i j q e,
      none_counted (covers i j) squares (λ r h f. first_apart q squares apart r h (record { column = i; level = j; in_first = e; in_second = f })),
    )
    cases false e rest = let none : ◌≡◌ {A = ℕ} (cond (covers i j q) 1 0) 0 =
        ap (λ (b : Bool). cond {A = ℕ} b 1 0) e in omega (arith, count-cons (covers i j) q squares, rest)

-- squares that share a cell are counted there twice
pub counted_twice : (squares : List Square) (i j a b : ℕ) (d : Square) → a < b → b < length squares
    → covers i j (slice_index_or squares a d) ≡ true → covers i j (slice_index_or squares b d) ≡ true → 1 < count_by (covers i j) squares
counted_twice [] i j a b d up below e f = absurd (omega arith)
counted_twice (q ∷ squares) i j zero zero d up below e f = absurd (omega arith)
counted_twice (q ∷ squares) i j zero (suc b) d up below e f = omega (
  arith,
  count-cons (covers i j) q squares,
  covers_one i j q e,
  one_counted (covers i j) squares (slice_index_or squares b d) (one_at squares b d (omega arith)) f,
)
counted_twice (q ∷ squares) i j (suc a) zero d up below e f = absurd (omega arith)
counted_twice (q ∷ squares) i j (suc a) (suc b) d up below e f =
    omega (arith, count-cons (covers i j) q squares, counted_twice squares i j a b d (omega arith) (omega arith) e f)

-- squares in no later than the order of a code, no two over one cell, are in that order
strictly : (squares : List Square) → ((q : Square) → IsOneOf q squares → 0 < q.s) → ((i j : ℕ) → count_by (covers i j) squares ≤ 1)
    → AllPairs (λ p q. comes_before q p ≡ false) squares → InCodeOrder squares
strictly [] some once sorted = tt
strictly (q ∷ squares) some once sorted = (
  all_from (λ r. comes_before q r ≡ true) squares first,
  strictly squares (λ r h. some r (inr h)) (λ i j. omega (arith, once i j, count-cons (covers i j) q squares))
      (λ a b d up below. sorted (suc a) (suc b) d (omega arith) (omega arith)),
)
  where
    not_after : (r : Square) → IsOneOf r squares → comes_before r q ≡ false
    not_after r h = in_all (λ r. comes_before r q ≡ false) squares
        (recursion_from_All (λ r. comes_before r q ≡ false) squares (λ k d below. sorted 0 (suc k) d (omega arith) (omega arith))) r h

    three : (q r : Square) → ((q.y < r.y) ⊎ ((q.y ≡ r.y) × (q.x < r.x))) ⊎ ((r.y < q.y) ⊎ ((r.y ≡ q.y) × (r.x < q.x))) ⊎ ((q.y ≡ r.y) × (q.x ≡ r.x))
    three q r = grind arith

    first : (r : Square) → IsOneOf r squares → comes_before q r ≡ true
    first r h = cases (three q r)
      where
        cases : ((q.y < r.y) ⊎ ((q.y ≡ r.y) × (q.x < r.x))) ⊎ ((r.y < q.y) ⊎ ((r.y ≡ q.y) × (r.x < q.x))) ⊎ ((q.y ≡ r.y) × (q.x ≡ r.x))
            → comes_before q r ≡ true
        cases (inl a) = before_from q r a
        cases (inr (inl a)) = absurd (both_ways (comes_before r q) (not_after r h) (before_from r q a))
        cases (inr (inr (y, x))) = absurd (omega (
          arith,
          once q.x q.y,
          count-cons (covers q.x q.y) q squares,
          covers_one q.x q.y q (covers_from q.x q.y q (omega arith) (omega (arith, some q (inl refl))) (omega arith) (omega (arith, some q (inl refl)))),
          one_counted (covers q.x q.y) squares r h
              (covers_from q.x q.y r (omega (arith, x)) (omega (arith, x, some r (inr h))) (omega (arith, y)) (omega (arith, y, some r (inr h)))),
        ))

-- a sort by level and then by column
abbrev pub IsSortedByPlace : List Square → Type 0
IsSortedByPlace squares = IsSortedByKey (λ (q : Square). (q.y, q.x)) (λ (a b : ℕ × ℕ). ordering_then (nat_cmp a.0 b.0) (nat_cmp a.1 b.1)) squares

none_after : (squares : List Square) → IsSortedByPlace squares → AllPairs (λ p q. comes_before q p ≡ false) squares
none_after squares sorted i j d up below = cases (cases_Bool (comes_before (slice_index_or squares j d) (slice_index_or squares i d)))
  where
    total : IsTotalOrder (λ (a b : ℕ × ℕ). ordering_then (nat_cmp a.0 b.0) (nat_cmp a.1 b.1))
    total = then_total (on_total (λ (a : ℕ × ℕ). a.0) nat_cmp_total) (on_total (λ (a : ℕ × ℕ). a.1) nat_cmp_total)

    cases : (comes_before (slice_index_or squares j d) (slice_index_or squares i d) ≡ true)
        ⊎ (comes_before (slice_index_or squares j d) (slice_index_or squares i d) ≡ false)
        → comes_before (slice_index_or squares j d) (slice_index_or squares i d) ≡ false
    cases (inl e) =
        absurd (both_ways _ (sorted_far (λ (p q : Square). is_lt (ordering_then (nat_cmp p.y q.y) (nat_cmp p.x q.x)))
        (ranks_by total (λ (q : Square). (q.y, q.x))) squares sorted i j d (omega arith) below)
        (before_by_rank (slice_index_or squares j d) (slice_index_or squares i d) e))
    cases (inr e) = e

members : (qs rs : List Square) → IsPermutation qs rs → (q : Square) → IsOneOf q rs → IsOneOf q qs
members qs rs p q h =
    in_all (λ q. IsOneOf q qs) rs
    (recursion_from_All (λ q. IsOneOf q qs) rs (All-permutation (λ q. IsOneOf q qs) qs rs p (λ k d below. one_at qs k d below))) q h

-- squares with sides, no two over one cell, sorted by level and then by column, are in the order of a code
pub sorted_in_order : (qs rs : List Square) → HaveSides qs → ShareNoCell qs → IsPermutation qs rs → IsSortedByPlace rs → rs ≡ in_code_order qs
sorted_in_order qs rs sides apart p sorted = same_members rs (in_code_order qs)
    (strictly rs (λ q h. some q (members qs rs p q h))
    (λ i j. omega (arith, at_most_one qs apart i j, sum_by-IsPermutation (λ q. cond {A = ℕ} (covers i j q) 1 0) qs rs p)) (none_after rs sorted))
    (ordered qs some (λ q h. at_most_one qs apart q.x q.y))
    (λ q h. in_order qs q (members qs rs p q h))
    (λ q h. members rs qs (IsPermutation-sym qs rs p) q (from_order qs q h))
  where
    some : (q : Square) → IsOneOf q qs → 0 < q.s
    some q h = (in_all (λ q. IsSide q.s) qs (recursion_from_All (λ q. IsSide q.s) qs sides) q h).0

-- if the squares that are read at two places within a list share a cell, the list has squares there that do
pub share_from : (squares : List Square) (i j : ℕ) (d : Square) → i < length squares → j < length squares
    → SharesCell (slice_index_or squares i d) (slice_index_or squares j d) → ShareCellAt squares i j
share_from squares i j d within_i within_j share = record {
  first = slice_index_or squares i d;
  second = slice_index_or squares j d;
  first_is = has_at-within squares i d within_i;
  second_is = has_at-within squares j d within_j;
  share = share;
}

-- where a list has squares at two places that share a cell, those that are read there do
pub share_read : (squares : List Square) (i j : ℕ) (d : Square) → ShareCellAt squares i j
    → SharesCell (slice_index_or squares i d) (slice_index_or squares j d)
share_read squares i j d at =
    subst (λ (p : Square). SharesCell p (slice_index_or squares j d)) (sym (has_at-read squares i at.first d at.first_is))
    (subst (λ (q : Square). SharesCell at.first q) (sym (has_at-read squares j at.second d at.second_is)) at.share)

-- a square that shares no cell with the later ones before place j, nor with the one there, shares none with those up to it
pub none_before-more : (squares : List Square) (i j : ℕ) (d : Square) → SharesWithNoneBefore squares i j
    → ¬ (SharesCell (slice_index_or squares i d) (slice_index_or squares j d)) → SharesWithNoneBefore squares i (j + 1)
none_before-more squares i j d before not k low high at =
    ⊎_elim (λ (h : k < j). before k low h at) (λ (h : j ≤ k). not (subst (λ (n : ℕ). SharesCell (slice_index_or squares i d) (slice_index_or squares n d))
    (same h) (share_read squares i k d at))) (cases_lt k j)
  where
    same : j ≤ k → k ≡ j
    same h = omega (arith, h, high)

-- if each square before place i shares no cell with a later one, the first later one that shares one with i makes the first overlap
pub first_overlap_from : (squares : List Square) (i j : ℕ) → ((a b : ℕ) → a < i → a < b → ¬ (ShareCellAt squares a b))
    → IsFirstSharing squares i j → IsFirstOverlap squares i j
first_overlap_from squares i j earlier first = record { ascending = first.after; below = first.below; here = first.here; before = before }
  where
    before : (a b : ℕ) → a < b → IsLesserPair a b i j → ¬ (ShareCellAt squares a b)
    before a b over (inl l) = earlier a b l over
    before a b over (inr (e, l)) = subst (λ (a : ℕ). ¬ (ShareCellAt squares a b)) (sym e) (first.before b (omega (arith, e)) l)

-- if the squares before place i share no cell with later ones, nor does the one there, those up to it share none
pub rows_more : (squares : List Square) (i : ℕ) → ((a b : ℕ) → a < i → a < b → ¬ (ShareCellAt squares a b))
    → SharesWithNoneBefore squares i (length squares) → (a b : ℕ) → a < i + 1 → a < b → ¬ (ShareCellAt squares a b)
rows_more squares i earlier here a b below over at =
    ⊎_elim (λ (h : a < i). earlier a b h over at) (λ (h : i ≤ a). here b (over_i h) (has_at-below squares b at.second at.second_is)
    (subst (λ (n : ℕ). ShareCellAt squares n b) (same h) at)) (cases_lt a i)
  where
    same : i ≤ a → a ≡ i
    same h = omega (arith, h, below)

    over_i : i ≤ a → i < b
    over_i h = omega (arith, h, over)

-- if no square before the end of the list shares a cell with a later one, no two share a cell
pub shares_no_cell-to_end : (squares : List Square) (n : ℕ) → ((a b : ℕ) → a < n → a < b → ¬ (ShareCellAt squares a b)) → length squares ≤ n
    → ShareNoCell squares
shares_no_cell-to_end squares n apart past a b d up below share =
    apart a b (omega (arith, up, below, past)) up (share_from squares a b d (omega (arith, up, below)) below share)
