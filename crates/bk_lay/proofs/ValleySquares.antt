-- The squares under the leftmost valley stand side by side from its first column to its last, and each one's bottom is
-- the new depth of its columns.
use Rattle.std.specs.List.{AllByRecursion}
use Rattle.std.proofs.Common.{Bool, List, [], ap, arith, cond, false, filter, inl, inr, refl, sym, true, ℕ, ◌++◌, ◌+◌, ◌<◌, ◌∙◌, ◌∷◌, ◌≡◌, ◌≤◌, ◌⊎◌}
use Rattle.std.proofs.lemmas.Bool.{cases_lt}
use Rattle.std.proofs.lemmas.Bool.Decides.{nat_tests}
use Rattle.bk_laws.proofs.NumberOrder.{le_or_gt}
use Rattle.bk_tiling.proofs.Cells.{column_from, column_left, column_right, counted_one, covers_from, depth-append, depth_comes_from, depth_reaches}
use Rattle.bk_tiling.proofs.Cells.{from_append, in_all, in_filter, no_two, over_from}
use Rattle.bk_tiling.proofs.Rows.{Chain}
use Rattle.bk_tiling.specs.CodeOrder.{InCodeOrder, comes_before}
use Rattle.bk_tiling.specs.Column.{covers_column, depth}
use Rattle.bk_tiling.specs.declared.Segment.{Segment}
use Rattle.bk_tiling.specs.Tiling.{IsOneOf, IsTiling, Tiling, covers}
use Rattle.bk_tiling.specs.declared.Square.{Square}
use Rattle.bk_lay.proofs.UnderValley.{cell, hangs}
use Rattle.bk_lay.proofs.Filling.{in_tiling, is_under}
use Rattle.bk_lay.specs.Depiction.{FillsFromTop}
use Rattle.bk_lay.specs.TilingWord.{IsLeftmostValley, hangs_under, squares_under}

all_filter : (P : Square → Type 0) (test : Square → Bool) (squares : List Square) → AllByRecursion P squares → AllByRecursion P (filter test squares)
all_filter P test [] a = tt
all_filter P test (q ∷ squares) a = cases (test q) (all_filter P test squares a.1)
  where
    cases : (b : Bool) → AllByRecursion P (filter test squares) → AllByRecursion P (cond b (q ∷ filter test squares) (filter test squares))
    cases true rest = (a.0, rest)
    cases false rest = rest

-- selected squares stand in the order of a code where all do
pub ordered_filter : (test : Square → Bool) (squares : List Square) → InCodeOrder squares → InCodeOrder (filter test squares)
ordered_filter test [] o = tt
ordered_filter test (q ∷ squares) o = cases (test q) (ordered_filter test squares o.1)
  where
    cases : (b : Bool) → InCodeOrder (filter test squares) → InCodeOrder (cond b (q ∷ filter test squares) (filter test squares))
    cases true rest = (all_filter (λ r. comes_before q r ≡ true) test squares o.0, rest)
    cases false rest = rest

further_right : (q r : Square) → comes_before q r ≡ true → q.y ≡ r.y → q.x < r.x
further_right q r e same = grind (arith, nat_tests)

module _ (level end : ℕ) where
  -- squares in order, on one level, within the columns up to the end
  record Row (x : ℕ) (squares : List Square) : Type 0 where
    ordered : InCodeOrder squares
    tops : (q : Square) → IsOneOf q squares → q.y ≡ level
    sides : (q : Square) → IsOneOf q squares → 0 < q.s
    begins : (q : Square) → IsOneOf q squares → x ≤ q.x
    ends : (q : Square) → IsOneOf q squares → q.x + q.s ≤ end
    over : (c : ℕ) → x ≤ c → c < end → (q : Square) × IsOneOf q squares × (q.x ≤ c) × (c < q.x + q.s)
    apart : (q r : Square) → IsOneOf q squares → IsOneOf r squares → (c : ℕ) → q.x ≤ c → c < q.x + q.s → r.x ≤ c → c < r.x + r.s → q ≡ r

  chain : (squares : List Square) (x : ℕ) → x ≤ end → Row x squares → Chain x squares end
  chain [] x h row = cases (cases_lt x end)
    where
      cases : (x < end) ⊎ (end ≤ x) → x ≡ end
      cases (inl k) = let there = row.over x (omega arith) k in absurd there.1
      cases (inr k) = omega arith
  chain (q ∷ squares) x h row = (first, chain squares (x + q.s) (let a = row.ends q (inl refl) in omega (arith, first)) rest)
    where
      start : q.x ≡ x
      start = cases there.1
        where
          wide : x < end
          wide = let a = row.begins q (inl refl) in let b = row.ends q (inl refl) in let d = row.sides q (inl refl) in omega arith

          there : (p : Square) × IsOneOf p (q ∷ squares) × (p.x ≤ x) × (x < p.x + p.s)
          there = row.over x (omega arith) wide

          cases : IsOneOf there.0 (q ∷ squares) → q.x ≡ x
          cases (inl same) = let e : (there.0).x ≡ q.x = ap (λ (s : Square). s.x) same in let a = row.begins q (inl refl) in omega (arith, there.2)
          cases (inr k) = let a = row.begins q (inl refl) in
              absurd (omega (
                arith,
                there.2,
                further_right q there.0 (in_all (λ r. comes_before q r ≡ true) squares (row.ordered).0 there.0 k) (row.tops q (inl refl)
                    ∙ sym (row.tops there.0 (inr k))),
              ))

      first : q.x ≡ x
      first = start

      after : (r : Square) → IsOneOf r squares → q.x < r.x
      after r k = further_right q r (in_all (λ r. comes_before q r ≡ true) squares (row.ordered).0 r k) (row.tops q (inl refl) ∙ sym (row.tops r (inr k)))

      rest : Row (x + q.s) squares
      rest = record {
        ordered = (row.ordered).1;
        tops = λ r k. row.tops r (inr k);
        sides = λ r k. row.sides r (inr k);
        begins = λ r k. behind r k (le_or_gt (x + q.s) r.x);
        ends = λ r k. row.ends r (inr k);
        over = λ c lo hi. others c lo (row.over c (omega arith) hi);
        apart = λ a b k l. row.apart a b (inr k) (inr l);
      }
        where
          behind : (r : Square) → IsOneOf r squares → (x + q.s ≤ r.x) ⊎ (r.x < x + q.s) → x + q.s ≤ r.x
          behind r k (inl d) = d
          behind r k (inr d) = let side = row.sides r (inr k) in let right = after r k in
              let same : q ≡ r = row.apart q r (inl refl) (inr k) r.x (omega arith) (omega (arith, start)) (omega arith) (omega arith) in
              let e : q.x ≡ r.x = ap (λ (s : Square). s.x) same in absurd (omega arith)

          others : (c : ℕ) → x + q.s ≤ c → ((p : Square) × IsOneOf p (q ∷ squares) × (p.x ≤ c) × (c < p.x + p.s))
              → (p : Square) × IsOneOf p squares × (p.x ≤ c) × (c < p.x + p.s)
          others c lo (p, inl same, a, b) = let e : p.x + p.s ≡ q.x + q.s = ap (λ (s : Square). s.x + s.s) same in absurd (omega (arith, start))
          others c lo (p, inr k, a, b) = (p, k, a, b)

module _ (t : Tiling) (laid : List Square) (v : Segment) (tiling : IsTiling t) (fills : FillsFromTop t laid) (found : IsLeftmostValley t.width laid v)
    (low : v.level < t.height) where
  side_of : (q : Square) → IsOneOf q (squares_under t v) → 0 < q.s
  side_of q h = in_all (λ q. 0 < q.s) t.squares (tiling.tiles).sides q (in_tiling t laid v tiling fills found low q h)

  top_of : (q : Square) → IsOneOf q (squares_under t v) → q.y ≡ v.level
  top_of q h = (is_under t laid v tiling fills found low q h).level

  -- two of them do not stand over one column
  pub one_square_under_the_valley_over_a_column : (q r : Square) → IsOneOf q (squares_under t v) → IsOneOf r (squares_under t v) → (c : ℕ) → q.x ≤ c
      → c < q.x + q.s → r.x ≤ c
      → c < r.x + r.s → q ≡ r
  one_square_under_the_valley_over_a_column q r a b c p1 p2 p3 p4 = no_two (covers c v.level) t.squares
      (omega (arith, cell t laid v tiling fills found low c v.level wide low)) q r
      (in_tiling t laid v tiling fills found low q a) (covers_from c v.level q p1 p2 (omega (arith, top_of q a)) (omega (arith, top_of q a, side_of q a)))
      (in_tiling t laid v tiling fills found low r b) (covers_from c v.level r p3 p4 (omega (arith, top_of r b)) (omega (arith, top_of r b, side_of r b)))
    where
      wide : c < t.width
      wide = let d = (is_under t laid v tiling fills found low q a).right in let e = ((found.valley).flat).within in omega arith

  -- the squares under the valley stand side by side, from its first column to its end
  pub under_chain : Chain v.x (squares_under t v) (v.x + v.width)
  under_chain = chain v.level (v.x + v.width) (squares_under t v) v.x (omega arith) (record {
    ordered = ordered_filter (hangs_under v) t.squares tiling.ordered;
    tops = top_of;
    sides = side_of;
    begins = λ q h. (is_under t laid v tiling fills found low q h).left;
    ends = λ q h. (is_under t laid v tiling fills found low q h).right;
    over = over;
    apart = one_square_under_the_valley_over_a_column;
  })
    where
      over : (c : ℕ) → v.x ≤ c → c < v.x + v.width → (q : Square) × IsOneOf q (squares_under t v) × (q.x ≤ c) × (c < q.x + q.s)
      over c lo hi = (
        there.0,
        in_filter (hangs_under v) t.squares there.0 there.1 (hangs t laid v tiling fills found low c there.0 lo hi there.1 there.2),
        (over_from c v.level there.0 there.2).left,
        (over_from c v.level there.0 there.2).right,
      )
        where
          wide : c < t.width
          wide = let e = ((found.valley).flat).within in omega arith

          there : (q : Square) × IsOneOf q t.squares × (covers c v.level q ≡ true)
          there = counted_one (covers c v.level) t.squares (omega (arith, cell t laid v tiling fills found low c v.level wide low))

  -- beside the valley the depths stay
  pub same_depth : (c : ℕ) → (c < v.x) ⊎ (v.x + v.width ≤ c) → depth (laid ++ squares_under t v) c ≡ depth laid c
  same_depth c away = cases (le_or_gt (depth (laid ++ squares_under t v) c) (depth laid c))
    where
      cases : (depth (laid ++ squares_under t v) c ≤ depth laid c) ⊎ (depth laid c < depth (laid ++ squares_under t v) c)
          → depth (laid ++ squares_under t v) c ≡ depth laid c
      cases (inl h) = omega (arith, depth-append laid (squares_under t v) c)
      cases (inr h) = absurd (none (depth_comes_from (laid ++ squares_under t v) c (depth laid c) h))
        where
          none : ((q : Square) × IsOneOf q (laid ++ squares_under t v) × (covers_column c q ≡ true) × (depth laid c < q.y + q.s)) → ⊥
          none (q, k, e, deep) = sides (from_append laid (squares_under t v) q k)
            where
              sides : IsOneOf q laid ⊎ IsOneOf q (squares_under t v) → ⊥
              sides (inl old) = omega (arith, depth_reaches laid c q old e)
              sides (inr new) = beside away
                where
                  beside : (c < v.x) ⊎ (v.x + v.width ≤ c) → ⊥
                  beside (inl a) = omega (arith, (is_under t laid v tiling fills found low q new).left, column_left c q e)
                  beside (inr a) = omega (arith, (is_under t laid v tiling fills found low q new).right, column_right c q e)

  in_new : (laid more : List Square) (q : Square) → IsOneOf q more → IsOneOf q (laid ++ more)
  in_new [] more q h = h
  in_new (r ∷ laid) more q h = inr (in_new laid more q h)

  -- under the valley the depth of a column is the bottom of the new square over it
  pub new_depth : (q : Square) → IsOneOf q (squares_under t v) → (c : ℕ) → q.x ≤ c → c < q.x + q.s → depth (laid ++ squares_under t v) c ≡ q.y + q.s
  new_depth q h c lo hi = cases (le_or_gt (depth (laid ++ squares_under t v) c) (q.y + q.s))
    where
      cases : (depth (laid ++ squares_under t v) c ≤ q.y + q.s) ⊎ (q.y + q.s < depth (laid ++ squares_under t v) c)
          → depth (laid ++ squares_under t v) c ≡ q.y + q.s
      cases (inl k) = omega (arith, depth_reaches (laid ++ squares_under t v) c q (in_new laid (squares_under t v) q h) (column_from c q lo hi))
      cases (inr k) = absurd (none (depth_comes_from (laid ++ squares_under t v) c (q.y + q.s) k))
        where
          none : ((p : Square) × IsOneOf p (laid ++ squares_under t v) × (covers_column c p ≡ true) × (q.y + q.s < p.y + p.s)) → ⊥
          none (p, k, e, deep) = sides (from_append laid (squares_under t v) p k)
            where
              sides : IsOneOf p laid ⊎ IsOneOf p (squares_under t v) → ⊥
              sides (inl old) = let u = is_under t laid v tiling fills found low q h in let a = u.left in let b = u.right in let d = u.level in
                  omega (arith, depth_reaches laid c p old e, ((found.valley).flat).level c (omega arith) (omega arith))
              sides (inr new) = let same : q ≡ p = one_square_under_the_valley_over_a_column q p h new c lo hi (column_left c p e) (column_right c p e) in
                  let bottom : q.y + q.s ≡ p.y + p.s = ap (λ (s : Square). s.y + s.s) same in omega arith
