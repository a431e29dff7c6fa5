-- The leftmost valley under which squares of a tiling hang is the run of columns of one group of the tiling's code.
use Rattle.std.proofs.Common.{List, Some, [], ap, arith, inl, inr, refl, slice_get, subst, suc, sym, true, ℕ, ◌++◌, ◌+◌, ◌-◌, ◌<◌, ◌∙◌, ◌∷◌, ◌≡◌, ◌≤◌}
use Rattle.std.proofs.Common.{◌⊎◌}
use Rattle.std.proofs.lemmas.Bool.{cases_lt}
use Rattle.bk_laws.proofs.Totals.{total}
use Rattle.bk_tiling.proofs.Cells.{column_from, counted_one, covers_from, depth_reaches, from_append, in_filter, over_from}
use Rattle.bk_tiling.proofs.Members.{in_back}
use Rattle.bk_tiling.proofs.Rows.{chain_within, laid_sides}
use Rattle.bk_tiling.proofs.TilingLaws.{side_of}
use Rattle.bk_tiling.specs.Column.{IsLevel, depth}
use Rattle.bk_tiling.specs.declared.Segment.{Segment}
use Rattle.bk_tiling.specs.Tiling.{IsOneOf, IsTiling, Tiling, covers}
use Rattle.bk_tiling.specs.declared.Square.{Square}
use Rattle.bk_tiling.proofs.Groups.{IsRow, row_of}
use Rattle.bk_tiling.proofs.TilingGroups.{one_there}
use Rattle.bk_tiling.specs.SquareGroups.{square_groups}
use Rattle.bk_net.proofs.GroupEdges.{at_level, end_within, not_right, sides_of_a_group_fill_its_columns}
use Rattle.bk_net.proofs.GroupSquares.{group_of, in_group, row_is, top_of}
use Rattle.bk_word.specs.Outline.{Outline}
use Rattle.bk_lay.proofs.Filling.{in_tiling, is_under}
use Rattle.bk_lay.proofs.UnderValley.{cell, hangs, is_laid}
use Rattle.bk_lay.specs.TilingWord.{IsLeftmostValley, hangs_under, squares_under}
use Rattle.bk_word_net.proofs.TilingWords.AlongWord.{Along}

-- a square of some group, with the group's place
pub find_group : (groups : List (List Square)) (q : Square) → IsOneOf q (row_of groups) → (k : ℕ)
    × ((g : List Square) × (slice_get groups k ≡ Some g) × IsOneOf q g)
find_group [] q h = absurd h
find_group (g ∷ groups) q h = cases (from_append g (row_of groups) q h) (find_group groups q)
  where
    cases : IsOneOf q g ⊎ IsOneOf q (row_of groups)
        → (IsOneOf q (row_of groups) → (k : ℕ) × ((g : List Square) × (slice_get groups k ≡ Some g) × IsOneOf q g)) → (k : ℕ)
        × ((h : List Square) × (slice_get (g ∷ groups) k ≡ Some h) × IsOneOf q h)
    cases (inl k) rest = (0, (g, refl, k))
    cases (inr k) rest = let r = rest k in (suc r.0, r.1)

-- the valley is the run of columns of this group
pub record IsGroupRun (t : Tiling) (v : Segment) : Type 0 where
  pub place : ℕ
  pub group : List Square
  pub is : slice_get (square_groups t.squares) place ≡ Some group
  pub first : Square
  pub rest : List Square
  pub squares : group ≡ first ∷ rest
  pub x : first.x ≡ v.x
  pub y : first.y ≡ v.level
  pub wide : total (laid_sides group) ≡ v.width

-- what is laid of a tiling, node by node: each node is a group's run, and hangs just the group's squares
pub record Exact (t : Tiling) (laid : List Square) (nodes : List Segment) : Type 0 where
  pub right : (q : Square) → IsOneOf q laid → q.x + q.s < t.width → q.y < depth laid (q.x + q.s)
  pub left : (q : Square) → IsOneOf q laid → (c : ℕ) → suc c ≡ q.x → q.y < depth laid c
  pub runs : (k : ℕ) (v : Segment) → slice_get nodes k ≡ Some v → IsGroupRun t v
  pub passed : (k : ℕ) (v : Segment) → slice_get nodes k ≡ Some v → v.level < depth laid v.x
  pub once : (j k : ℕ) (v : Segment) → slice_get nodes j ≡ Some v → slice_get nodes k ≡ Some v → j ≡ k

module _ (t : Tiling) (laid : List Square) (nodes : List Segment) (o : Outline) (v : Segment) (tiling : IsTiling t)
    (a : Along t laid nodes o) (x : Exact t laid nodes) (found : IsLeftmostValley t.width laid v) (low : v.level < t.height) where
  -- the valley is level
  pub flat : IsLevel t.width laid v
  flat = (found.valley).flat

  -- the square that hangs under the valley at a column
  under_at : (c : ℕ) → v.x ≤ c → c < v.x + v.width → (q : Square) × IsOneOf q (squares_under t v) × (covers c v.level q ≡ true)
  under_at c lo hi = from (counted_one (covers c v.level) t.squares
      (omega (arith, cell t laid v tiling a.fills found low c v.level (omega (arith, flat.within)) low)))
    where
      from : (q : Square) × IsOneOf q t.squares × (covers c v.level q ≡ true) → (q : Square) × IsOneOf q (squares_under t v) × (covers c v.level q ≡ true)
      from (q, k, e) = (q, in_filter (hangs_under v) t.squares q k (hangs t laid v tiling a.fills found low c q lo hi k e), e)

  -- after the move its columns are deeper
  pub deeper : (c : ℕ) → v.x ≤ c → c < v.x + v.width → v.level < depth (laid ++ squares_under t v) c
  deeper c lo hi = let q = under_at c lo hi in let o = over_from c v.level q.0 q.2 in
      omega (arith, o.bottom, depth_reaches (laid ++ squares_under t v) c q.0 (in_back laid (squares_under t v) q.0 q.1) (column_from c q.0 o.left o.right))

  new_in : (q : Square) → IsOneOf q (squares_under t v) → IsOneOf q t.squares
  new_in q h = in_tiling t laid v tiling a.fills found low q h

  -- the group of a new square at the left end
  pub run : IsGroupRun t v
  run = from (under_at v.x (omega arith) (omega (arith, flat.some)))
    where
      from : (q : Square) × IsOneOf q (squares_under t v) × (covers v.x v.level q ≡ true) → IsGroupRun t v
      from (q, h, e) = of (find_group (square_groups t.squares) q (subst (IsOneOf q) (sym (row_is t tiling)) (new_in q h)))
        where
          of : (k : ℕ) × ((g : List Square) × (slice_get (square_groups t.squares) k ≡ Some g) × IsOneOf q g) → IsGroupRun t v
          of (k, (g, is, m)) = record {
            place = k;
            group = g;
            is = is;
            first = row.first;
            rest = row.rest;
            squares = row.is;
            x =
                begins (cases_lt row.first.x v.x);
            y = level;
            wide = wide (cases_lt row.end (v.x + v.width)) (cases_lt (v.x + v.width) row.end);
          }
            where
              row : IsRow t.squares g
              row = (group_of t tiling k g is).0.row

              level : (group_of t tiling k g is).0.row.first.y ≡ v.level
              level = sym (top_of t tiling g (group_of t tiling k g is).0.row q m) ∙ (is_under t laid v tiling a.fills found low q h).level

              within : ((group_of t tiling k g is).0.row.first.x ≤ q.x) × (q.x + q.s ≤ (group_of t tiling k g is).0.row.end)
              within = chain_within g (group_of t tiling k g is).0.row.first.x (group_of t tiling k g is).0.row.end (group_of t tiling k g is).0.row.chain q m

              at_x : q.x ≡ v.x
              at_x = let l = (is_under t laid v tiling a.fills found low q h).left in omega (arith, (over_from v.x v.level q e).left)

              begins : ((group_of t tiling k g is).0.row.first.x < v.x) ⊎ (v.x ≤ (group_of t tiling k g is).0.row.first.x)
                  → (group_of t tiling k g is).0.row.first.x ≡ v.x
              begins (inr l) = omega (arith, within.0, at_x)
              begins (inl l) = absurd (before (at_level t tiling k g is (v.x - 1) (omega arith)
                  (omega (arith, within.1, at_x, side_of t tiling q (new_in q h)))))
                where
                  before : (r : Square) × IsOneOf r g × (covers (v.x - 1) (group_of t tiling k g is).0.row.first.y r ≡ true) → ⊥
                  before (r, n, f) = by (cases_lt v.x (r.x + r.s))
                    where
                      cover : covers (v.x - 1) v.level r ≡ true
                      cover = subst (λ (j : ℕ). covers (v.x - 1) j r ≡ true) level f

                      r_in : IsOneOf r t.squares
                      r_in = in_group t tiling k g is r n

                      r_level : r.y ≡ v.level
                      r_level = top_of t tiling g (group_of t tiling k g is).0.row r n ∙ level

                      r_laid : IsOneOf r laid
                      r_laid = is_laid t laid v tiling a.fills found low (v.x - 1) v.level r (omega (arith, flat.within, flat.some))
                          ((found.valley).left (v.x - 1) (omega arith)) r_in cover

                      by : (v.x < r.x + r.s) ⊎ (r.x + r.s ≤ v.x) → ⊥
                      by (inl z) = let same : q ≡ r = one_there t tiling q r v.x v.level (new_in q h) e r_in
                          (covers_from v.x v.level r (omega (arith, (over_from (v.x - 1) v.level r cover).left)) z (omega (arith, r_level))
                          (omega (arith, r_level, side_of t tiling r r_in))) in
                          omega (arith, at_x, ap (λ (s : Square). s.x) same, (over_from (v.x - 1) v.level r cover).left)
                      by (inr z) = let e : r.x + r.s ≡ v.x = omega (arith, (over_from (v.x - 1) v.level r cover).right) in
                          omega (
                            arith,
                            x.right r r_laid (omega (arith, e, flat.within, flat.some)),
                            ap (depth laid) e,
                            flat.level v.x (omega arith) (omega (arith, flat.some)),
                            r_level,
                          )

              wide : ((group_of t tiling k g is).0.row.end < v.x + v.width) ⊎ (v.x + v.width ≤ (group_of t tiling k g is).0.row.end)
                  → (v.x + v.width < (group_of t tiling k g is).0.row.end) ⊎ ((group_of t tiling k g is).0.row.end ≤ v.x + v.width)
                  → total (laid_sides g) ≡ v.width
              wide (inl l) z = absurd (over (under_at (group_of t tiling k g is).0.row.end (omega (arith, within.1, at_x)) l))
                where
                  over : (r : Square) × IsOneOf r (squares_under t v) × (covers (group_of t tiling k g is).0.row.end v.level r ≡ true) → ⊥
                  over (r, n, f) = let o = over_from (group_of t tiling k g is).0.row.end v.level r f in
                      not_right t tiling k g is r (new_in r n) ((is_under t laid v tiling a.fills found low r n).level ∙ sym level) o.left o.right
              wide (inr l) (inr z) = omega (
                arith,
                sides_of_a_group_fill_its_columns t tiling k g is,
                begins (cases_lt (group_of t tiling k g is).0.row.first.x v.x),
              )
              wide (inr l) (inl z) = absurd (beyond (at_level t tiling k g is (v.x + v.width) (omega (arith, within.0, at_x)) z))
                where
                  beyond : (r : Square) × IsOneOf r g × (covers (v.x + v.width) (group_of t tiling k g is).0.row.first.y r ≡ true) → ⊥
                  beyond (r, n, f) = by (cases_lt r.x (v.x + v.width)) (under_at (v.x + v.width - 1) (omega (arith, flat.some)) (omega (arith, flat.some)))
                    where
                      cover : covers (v.x + v.width) v.level r ≡ true
                      cover = subst (λ (j : ℕ). covers (v.x + v.width) j r ≡ true) level f

                      r_in : IsOneOf r t.squares
                      r_in = in_group t tiling k g is r n

                      r_level : r.y ≡ v.level
                      r_level = top_of t tiling g (group_of t tiling k g is).0.row r n ∙ level

                      inside : v.x + v.width < t.width
                      inside = omega (arith, z, end_within t tiling k g is)

                      by : (r.x < v.x + v.width) ⊎ (v.x + v.width ≤ r.x) → (s : Square) × IsOneOf s (squares_under t v)
                          × (covers (v.x + v.width - 1) v.level s ≡ true) → ⊥
                      by (inl y) (s, i, j) = let same : s ≡ r =
                          one_there t tiling s r (v.x + v.width - 1) v.level (new_in s i) j r_in
                          (covers_from (v.x + v.width - 1) v.level r (omega arith)
                          (omega (arith, (over_from (v.x + v.width) v.level r cover).right)) (omega (arith, r_level))
                          (omega (arith, r_level, side_of t tiling r r_in))) in
                          omega (
                            arith,
                            (is_under t laid v tiling a.fills found low s i).right,
                            ap (λ (q : Square). q.x + q.s) same,
                            (over_from (v.x + v.width) v.level r cover).right,
                          )
                      by (inr y) other = omega (
                        arith,
                        x.left r (is_laid t laid v tiling a.fills found low (v.x + v.width) v.level r inside ((found.valley).right inside)
                            r_in cover) (v.x + v.width - 1) (omega (arith, flat.some, (over_from (v.x + v.width) v.level r cover).left)),
                        flat.level (v.x + v.width - 1) (omega (arith, flat.some)) (omega (arith, flat.some)),
                        r_level,
                      )
