-- As much ends at a group as hangs from it: the columns of the group, once from below and once from above.
use Rattle.std.proofs.Common.{Bool, List, Some, ap, arith, cond, count_by, false, inl, inr, length, nat_eq, refl, slice_get, subst, sym, true, ℕ, ◌&&◌, ◌+◌}
use Rattle.std.proofs.Common.{◌-◌, ◌<◌, ◌∙◌, ◌≡◌, ◌≤◌, ◌⊎◌}
use Rattle.std.proofs.lemmas.Bool.{cases_lt}
use Rattle.std.proofs.lemmas.Option.{slice_get_within}
use Rattle.bk_tiling.proofs.Cells.{counted_one, covers_from, one_counted, over_from}
use Rattle.bk_tiling.proofs.Rows.{chain_within}
use Rattle.bk_tiling.proofs.TilingLaws.{a_square_over_each_cell, cell_once, side_of, within_of}
use Rattle.bk_tiling.specs.Column.{covers_column}
use Rattle.bk_tiling.specs.Tiling.{IsOneOf, IsTiling, Tiling, covers}
use Rattle.bk_tiling.specs.declared.Square.{Square}
use Rattle.bk_tiling.proofs.Groups.{IsRow}
use Rattle.bk_tiling.proofs.TilingGroups.{one_there}
use Rattle.bk_tiling.specs.SquareGroups.{square_groups}
use Rattle.bk_net.proofs.GroupSquares.{get_index, group_of, in_group, square_below_begins_at_the_bottom, top_of}
use Rattle.bk_net.proofs.NodeBelow.{below_from, below_to, has_node_below}
use Rattle.bk_net.proofs.SmithLists.{in_total, out_at, out_total}
use Rattle.bk_net.specs.Diagram.{node_below}
use Rattle.bk_net.proofs.ColumnSums.{all_cols-are, cols, cols_all, cols_none, in_is_cols, in_is_none}
use Rattle.bk_net.proofs.GroupEdges.{at_level, below_height, end_within, not_left, not_right, sides_of_a_group_fill_its_columns, some_width}

module _ (t : Tiling) (tiling : IsTiling t) (v : ℕ) (g : List Square) (e : slice_get (square_groups t.squares) v ≡ Some g) where
  abbrev row : IsRow t.squares g
  row = (group_of t tiling v g e).0.row

  -- a square that ends at its level over one of its columns ends on it with all its columns
  ends_on : (q : Square) → IsOneOf q t.squares → q.y + q.s ≡ (group_of t tiling v g e).0.row.first.y → (c : ℕ) → (group_of t tiling v g e).0.row.first.x ≤ c
      → c < (group_of t tiling v g e).0.row.end → q.x ≤ c → c < q.x + q.s → ((group_of t tiling v g e).0.row.first.x ≤ q.x)
      × (q.x + q.s ≤ (group_of t tiling v g e).0.row.end)
  ends_on q h ey c lo hi l r = (left (cases_lt q.x row.first.x), right (cases_lt row.end (q.x + q.s)))
    where
      under : (i : ℕ) → q.x ≤ i → i < q.x + q.s → (z : Square) × IsOneOf z t.squares × (z.y ≡ row.first.y) × (z.x ≤ i) × (i < z.x + z.s)
      under i a b = from (a_square_over_each_cell t tiling i row.first.y (let w = (within_of t tiling q h).right in omega arith) (below_height t tiling v g e))
        where
          from : (z : Square) × IsOneOf z t.squares × (covers i row.first.y z ≡ true) → (z : Square) × IsOneOf z t.squares × (z.y ≡ row.first.y)
              × (z.x ≤ i) × (i < z.x + z.s)
          from (z, k, f) = (
            z,
            k,
            square_below_begins_at_the_bottom t tiling q z i h a b k (subst (λ (j : ℕ). covers i j z ≡ true) (sym ey) f) ∙ ey,
            (over_from i row.first.y z f).left,
            (over_from i row.first.y z f).right,
          )

      left : (q.x < row.first.x) ⊎ (row.first.x ≤ q.x) → row.first.x ≤ q.x
      left (inr k) = k
      left (inl k) = let z = under (row.first.x - 1) (omega arith) (omega arith) in
          absurd (not_left t tiling v g e z.0 z.1 z.2 (omega (arith, z.3)) (omega (arith, z.4)))

      right : (row.end < q.x + q.s) ⊎ (q.x + q.s ≤ row.end) → q.x + q.s ≤ row.end
      right (inr k) = k
      right (inl k) = let z = under row.end (omega arith) k in absurd (not_right t tiling v g e z.0 z.1 z.2 z.3 z.4)

  -- under the top, squares that end at a group have sides that are together as long as the group
  pub into_is_width : 0 < (group_of t tiling v g e).0.row.first.y
      → in_total (node_below (square_groups t.squares)) v t.squares ≡ (group_of t tiling v g e).0.row.end - (group_of t tiling v g e).0.row.first.x
  into_is_width deep = in_is_cols (node_below (square_groups t.squares)) v (row.end - row.first.x) row.first.x (row.first.y - 1) t.squares each
      ∙ all_cols-are (row.end - row.first.x) row.first.x (row.first.y - 1) t.squares
      (λ c lo hi. cell_once t tiling c (row.first.y - 1) (omega (arith, end_within t tiling v g e)) (omega (arith, below_height t tiling v g e)))
    where
      few : v < length (square_groups t.squares)
      few = slice_get_within (square_groups t.squares) v g e

      counts : (q : Square) (h : IsOneOf q t.squares) → count_by (λ r. nat_eq r.y (q.y + q.s) && covers_column q.x r) g
          ≡ cond (nat_eq (node_below (square_groups t.squares) q) v) 1 0
      counts q h = ap (count_by (λ r. nat_eq r.y (q.y + q.s) && covers_column q.x r)) (sym (get_index (square_groups t.squares) v g e))
          ∙ (has_node_below t tiling q h).counts v few

      each : (q : Square) → IsOneOf q t.squares → cond (nat_eq (node_below (square_groups t.squares) q) v) q.s 0
          ≡ cols (row.end - row.first.x) row.first.x (row.first.y - 1) q
      each q h = by (nat_eq (node_below (square_groups t.squares) q) v) refl
        where
          by : (b : Bool) → nat_eq (node_below (square_groups t.squares) q) v ≡ b
              → cond b q.s 0 ≡ cols (row.end - row.first.x) row.first.x (row.first.y - 1) q
          by true f = from (counted_one (λ r. nat_eq r.y (q.y + q.s) && covers_column q.x r) g
              (omega (arith, counts q h, ap (λ (b : Bool). cond {A = ℕ} b 1 0) f)))
            where
              from : (r : Square) × IsOneOf r g × ((nat_eq r.y (q.y + q.s) && covers_column q.x r) ≡ true)
                  → q.s ≡ cols (row.end - row.first.x) row.first.x (row.first.y - 1) q
              from (r, k, m) = let b = below_to q r m in let w = chain_within g row.first.x row.end row.chain r k in
                  let level : q.y + q.s ≡ row.first.y = sym b.level ∙ top_of t tiling g row r k in
                  let on = ends_on q h level q.x (omega (arith, w.0, b.left)) (omega (arith, w.1, b.right)) (omega arith)
                  (omega (arith, side_of t tiling q h)) in
                  sym (cols_all (row.end - row.first.x) row.first.x (row.first.y - 1) q (omega (arith, level, side_of t tiling q h))
                  (omega (arith, level, deep)) on.0 (omega (arith, on.1, some_width t tiling v g e)))
          by false f = sym (cols_none (row.end - row.first.x) row.first.x (row.first.y - 1) q none)
            where
              none : (c : ℕ) → row.first.x ≤ c → c < row.first.x + (row.end - row.first.x) → covers c (row.first.y - 1) q ≡ true → ⊥
              none c lo hi m = cases (cases_lt row.first.y (q.y + q.s))
                where
                  cases : (row.first.y < q.y + q.s) ⊎ (q.y + q.s ≤ row.first.y) → ⊥
                  cases (inl k) = from (at_level t tiling v g e c lo (omega (arith, some_width t tiling v g e)))
                    where
                      from : (r : Square) × IsOneOf r g × (covers c row.first.y r ≡ true) → ⊥
                      from (r, n, i) = let same : q ≡ r =
                          one_there t tiling q r c row.first.y h (covers_from c row.first.y q (over_from c (row.first.y - 1) q m).left
                          (over_from c (row.first.y - 1) q m).right (omega (arith, (over_from c (row.first.y - 1) q m).top)) k)
                          (in_group t tiling v g e r n) i in
                          omega (arith, ap (λ (s : Square). s.y) same, top_of t tiling g row r n, (over_from c (row.first.y - 1) q m).top, deep)
                  cases (inr k) = from (at_level t tiling v g e q.x on.0 (omega (arith, on.1, side_of t tiling q h)))
                    where
                      level : q.y + q.s ≡ row.first.y
                      level = omega (arith, (over_from c (row.first.y - 1) q m).bottom)

                      on : (row.first.x ≤ q.x) × (q.x + q.s ≤ row.end)
                      on = ends_on q h level c lo (omega (arith, some_width t tiling v g e)) (over_from c (row.first.y - 1) q m).left
                          (over_from c (row.first.y - 1) q m).right

                      from : (r : Square) × IsOneOf r g × (covers q.x row.first.y r ≡ true) → ⊥
                      from (r, n, i) = omega (
                        arith,
                        counts q h,
                        ap (λ (b : Bool). cond {A = ℕ} b 1 0) f,
                        one_counted (λ r. nat_eq r.y (q.y + q.s) && covers_column q.x r) g r n
                            (below_from q r (top_of t tiling g row r n ∙ sym level) (over_from q.x row.first.y r i).left
                            (over_from q.x row.first.y r i).right),
                      )

  -- at the top no square ends
  pub into_is_none : (group_of t tiling v g e).0.row.first.y ≡ 0 → in_total (node_below (square_groups t.squares)) v t.squares ≡ 0
  into_is_none top = in_is_none (node_below (square_groups t.squares)) v t.squares each
    where
      each : (q : Square) → IsOneOf q t.squares → cond (nat_eq (node_below (square_groups t.squares) q) v) q.s 0 ≡ 0
      each q h = by (nat_eq (node_below (square_groups t.squares) q) v) refl
        where
          by : (b : Bool) → nat_eq (node_below (square_groups t.squares) q) v ≡ b → cond b q.s 0 ≡ 0
          by false f = refl
          by true f = from (counted_one (λ r. nat_eq r.y (q.y + q.s) && covers_column q.x r) g (omega (
            arith,
            ap (count_by (λ r. nat_eq r.y (q.y + q.s) && covers_column q.x r)) (get_index (square_groups t.squares) v g e),
            (has_node_below t tiling q h).counts v (slice_get_within (square_groups t.squares) v g e),
            ap (λ (b : Bool). cond {A = ℕ} b 1 0) f,
          )))
            where
              from : (r : Square) × IsOneOf r g × ((nat_eq r.y (q.y + q.s) && covers_column q.x r) ≡ true) → q.s ≡ 0
              from (r, k, m) = absurd (omega (arith, (below_to q r m).level, top_of t tiling g row r k, top, side_of t tiling q h))

  -- squares that hang from a group have sides that are together as long as the group
  pub out_is_width : out_total 0 v (square_groups t.squares) ≡ (group_of t tiling v g e).0.row.end - (group_of t tiling v g e).0.row.first.x
  out_is_width = out_at 0 v v (square_groups t.squares) g e (omega arith) ∙ sides_of_a_group_fill_its_columns t tiling v g e
