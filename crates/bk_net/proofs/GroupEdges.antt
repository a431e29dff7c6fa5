-- A group of a tiling among its squares: its level, its width, and that no square at its level reaches over its ends.
use Rattle.std.proofs.Common.{List, Some, ap, arith, inl, inr, slice_get, true, ℕ, ◌+◌, ◌-◌, ◌<◌, ◌≡◌, ◌≤◌, ◌⊎◌}
use Rattle.std.proofs.lemmas.Bool.{cases_lt}
use Rattle.bk_laws.proofs.Totals.{total}
use Rattle.bk_tiling.proofs.Cells.{covers_from, over_from}
use Rattle.bk_tiling.proofs.Rows.{chain_over, chain_total, chain_within, laid_sides}
use Rattle.bk_tiling.proofs.TilingLaws.{side_of, within_of}
use Rattle.bk_tiling.specs.Tiling.{IsOneOf, IsTiling, Tiling, covers}
use Rattle.bk_tiling.specs.declared.Square.{Square}
use Rattle.bk_tiling.proofs.Groups.{IsRow}
use Rattle.bk_tiling.proofs.TilingGroups.{one_there}
use Rattle.bk_tiling.specs.SquareGroups.{square_groups}
use Rattle.bk_net.proofs.GroupSquares.{first_in, group_of, in_group, top_of}

module _ (t : Tiling) (tiling : IsTiling t) (v : ℕ) (g : List Square) (e : slice_get (square_groups t.squares) v ≡ Some g) where
  abbrev row : IsRow t.squares g
  row = (group_of t tiling v g e).0.row

  -- the first square of a group is a square of the tiling
  pub first_one : IsOneOf (group_of t tiling v g e).0.row.first t.squares
  first_one = in_group t tiling v g e (group_of t tiling v g e).0.row.first (first_in t tiling g (group_of t tiling v g e).0.row)

  -- a square over a column of the group at its level is of the group
  pub at_level : (c : ℕ) → (group_of t tiling v g e).0.row.first.x ≤ c → c < (group_of t tiling v g e).0.row.end
      → (r : Square) × IsOneOf r g × (covers c (group_of t tiling v g e).0.row.first.y r ≡ true)
  at_level c lo hi = from (chain_over g row.first.x row.end row.chain c lo hi)
    where
      from : (r : Square) × IsOneOf r g × (r.x ≤ c) × (c < r.x + r.s) → (r : Square) × IsOneOf r g × (covers c (group_of t tiling v g e).0.row.first.y r ≡ true)
      from (r, h, a, b) = (
        r,
        h,
        covers_from c row.first.y r a b (omega (arith, top_of t tiling g row r h))
            (omega (arith, top_of t tiling g row r h, side_of t tiling r (in_group t tiling v g e r h))),
      )

  -- the level of a group is above the bottom of the tiling
  pub below_height : (group_of t tiling v g e).0.row.first.y < t.height
  below_height = let w = (within_of t tiling row.first first_one).bottom in omega (arith, side_of t tiling row.first first_one)

  -- a group ends within the tiling
  pub end_within : (group_of t tiling v g e).0.row.end ≤ t.width
  end_within = cases (cases_lt row.first.x row.end)
    where
      cases : (row.first.x < row.end) ⊎ (row.end ≤ row.first.x) → row.end ≤ t.width
      cases (inr h) = let w = (within_of t tiling row.first first_one).right in omega (arith, side_of t tiling row.first first_one)
      cases (inl h) = from (at_level (row.end - 1) (omega arith) (omega arith))
        where
          from : (r : Square) × IsOneOf r g × (covers (row.end - 1) row.first.y r ≡ true) → row.end ≤ t.width
          from (r, k, f) = omega (arith, (over_from (row.end - 1) row.first.y r f).right, (within_of t tiling r (in_group t tiling v g e r k)).right)

  -- a group has a width
  pub some_width : (group_of t tiling v g e).0.row.first.x < (group_of t tiling v g e).0.row.end
  some_width = let w = chain_within g row.first.x row.end row.chain row.first (first_in t tiling g row) in
      omega (arith, w.1, side_of t tiling row.first first_one)

  -- the sides of a group are together as long as its columns are many
  pub sides_of_a_group_fill_its_columns : total (laid_sides g) ≡ (group_of t tiling v g e).0.row.end - (group_of t tiling v g e).0.row.first.x
  sides_of_a_group_fill_its_columns = omega (arith, chain_total g row.first.x row.end row.chain)

  -- a square that begins at its level does not reach over its left end, nor over its right end
  pub not_left : (z : Square) → IsOneOf z t.squares → z.y ≡ (group_of t tiling v g e).0.row.first.y → z.x < (group_of t tiling v g e).0.row.first.x
      → (group_of t tiling v g e).0.row.first.x ≤ z.x + z.s → ⊥
  not_left z h ey lo hi = cases (cases_lt row.first.x (z.x + z.s))
    where
      cases : (row.first.x < z.x + z.s) ⊎ (z.x + z.s ≤ row.first.x) → ⊥
      cases (inl k) = let same : z ≡ row.first =
          one_there t tiling z row.first row.first.x row.first.y h (covers_from row.first.x row.first.y z (omega arith) k (omega (arith, ey))
          (omega (arith, ey, side_of t tiling z h)))
          first_one (covers_from row.first.x row.first.y row.first (omega arith) (omega (arith, side_of t tiling row.first first_one)) (omega arith)
          (omega (arith, side_of t tiling row.first first_one))) in omega (arith, ap (λ (s : Square). s.x) same)
      cases (inr k) = (group_of t tiling v g e).0.left z h ey (omega arith)

  -- no square with its top at the group's level begins at the group's right end or before and reaches past it
  pub not_right : (z : Square) → IsOneOf z t.squares → z.y ≡ (group_of t tiling v g e).0.row.first.y → z.x ≤ (group_of t tiling v g e).0.row.end
      → (group_of t tiling v g e).0.row.end < z.x + z.s → ⊥
  not_right z h ey lo hi = cases (cases_lt z.x row.end)
    where
      cases : (z.x < row.end) ⊎ (row.end ≤ z.x) → ⊥
      cases (inr k) = row.right z h ey (omega arith)
      cases (inl k) = from (at_level (row.end - 1) (omega (arith, some_width)) (omega (arith, some_width)))
        where
          from : (r : Square) × IsOneOf r g × (covers (row.end - 1) row.first.y r ≡ true) → ⊥
          from (r, m, f) = let same : z ≡ r =
              one_there t tiling z r (row.end - 1) row.first.y h (covers_from (row.end - 1) row.first.y z (omega arith) (omega arith)
              (omega (arith, ey)) (omega (arith, ey, side_of t tiling z h))) (in_group t tiling v g e r m) f in
              omega (arith, ap (λ (s : Square). s.x + s.s) same, (chain_within g row.first.x row.end row.chain r m).1)
