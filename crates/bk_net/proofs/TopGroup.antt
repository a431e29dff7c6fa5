-- The first group of a tiling is its top, and any other group lies deeper.
use Rattle.std.proofs.Common.{List, Some, ap, arith, count_by, inl, inr, slice_get, subst, suc, true, ℕ, ◌-◌, ◌<◌, ◌∙◌, ◌∷◌, ◌≡◌, ◌≤◌, ◌⊎◌}
use Rattle.std.proofs.lemmas.Bool.{cases_lt}
use Rattle.bk_tiling.proofs.Cells.{covers_from, one_counted, over_from}
use Rattle.bk_tiling.proofs.TilingLaws.{a_square_over_each_cell, cell_once, side_of, wide_enough}
use Rattle.bk_tiling.specs.Tiling.{IsOneOf, IsTiling, Tiling, covers}
use Rattle.bk_tiling.specs.declared.Square.{Square}
use Rattle.bk_tiling.proofs.Groups.{IsRow, row_of}
use Rattle.bk_tiling.proofs.TilingGroups.{known_groups}
use Rattle.bk_tiling.specs.SquareGroups.{square_groups}
use Rattle.bk_net.proofs.GroupSquares.{first_in, get_index, group_of, in_group, row_is}
use Rattle.bk_net.proofs.GroupEdges.{below_height, end_within, first_one, not_left, not_right, some_width}
use Rattle.bk_net.proofs.SmithLists.{count_at, count_row}

module _ (t : Tiling) (tiling : IsTiling t) where
  -- the first group is the top
  pub top_group : slice_get (square_groups t.squares) 0 ≡ Some (known_groups t tiling).group
  top_group = ap (λ (gs : List (List Square)). slice_get gs 0) (known_groups t tiling).is

  first_same : (k l : IsRow t.squares (known_groups t tiling).group) → k.first ≡ l.first
  first_same k l = heads k.is l.is
    where
      heads : {a b : Square} {xs ys : List Square} → (known_groups t tiling).group ≡ a ∷ xs → (known_groups t tiling).group ≡ b ∷ ys → a ≡ b
      heads f g = cc

  -- the first group begins at the top left corner of the rectangle
  pub top_corner : ((group_of t tiling 0 (known_groups t tiling).group top_group).0.row.first.x ≡ 0)
      × ((group_of t tiling 0 (known_groups t tiling).group top_group).0.row.first.y ≡ 0)
  top_corner = let same : (group_of t tiling 0 (known_groups t tiling).group top_group).0.row.first ≡ (known_groups t tiling).first =
      first_same (group_of t tiling 0 (known_groups t tiling).group top_group).0.row (known_groups t tiling).own.row ∙ (known_groups t tiling).at_first in
      (ap (λ (s : Square). s.x) same ∙ (known_groups t tiling).x, ap (λ (s : Square). s.y) same ∙ (known_groups t tiling).y)

  -- the first group ends at the right side of the rectangle
  pub top_end : (group_of t tiling 0 (known_groups t tiling).group top_group).0.row.end ≡ t.width
  top_end = cases (cases_lt row0.end t.width)
    where
      row0 : IsRow t.squares (known_groups t tiling).group
      row0 = (group_of t tiling 0 (known_groups t tiling).group top_group).0.row

      cases : ((group_of t tiling 0 (known_groups t tiling).group top_group).0.row.end < t.width)
          ⊎ (t.width ≤ (group_of t tiling 0 (known_groups t tiling).group top_group).0.row.end)
          → (group_of t tiling 0 (known_groups t tiling).group top_group).0.row.end ≡ t.width
      cases (inr h) = omega (arith, end_within t tiling 0 (known_groups t tiling).group top_group)
      cases (inl h) = from (a_square_over_each_cell t tiling (group_of t tiling 0 (known_groups t tiling).group top_group).0.row.end 0 h
          (omega (arith, below_height t tiling 0 (known_groups t tiling).group top_group)))
        where
          from : (z : Square) × IsOneOf z t.squares × (covers (group_of t tiling 0 (known_groups t tiling).group top_group).0.row.end 0 z ≡ true)
              → (group_of t tiling 0 (known_groups t tiling).group top_group).0.row.end ≡ t.width
          from (z, k, f) = let o = over_from (group_of t tiling 0 (known_groups t tiling).group top_group).0.row.end 0 z f in
              absurd (not_right t tiling 0 (known_groups t tiling).group top_group z k (omega (arith, o.top, top_corner.1)) o.left o.right)

  -- any other group lies deeper
  pub deep : (v : ℕ) (g : List Square) (e : slice_get (square_groups t.squares) (suc v) ≡ Some g) → 0 < (group_of t tiling (suc v) g e).0.row.first.y
  deep v g e = cases (cases_lt 0 row1.first.y)
    where
      row1 : IsRow t.squares g
      row1 = (group_of t tiling (suc v) g e).0.row

      cases : (0 < (group_of t tiling (suc v) g e).0.row.first.y) ⊎ ((group_of t tiling (suc v) g e).0.row.first.y ≤ 0)
          → 0 < (group_of t tiling (suc v) g e).0.row.first.y
      cases (inl h) = h
      cases (inr h) = absurd (from (cases_lt 0 (group_of t tiling (suc v) g e).0.row.first.x))
        where
          from : (0 < (group_of t tiling (suc v) g e).0.row.first.x) ⊎ ((group_of t tiling (suc v) g e).0.row.first.x ≤ 0) → ⊥
          from (inl k) = at (a_square_over_each_cell t tiling ((group_of t tiling (suc v) g e).0.row.first.x - 1) 0 (omega (
            arith,
            some_width t tiling (suc v) g e,
            end_within t tiling (suc v) g e,
          ))
              (omega (arith, below_height t tiling (suc v) g e)))
            where
              at : (z : Square) × IsOneOf z t.squares × (covers ((group_of t tiling (suc v) g e).0.row.first.x - 1) 0 z ≡ true) → ⊥
              at (z, m, f) = let o = over_from ((group_of t tiling (suc v) g e).0.row.first.x - 1) 0 z f in
                  not_left t tiling (suc v) g e z m (omega (arith, o.top)) (omega (arith, o.left)) (omega (arith, o.right))
          from (inr k) = omega (
            arith,
            ap (count_by (covers 0 0)) (row_is t tiling),
            cell_once t tiling 0 0 (wide_enough t tiling) (omega (arith, below_height t tiling (suc v) g e)),
            ap (λ (gs : List (List Square)). count_by (covers 0 0) (row_of gs)) (known_groups t tiling).is,
            count_row (covers 0 0) (known_groups t tiling).group (known_groups t tiling).others,
            count_at (covers 0 0) (known_groups t tiling).others v,
            ap (count_by (covers 0 0))
                (get_index (known_groups t tiling).others v g
                (subst (λ (gs : List (List Square)). slice_get gs (suc v) ≡ Some g) (known_groups t tiling).is e)),
            one_counted (covers 0 0) g (group_of t tiling (suc v) g e).0.row.first (first_in t tiling g (group_of t tiling (suc v) g e).0.row)
                (covers_from 0 0 (group_of t tiling (suc v) g e).0.row.first (omega arith)
                (omega (arith, side_of t tiling (group_of t tiling (suc v) g e).0.row.first (first_one t tiling (suc v) g e))) (omega arith)
                (omega (arith, side_of t tiling (group_of t tiling (suc v) g e).0.row.first (first_one t tiling (suc v) g e)))),
            one_counted (covers 0 0) (known_groups t tiling).group (known_groups t tiling).own.row.first
                (first_in t tiling (known_groups t tiling).group (known_groups t tiling).own.row)
                (covers_from 0 0 (known_groups t tiling).own.row.first (omega (arith, own_x)) (omega (arith, own_x, own_side)) (omega (arith, own_y))
                (omega (arith, own_y, own_side))),
          )
            where
              own_x : (known_groups t tiling).own.row.first.x ≡ 0
              own_x = ap (λ (s : Square). s.x) (known_groups t tiling).at_first ∙ (known_groups t tiling).x

              own_y : (known_groups t tiling).own.row.first.y ≡ 0
              own_y = ap (λ (s : Square). s.y) (known_groups t tiling).at_first ∙ (known_groups t tiling).y

              own_side : 0 < (known_groups t tiling).own.row.first.s
              own_side = side_of t tiling (known_groups t tiling).own.row.first
                  (in_group t tiling 0 (known_groups t tiling).group top_group (known_groups t tiling).own.row.first
                  (first_in t tiling (known_groups t tiling).group (known_groups t tiling).own.row))
