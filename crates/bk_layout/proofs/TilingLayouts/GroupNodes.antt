-- A node of a tiling: its level and its columns, what hangs from it and what ends on it; and a group of squares as one.
use Rattle.std.proofs.Common.{List, Some, [], ap, arith, inl, inr, length, map, refl, slice_get, slice_index_or, subst, suc}
use Rattle.std.proofs.Common.{sym, zero, ℕ, ◌++◌, ◌+◌, ◌-◌, ◌<◌, ◌∷◌, ◌≡◌, ◌≤◌, ◌⊎◌}
use Rattle.std.proofs.lemmas.Bool.{cases_lt}
use Rattle.bk_tiling.proofs.Cells.{in_all}
use Rattle.bk_tiling.proofs.Groups.{IsGroup}
use Rattle.bk_tiling.proofs.Rows.{chain_over, chain_within}
use Rattle.bk_tiling.specs.SquareGroups.{square_groups}
use Rattle.bk_tiling.specs.Tiling.{IsOneOf, IsTiling, Tiling}
use Rattle.bk_tiling.specs.declared.Square.{Square}
use Rattle.bk_net.specs.Diagram.{group_level, node_below, node_levels}
use Rattle.bk_layout.proofs.TilingLayouts.Edges.{Hangs, IsCell, IsOn, bottom_within, cell, hangs_below, meet, right_within, side}
use Rattle.bk_layout.specs.TilingLayout.{node_above}

-- a node stretches over columns at a level. What hangs from it are the squares with tops there, and what ends on it are those
-- with bottoms there; no square stands beside these at either end
pub record IsNode (t : Tiling) (v : ℕ) : Type 0 where
  pub left : ℕ
  pub right : ℕ
  pub level : ℕ
  pub some : left < right
  pub wide : right ≤ t.width
  pub is_level : slice_index_or (node_levels t) v 0 ≡ level
  pub hang_to : (q : Square) → IsOneOf q t.squares → node_above (square_groups t.squares) q ≡ v → (q.y ≡ level) × (left ≤ q.x) × (q.x + q.s ≤ right)
  pub hang_from : (q : Square) (c : ℕ) → IsOneOf q t.squares → q.y ≡ level → left ≤ c → c < right → q.x ≤ c → c < q.x + q.s
      → node_above (square_groups t.squares) q ≡ v
  pub end_to : (q : Square) → IsOneOf q t.squares → node_below (square_groups t.squares) q ≡ v → (q.y + q.s ≡ level) × (left ≤ q.x) × (q.x + q.s ≤ right)
  pub end_from : (q : Square) (c : ℕ) → IsOneOf q t.squares → q.y + q.s ≡ level → left ≤ c → c < right → q.x ≤ c → c < q.x + q.s
      → node_below (square_groups t.squares) q ≡ v
  pub under : (q : Square) (c : ℕ) → IsOneOf q t.squares → left ≤ c → c < right → IsOn c level q → q.y ≡ level
  pub beyond_left : (z : Square) → IsOneOf z t.squares → z.y ≡ level → z.x + z.s ≡ left → ⊥
  pub beyond_right : (z : Square) → IsOneOf z t.squares → z.y ≡ level → z.x ≡ right → ⊥
  pub inner : ((v < length (square_groups t.squares)) × (level < t.height))
      ⊎ ((v ≡ length (square_groups t.squares)) × (level ≡ t.height) × (left ≡ 0) × (right ≡ t.width))
  pub top : v ≡ 0 → (level ≡ 0) × (left ≡ 0) × (right ≡ t.width)

-- the level of a node with a group is that of the group
pub level_of_group : (groups : List (List Square)) (v h : ℕ) (g : List Square) → slice_get groups v ≡ Some g
    → slice_index_or (map group_level groups ++ h ∷ []) v 0 ≡ group_level g
level_of_group [] v h g e = absurd (cc)
level_of_group (f ∷ groups) zero h g e = let same : f ≡ g = cc in ap group_level same
level_of_group (f ∷ groups) (suc v) h g e = level_of_group groups v h g e

-- the level of the bottom is the height
pub level_of_bottom : (groups : List (List Square)) (h : ℕ) → slice_index_or (map group_level groups ++ h ∷ []) (length groups) 0 ≡ h
level_of_bottom [] h = refl
level_of_bottom (g ∷ groups) h = level_of_bottom groups h

-- a group, by its columns
module _ (t : Tiling) (tiling : IsTiling t) (g : List Square) (k : IsGroup t.squares g) (own : (q : Square) → IsOneOf q g → IsOneOf q t.squares) where
  first_in : IsOneOf k.row.first g
  first_in = subst (IsOneOf k.row.first) (sym k.row.is) (inl refl)

  -- the squares of a group have their tops at its level
  pub tops : (q : Square) → IsOneOf q g → q.y ≡ k.row.first.y
  tops q h = in_all (λ q. q.y ≡ k.row.first.y) g k.row.tops q h

  -- the squares of a group lie within its columns
  pub within : (q : Square) → IsOneOf q g → (k.row.first.x ≤ q.x) × (q.x + q.s ≤ k.row.end)
  within q h = chain_within g k.row.first.x k.row.end k.row.chain q h

  -- over each of its columns lies one of them
  pub over : (c : ℕ) → k.row.first.x ≤ c → c < k.row.end → (r : Square) × IsOneOf r g × IsOn c k.row.first.y r
  over c lo hi = from (chain_over g k.row.first.x k.row.end k.row.chain c lo hi)
    where
      from : (r : Square) × IsOneOf r g × (r.x ≤ c) × (c < r.x + r.s) → (r : Square) × IsOneOf r g × IsOn c k.row.first.y r
      from (r, h, a, b) = (r, h, record { left = a; right = b; top = omega (arith, tops r h); bottom = omega (arith, tops r h, side t tiling r (own r h)) })

  -- a square under its level over one of its columns is one of them
  pub in_under : (q : Square) (c : ℕ) → IsOneOf q t.squares → k.row.first.x ≤ c → c < k.row.end → IsOn c k.row.first.y q → IsOneOf q g
  in_under q c h lo hi on = let r = over c lo hi in subst (λ (s : Square). IsOneOf s g) (sym (meet t tiling c k.row.first.y q r.0 h (own r.0 r.1) on r.2)) r.1

  -- a square with its top at the group's level over one of its columns is one of its squares
  pub in_level : (q : Square) (c : ℕ) → IsOneOf q t.squares → q.y ≡ k.row.first.y → k.row.first.x ≤ c → c < k.row.end → q.x ≤ c → c < q.x + q.s → IsOneOf q g
  in_level q c h level lo hi a b = in_under q c h lo hi
      (record { left = a; right = b; top = omega (arith, level); bottom = omega (arith, level, side t tiling q h) })

  first_own : IsOneOf k.row.first t.squares
  first_own = own k.row.first first_in

  -- a group has columns
  pub some_columns : k.row.first.x < k.row.end
  some_columns = omega (arith, (within k.row.first first_in).1, side t tiling k.row.first first_own)

  -- within the width
  pub end_within : k.row.end ≤ t.width
  end_within = let r = over (k.row.end - 1) (omega (arith, some_columns)) (omega (arith, some_columns)) in
      omega (arith, (r.2).right, right_within t tiling r.0 (own r.0 r.1))

  -- the level of a group is above the bottom
  pub low : k.row.first.y < t.height
  low = omega (arith, bottom_within t tiling k.row.first first_own, side t tiling k.row.first first_own)

  -- over the column behind its end no square begins at its level
  none_at_end : (z : Square) → IsOneOf z t.squares → z.y ≡ k.row.first.y → z.x ≤ k.row.end → k.row.end < z.x + z.s → ⊥
  none_at_end z is level left right = cases (cases_lt z.x k.row.end)
    where
      cases : (z.x < k.row.end) ⊎ (k.row.end ≤ z.x) → ⊥
      cases (inl n) = omega (
        arith,
        (within z (in_level z (k.row.end - 1) is (omega (arith, level)) (omega (arith, some_columns)) (omega (arith, some_columns))
            (omega (arith, n)) (omega (arith, right)))).1,
        right,
      )
      cases (inr n) = k.row.right z is (omega (arith, level)) (omega (arith, n, left))

  -- a square that ends at its level over one of its columns ends on it with all its columns
  pub ends_within : (q : Square) (c : ℕ) → IsOneOf q t.squares → q.y + q.s ≡ k.row.first.y → k.row.first.x ≤ c → c < k.row.end → q.x ≤ c
      → c < q.x + q.s → (k.row.first.x ≤ q.x) × (q.x + q.s ≤ k.row.end)
  ends_within q c h level lo hi a b = (left (cases_lt q.x k.row.first.x), right (cases_lt k.row.end (q.x + q.s)))
    where
      left : (q.x < k.row.first.x) ⊎ (k.row.first.x ≤ q.x) → k.row.first.x ≤ q.x
      left (inr m) = m
      left (inl m) = absurd (from (hangs_below t tiling q (k.row.first.x - 1) h (omega arith) (omega arith) (omega (arith, level, low))))
        where
          from : Hangs t tiling q (k.row.first.x - 1) → ⊥
          from z = cases (cases_lt k.row.first.x (z.square.x + z.square.s))
            where
              cases : (k.row.first.x < z.square.x + z.square.s) ⊎ (z.square.x + z.square.s ≤ k.row.first.x) → ⊥
              cases (inl n) = omega (
                arith,
                (within z.square
                    (in_level z.square k.row.first.x z.is (omega (arith, z.has, level)) (omega arith) some_columns (omega (arith, z.on.left)) n)).0,
                z.on.left,
                m,
              )
              cases (inr n) = k.left z.square z.is (omega (arith, z.has, level)) (omega (arith, n, z.on.right))

      right : (k.row.end < q.x + q.s) ⊎ (q.x + q.s ≤ k.row.end) → q.x + q.s ≤ k.row.end
      right (inr m) = m
      right (inl m) = absurd (from (hangs_below t tiling q k.row.end h (omega arith) m (omega (arith, level, low))))
        where
          from : Hangs t tiling q k.row.end → ⊥
          from z = none_at_end z.square z.is (omega (arith, z.has, level)) z.on.left z.on.right

  -- a group that begins at the top left corner reaches to the right edge
  pub reaches : k.row.first.x ≡ 0 → k.row.first.y ≡ 0 → k.row.end ≡ t.width
  reaches x y = cases (cases_lt k.row.end t.width)
    where
      cases : (k.row.end < t.width) ⊎ (t.width ≤ k.row.end) → k.row.end ≡ t.width
      cases (inr m) = omega (arith, m, end_within)
      cases (inl m) = absurd (from (cell t tiling k.row.end 0 m (omega (arith, low))))
        where
          from : IsCell t tiling k.row.end 0 → ⊥
          from z = none_at_end z.square z.is (omega (arith, z.on.top, y)) z.on.left z.on.right
