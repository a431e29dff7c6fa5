-- The groups of a tiling's code fit into the gaps, one after another, and the squares are then laid as they stand in it.
use Rattle.std.specs.List.{AllByRecursion}
use Rattle.std.proofs.Common.{List, [], ap, arith, cond, count_by, inl, inr, map, refl, subst, sum, sym, true, ℕ, ◌++◌, ◌+◌, ◌-◌, ◌<◌, ◌∙◌, ◌∷◌, ◌≡◌, ◌≤◌, ◌⊎◌}
use Rattle.std.proofs.lemmas.Bool.{cases_lt}
use Rattle.std.proofs.lemmas.List.Sums.{sum_by-append}
use Rattle.std.proofs.lemmas.List.{append-nil, append_assoc}
use Rattle.bk_laws.proofs.Totals.{sum_is_total}
use Rattle.bk_tiling.proofs.Cells.{column_from, column_left, column_right, counted_one, covers_from, depth_comes_from, depth_reaches, from_append}
use Rattle.bk_tiling.proofs.Cells.{in_all, one_counted, over_from}
use Rattle.bk_tiling.proofs.Members.{in_back, in_front}
use Rattle.bk_tiling.proofs.Rows.{chain_over, chain_total, chain_within, laid_sides}
use Rattle.bk_tiling.proofs.TilingLaws.{a_square_over_each_cell, cell_once, side_of, within_of}
use Rattle.bk_tiling.specs.CodeOrder.{InCodeOrder, comes_before}
use Rattle.bk_tiling.specs.Column.{covers_column, depth}
use Rattle.bk_tiling.specs.Tiling.{IsOneOf, IsTiling, Tiling, covers}
use Rattle.bk_tiling.specs.declared.Square.{Square}
use Rattle.bk_tiling.proofs.Groups.{AllIn, IsGroup, IsRow, chain_is_group, groups_row, row_of}
use Rattle.bk_tiling.proofs.NextCorner.{IsNoLater, next_corner}
use Rattle.bk_tiling.proofs.OrderLaws.{before_level}
use Rattle.bk_tiling.proofs.TilingGroups.{all_groups, one_there}
use Rattle.bk_tiling.specs.SquareGroups.{laid_group, square_groups}
use Rattle.bk_profile.specs.Gap.{IsGap, LaysTo}
use Rattle.bk_profile.specs.LayingLaws.{ACodeIsLaid}

before_all : (front back : List Square) → InCodeOrder (front ++ back) → (q r : Square) → IsOneOf q front → IsOneOf r back → comes_before q r ≡ true
before_all [] back o q r h k = absurd h
before_all (p ∷ front) back o q r (inl e) k = ap (λ (s : Square). comes_before s r) e
    ∙ in_all (λ s. comes_before p s ≡ true) (front ++ back) o.0 r (in_back front back r k)
before_all (p ∷ front) back o q r (inr h) k = before_all front back o.1 q r h k

back_order : (front back : List Square) → InCodeOrder (front ++ back) → InCodeOrder back
back_order [] back o = o
back_order (q ∷ front) back o = back_order front back o.1

module _ (t : Tiling) (tiling : IsTiling t) (laid group back : List Square) (is : t.squares ≡ laid ++ (group ++ back)) (g : IsGroup t.squares group) where
  abbrev row : IsRow t.squares group
  row = g.row

  in_group : (q : Square) → IsOneOf q group → IsOneOf q t.squares
  in_group q h = subst (IsOneOf q) (sym is) (in_back laid (group ++ back) q (in_front group back q h))

  first_in : IsOneOf g.row.first group
  first_in = subst (IsOneOf g.row.first) (sym g.row.is) (inl refl)

  next_is : t.squares ≡ laid ++ (g.row.first ∷ (g.row.rest ++ back))
  next_is = is ∙ ap (λ (l : List Square). laid ++ (l ++ back)) g.row.is

  below_height : g.row.first.y < t.height
  below_height = let w =
      (within_of t tiling g.row.first (in_group g.row.first first_in)).bottom in omega (arith, side_of t tiling g.row.first (in_group g.row.first first_in))

  -- a cell is covered by what is laid, or the next square stands no later
  laid_or_later : (i j : ℕ) → i < t.width → j < t.height → (IsNoLater g.row.first i j → ⊥) → (q : Square) × IsOneOf q laid × (covers i j q ≡ true)
  laid_or_later i j a b not = from (cases_lt 0 (count_by (covers i j) laid))
    where
      from : (0 < count_by (covers i j) laid) ⊎ (count_by (covers i j) laid ≤ 0) → (q : Square) × IsOneOf q laid × (covers i j q ≡ true)
      from (inl h) = counted_one (covers i j) laid h
      from (inr h) =
          absurd (not
          (next_corner t laid g.row.first (g.row.rest ++ back) tiling next_is i j a b (λ r k e. omega (arith, h, one_counted (covers i j) laid r k e))))

  least : (c : ℕ) → c < t.width → g.row.first.y ≤ depth laid c
  least c wide = cases (cases_lt 0 g.row.first.y)
    where
      cases : (0 < g.row.first.y) ⊎ (g.row.first.y ≤ 0) → g.row.first.y ≤ depth laid c
      cases (inr h) = omega arith
      cases (inl h) = from (laid_or_later c (g.row.first.y - 1) wide (omega (arith, below_height)) (λ n. let l = n.level in omega arith))
        where
          from : (q : Square) × IsOneOf q laid × (covers c (g.row.first.y - 1) q ≡ true) → g.row.first.y ≤ depth laid c
          from (q, k, e) = let o = over_from c (g.row.first.y - 1) q e in omega (arith, depth_reaches laid c q k (column_from c q o.left o.right), o.bottom)

  leftmost : (c : ℕ) → c < t.width → c < g.row.first.x → g.row.first.y < depth laid c
  leftmost c wide left = from (laid_or_later c g.row.first.y wide below_height (λ n. let l = n.column refl in omega arith))
    where
      from : (q : Square) × IsOneOf q laid × (covers c g.row.first.y q ≡ true) → g.row.first.y < depth laid c
      from (q, k, e) = let o = over_from c g.row.first.y q e in omega (arith, depth_reaches laid c q k (column_from c q o.left o.right), o.bottom)

  -- the squares of the group lie over its columns alone
  at_level : (c : ℕ) → g.row.first.x ≤ c → c < g.row.end → (r : Square) × IsOneOf r group × (covers c g.row.first.y r ≡ true)
  at_level c lo hi = from (chain_over group g.row.first.x g.row.end g.row.chain c lo hi)
    where
      from : (r : Square) × IsOneOf r group × (r.x ≤ c) × (c < r.x + r.s) → (r : Square) × IsOneOf r group × (covers c g.row.first.y r ≡ true)
      from (r, h, a, b) = let top = in_all (λ q. q.y ≡ g.row.first.y) group g.row.tops r h in
          (r, h, covers_from c g.row.first.y r a b (omega (arith, top)) (omega (arith, top, side_of t tiling r (in_group r h))))

  end_within : g.row.end ≤ t.width
  end_within = cases (cases_lt g.row.first.x g.row.end)
    where
      cases : (g.row.first.x < g.row.end) ⊎ (g.row.end ≤ g.row.first.x) → g.row.end ≤ t.width
      cases (inr h) = let w =
          (within_of t tiling g.row.first (in_group g.row.first first_in)).right in omega (arith, side_of t tiling g.row.first (in_group g.row.first first_in))
      cases (inl h) = from (at_level (g.row.end - 1) (omega arith) (omega arith))
        where
          from : (r : Square) × IsOneOf r group × (covers (g.row.end - 1) g.row.first.y r ≡ true) → g.row.end ≤ t.width
          from (r, k, f) = omega (arith, (over_from (g.row.end - 1) g.row.first.y r f).right, (within_of t tiling r (in_group r k)).right)

  some_width : g.row.first.x < g.row.end
  some_width =
      omega (
        arith,
        (chain_within group g.row.first.x g.row.end g.row.chain g.row.first first_in).1,
        side_of t tiling g.row.first (in_group g.row.first first_in),
      )

  level : (c : ℕ) → g.row.first.x ≤ c → c < g.row.end → depth laid c ≡ g.row.first.y
  level c lo hi = cases (cases_lt g.row.first.y (depth laid c))
    where
      cases : (g.row.first.y < depth laid c) ⊎ (depth laid c ≤ g.row.first.y) → depth laid c ≡ g.row.first.y
      cases (inr h) = omega (arith, least c (omega (arith, end_within)))
      cases (inl h) = from (depth_comes_from laid c g.row.first.y h) (at_level c lo hi)
        where
          -- a laid square over the cell and one of the group
          from : (q : Square) × IsOneOf q laid × (covers_column c q ≡ true) × (g.row.first.y < q.y + q.s)
              → (r : Square) × IsOneOf r group × (covers c g.row.first.y r ≡ true) → depth laid c ≡ g.row.first.y
          from (q, k, e, d) (r, m, f) = absurd (omega (
            arith,
            ap (count_by (covers c g.row.first.y)) is,
            cell_once t tiling c g.row.first.y (omega (arith, end_within)) below_height,
            sum_by-append (λ s. cond (covers c g.row.first.y s) 1 0) laid (group ++ back),
            one_counted (covers c g.row.first.y) laid q k (covers_from c g.row.first.y q (column_left c q e) (column_right c q e)
                (before_level q g.row.first
                (before_all laid (group ++ back) (subst InCodeOrder is tiling.ordered) q g.row.first k (in_front group back g.row.first first_in))) d),
            one_counted (covers c g.row.first.y) (group ++ back) r (in_front group back r m) f,
          ))

  ends : g.row.end < t.width → g.row.first.y < depth laid g.row.end
  ends wide = from (a_square_over_each_cell t tiling g.row.end g.row.first.y wide below_height)
    where
      from : (z : Square) × IsOneOf z t.squares × (covers g.row.end g.row.first.y z ≡ true) → g.row.first.y < depth laid g.row.end
      from (z, h, e) = cases (from_append laid (group ++ back) z (subst (IsOneOf z) is h))
        where
          reaches : g.row.first.y ≡ z.y → g.row.first.y < depth laid g.row.end
          reaches ey = by (cases_lt z.x g.row.end)
            where
              by : (z.x < g.row.end) ⊎ (g.row.end ≤ z.x) → g.row.first.y < depth laid g.row.end
              by (inr k) = absurd (g.row.right z h (sym ey) (omega (arith, (over_from g.row.end g.row.first.y z e).left)))
              by (inl k) = last (at_level (g.row.end - 1) (omega (arith, some_width)) (omega (arith, some_width)))
                where
                  last : (r : Square) × IsOneOf r group × (covers (g.row.end - 1) g.row.first.y r ≡ true) → g.row.first.y < depth laid g.row.end
                  last (r, m, f) = let same : z ≡ r = one_there t tiling z r (g.row.end - 1) g.row.first.y h
                      (covers_from (g.row.end - 1) g.row.first.y z (omega arith) (omega (arith, (over_from g.row.end g.row.first.y z e).right))
                      (omega (arith, ey)) (omega (arith, ey, side_of t tiling z h))) (in_group r m) f in
                      absurd (omega (
                        arith,
                        (over_from g.row.end g.row.first.y z e).right,
                        ap (λ (s : Square). s.x + s.s) same,
                        (chain_within group g.row.first.x g.row.end g.row.chain r m).1,
                      ))

          order : InCodeOrder (g.row.first ∷ (g.row.rest ++ back))
          order = back_order laid (g.row.first ∷ (g.row.rest ++ back)) (subst InCodeOrder next_is tiling.ordered)

          later : IsOneOf z (g.row.first ∷ (g.row.rest ++ back)) → g.row.first.y ≤ z.y
          later (inl same) = omega (arith, ap (λ (s : Square). s.y) same)
          later (inr k) = before_level g.row.first z (in_all (λ s. comes_before g.row.first s ≡ true) (g.row.rest ++ back) order.0 z k)

          cases : IsOneOf z laid ⊎ IsOneOf z (group ++ back) → g.row.first.y < depth laid g.row.end
          cases (inl k) = let o =
              over_from g.row.end g.row.first.y z e in omega (arith, depth_reaches laid g.row.end z k (column_from g.row.end z o.left o.right), o.bottom)
          cases (inr k) =
              reaches (omega (arith, (over_from g.row.end g.row.first.y z e).top, later (subst (λ (l : List Square). IsOneOf z (l ++ back)) g.row.is k)))

  -- the gap before a group of the tiling is the stretch under which the group stands
  pub gap_before_group : IsGap t.width laid (record { x = g.row.first.x; width = g.row.end - g.row.first.x; level = g.row.first.y })
  gap_before_group = record {
    flat = record {
      some = omega (arith, some_width);
      within = omega (arith, some_width, end_within);
      level =
          λ c lo hi. level c lo (omega (arith, some_width));
    };
    least = least;
    leftmost = λ c h. leftmost c (omega (arith, some_width, end_within)) h;
    ends = λ h. subst (λ (c : ℕ). g.row.first.y < depth laid c) (omega (arith, some_width)) (ends (omega (arith, some_width, h)));
  }

  -- the sides of a group of the tiling fill the stretch under which it stands
  pub group_fills_gap : sum (laid_sides group) ≡ g.row.end - g.row.first.x
  group_fills_gap = omega (arith, sum_is_total (laid_sides group), chain_total group g.row.first.x g.row.end g.row.chain)

  -- the sides of a group of the tiling, laid into the gap, are its squares
  pub group_is : laid ++ laid_group g.row.first.x g.row.first.y (laid_sides group) ≡ laid ++ group
  group_is = ap (λ (l : List Square). laid ++ l) (sym (chain_is_group group g.row.first.x g.row.first.y g.row.end g.row.chain g.row.tops))

lays : (t : Tiling) → IsTiling t → (groups : List (List Square)) (laid : List Square) → t.squares ≡ laid ++ row_of groups
    → AllByRecursion (λ g. IsGroup t.squares g × AllIn t.squares g) groups → LaysTo t.width laid (map (map (λ q. q.s)) groups) t.squares
lays t tiling [] laid is all = sym (append-nil laid) ∙ sym is
lays t tiling (g ∷ groups) laid is all = (
  record { x = all.0.0.row.first.x; width = all.0.0.row.end - all.0.0.row.first.x; level = all.0.0.row.first.y },
  gap_before_group t tiling laid g (row_of groups) is all.0.0,
  group_fills_gap t tiling laid g (row_of groups) is all.0.0,
  subst (λ (l : List Square). LaysTo t.width l (map (map (λ q. q.s)) groups) t.squares) (sym (group_is t tiling laid g (row_of groups) is all.0.0))
      (lays t tiling groups (laid ++ g) (is ∙ sym (append_assoc laid g (row_of groups))) all.1),
)

-- the groups of a tiling's code fit one after another, and its squares are what is laid
pub a_code_is_laid : ACodeIsLaid
a_code_is_laid t tiling = lays t tiling (square_groups t.squares) [] (sym (groups_row t.squares)) (all_groups t tiling)
