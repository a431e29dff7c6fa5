-- Under a group laid on level columns what is laid still fills its columns once: how deep the columns are then, and what covers them.
use Rattle.std.proofs.Common.{Bool, List, [], ap, arith, cond, count_by, false, inl, inr, max, refl, true, ℕ, ◌++◌, ◌+◌, ◌<◌, ◌∙◌, ◌∷◌, ◌≡◌, ◌≤◌, ◌⊎◌}
use Rattle.std.proofs.lemmas.Bool.{cases_lt}
use Rattle.std.proofs.lemmas.List.Sums.{sum_by-append}
use Rattle.bk_laws.proofs.Totals.{total}
use Rattle.bk_tiling.proofs.Cells.{column_from, column_right, depth_reaches, none_counted, over_from}
use Rattle.bk_tiling.specs.Column.{covers_column, depth}
use Rattle.bk_tiling.specs.Tiling.{IsOneOf, covers}
use Rattle.bk_tiling.specs.declared.Square.{Square}
use Rattle.bk_tiling.specs.SquareGroups.{laid_group}
use Rattle.bk_tiling.proofs.Group.{HasOver, beside_group, depth-append-max, group_top, group_within, no_depth, over_group}

module _ (laid : List Square) (x level : ℕ) (sides : List ℕ) (level_there : (c : ℕ) → x ≤ c → c < x + total sides → depth laid c ≡ level) where
  -- columns beside the group are as deep as before
  pub depth_beside : (c : ℕ) → (c < x) ⊎ (x + total sides ≤ c) → depth (laid ++ laid_group x level sides) c ≡ depth laid c
  depth_beside c away = depth-append-max laid (laid_group x level sides) c
      ∙ step (depth laid c) (depth (laid_group x level sides) c) (no_depth (laid_group x level sides) c (beside_group x level sides c away))
    where
      step : (a b : ℕ) → b ≡ 0 → max a b ≡ a
      step a b e = grind arith

  -- a column under a square of the group is as deep as the square's bottom
  pub depth_under : (c : ℕ) (q : Square) → IsOneOf q (laid_group x level sides) → q.x ≤ c → c < q.x + q.s
      → depth (laid ++ laid_group x level sides) c ≡ q.y + q.s
  depth_under c q h lo hi = depth-append-max laid (laid_group x level sides) c
      ∙ step (depth laid c) (depth (laid_group x level sides) c) (q.y + q.s)
      (omega (arith, level_there c inside.0 inside.1, group_top x level sides q h)) (own x sides h)
    where
      inside : (x ≤ c) × (c < x + total sides)
      inside = let w = group_within x level sides q h in (omega (arith, w.0), omega (arith, w.1))

      step : (a b e : ℕ) → a ≤ e → b ≡ e → max a b ≡ e
      step a b e k l = grind arith

      own : (x : ℕ) (sides : List ℕ) → IsOneOf q (laid_group x level sides) → depth (laid_group x level sides) c ≡ q.y + q.s
      own x [] k = absurd k
      own x (s ∷ sides) (inl same) =
          (λ i. max (cond (on i) (level + s) 0) (no_depth (laid_group (x + s) level sides) c
          (beside_group (x + s) level sides c (inl (omega (arith, at, side)))) i)) ∙ step (level + s) 0 (q.y + q.s) (omega (arith, top, side))
        where
          at : q.x ≡ x
          at = ap (λ (r : Square). r.x) same

          side : q.s ≡ s
          side = ap (λ (r : Square). r.s) same

          top : q.y ≡ level
          top = ap (λ (r : Square). r.y) same

          on : covers_column c (record { x = x; y = level; s = s }) ≡ true
          on = column_from c (record { x = x; y = level; s = s }) (omega (arith, at)) (omega (arith, at, side))

          step : (a b e : ℕ) → e ≡ a → max a 0 ≡ e
          step a b e k = grind arith
      own x (s ∷ sides) (inr k) = (λ i. max (cond (off i) (level + s) 0) (own (x + s) sides k i)) ∙ zero_max (q.y + q.s)
        where
          zero_max : (a : ℕ) → max 0 a ≡ a
          zero_max a = grind arith

          off : covers_column c (record { x = x; y = level; s = s }) ≡ false
          off = by (covers_column c (record { x = x; y = level; s = s })) refl
            where
              by : (b : Bool) → covers_column c (record { x = x; y = level; s = s }) ≡ b → b ≡ false
              by true e = absurd (omega (arith, column_right c (record { x = x; y = level; s = s }) e, (group_within (x + s) level sides q k).0))
              by false e = refl

  -- where what is laid fills its columns once, it fills them once with the group laid
  pub filled_group : (width : ℕ) → ((c j : ℕ) → c < width → j < depth laid c → count_by (covers c j) laid ≡ 1)
      → (c j : ℕ) → c < width → j < depth (laid ++ laid_group x level sides) c → count_by (covers c j) (laid ++ laid_group x level sides) ≡ 1
  filled_group width filled c j wide deep = place (cases_lt c x) (cases_lt c (x + total sides))
    where
      split : count_by (covers c j) (laid ++ laid_group x level sides) ≡ count_by (covers c j) laid + count_by (covers c j) (laid_group x level sides)
      split = sum_by-append (λ q. cond (covers c j q) 1 0) laid (laid_group x level sides)

      away : (c < x) ⊎ (x + total sides ≤ c) → count_by (covers c j) (laid ++ laid_group x level sides) ≡ 1
      away a = omega (
        arith,
        split,
        filled c j wide (omega (arith, depth_beside c a)),
        none_counted (covers c j) (laid_group x level sides)
            (λ q k e. beside_group x level sides c a q k (column_from c q (over_from c j q e).left (over_from c j q e).right)),
      )

      under : x ≤ c → c < x + total sides → count_by (covers c j) (laid ++ laid_group x level sides) ≡ 1
      under lo hi = cases (cases_lt j level)
        where
          over : HasOver level c (laid_group x level sides)
          over = over_group x level sides c lo hi

          here : depth laid c ≡ level
          here = level_there c lo hi

          bottom : depth (laid ++ laid_group x level sides) c ≡ (over.square).y + (over.square).s
          bottom = depth_under c over.square over.is over.left over.right

          cases : (j < level) ⊎ (level ≤ j) → count_by (covers c j) (laid ++ laid_group x level sides) ≡ 1
          cases (inl a) = omega (
            arith,
            split,
            filled c j wide (omega (arith, here)),
            none_counted (covers c j) (laid_group x level sides) (λ q k e. omega (arith, (over_from c j q e).top, group_top x level sides q k)),
          )
          cases (inr a) = omega (
            arith,
            split,
            over.counted j a (omega (arith, bottom, over.top)),
            none_counted (covers c j) laid
                (λ q k e.
                omega (arith, (over_from c j q e).bottom, depth_reaches laid c q k (column_from c q (over_from c j q e).left (over_from c j q e).right), here)),
          )

      place : (c < x) ⊎ (x ≤ c) → (c < x + total sides) ⊎ (x + total sides ≤ c) → count_by (covers c j) (laid ++ laid_group x level sides) ≡ 1
      place (inl a) b = away (inl a)
      place (inr a) (inr b) = away (inr b)
      place (inr a) (inl b) = under a b
