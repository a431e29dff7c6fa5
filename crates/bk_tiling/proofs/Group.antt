-- A group of squares laid side by side on level columns: which cells it covers and how deep its columns are.
use Rattle.std.specs.List.{AllByRecursion}
use Rattle.std.proofs.Common.{Bool, List, [], ap, arith, cond, count_by, false, inl, inr, length, map, max, refl, subst, sum, sym, true, ℕ, ◌++◌, ◌+◌, ◌<◌}
use Rattle.std.proofs.Common.{◌∙◌, ◌∷◌, ◌≡◌, ◌≤◌, ◌⊎◌}
use Rattle.std.proofs.lemmas.Bool.{cases_lt, true≢false}
use Rattle.bk_laws.proofs.Totals.{sum_is_total, total}
use Rattle.bk_tiling.proofs.Cells.{column_from, column_left, column_right, count-cons, covers_from, none_counted, over_from}
use Rattle.bk_tiling.specs.Column.{covers_column, depth}
use Rattle.bk_tiling.specs.Tiling.{IsOneOf, covers}
use Rattle.bk_tiling.specs.declared.Square.{Square}
use Rattle.bk_tiling.specs.SquareGroups.{laid_group}

-- a column under the squares of two lists is as deep as under the list that reaches deeper
pub depth-append-max : (laid more : List Square) (c : ℕ) → depth (laid ++ more) c ≡ max (depth laid c) (depth more c)
depth-append-max [] more c = grind arith
depth-append-max (q ∷ laid) more c =
    step (cond (covers_column c q) (q.y + q.s) 0) (depth laid c) (depth more c) (depth (laid ++ more) c) (depth-append-max laid more c)
  where
    step : (a b d e : ℕ) → e ≡ max b d → max a e ≡ max (max a b) d
    step a b d e h = grind arith

-- beside the group
pub beside_group : (x level : ℕ) (sides : List ℕ) (c : ℕ) → (c < x) ⊎ (x + total sides ≤ c) → (q : Square) → IsOneOf q (laid_group x level sides)
    → covers_column c q ≡ true → ⊥
beside_group x level [] c away q h e = h
beside_group x level (s ∷ sides) c away q (inl same) e = by away
  where
    left : q.x ≡ x
    left = ap (λ (r : Square). r.x) same

    side : q.s ≡ s
    side = ap (λ (r : Square). r.s) same

    by : (c < x) ⊎ (x + (s + total sides) ≤ c) → ⊥
    by (inl a) = omega (arith, column_left c q e, left)
    by (inr a) = omega (arith, column_right c q e, left, side)
beside_group x level (s ∷ sides) c away q (inr h) e = beside_group (x + s) level sides c (by away) q h e
  where
    by : (c < x) ⊎ (x + (s + total sides) ≤ c) → (c < x + s) ⊎ (x + s + total sides ≤ c)
    by (inl a) = inl (omega arith)
    by (inr a) = inr (omega arith)

-- what the group has over one of its columns
pub record HasOver (level c : ℕ) (squares : List Square) : Type 0 where
  pub square : Square
  pub is : IsOneOf square squares
  pub left : square.x ≤ c
  pub right : c < square.x + square.s
  pub top : square.y ≡ level
  pub deep : depth squares c ≡ square.y + square.s
  pub counted : (j : ℕ) → level ≤ j → j < level + square.s → count_by (covers c j) squares ≡ 1

-- a column that no square covers has the depth 0
pub no_depth : (squares : List Square) (c : ℕ) → ((q : Square) → IsOneOf q squares → covers_column c q ≡ true → ⊥) → depth squares c ≡ 0
no_depth [] c none = refl
no_depth (q ∷ squares) c none = cases (covers_column c q) refl (no_depth squares c (λ r h e. none r (inr h) e))
  where
    cases : (b : Bool) → covers_column c q ≡ b → depth squares c ≡ 0 → max (cond b (q.y + q.s) 0) (depth squares c) ≡ 0
    cases true e rest = absurd (none q (inl refl) e)
    cases false e rest = grind arith

covers_none : (c j : ℕ) (q : Square) → covers_column c q ≡ false → ◌≡◌ {A = ℕ} (cond (covers c j q) 1 0) 0
covers_none c j q e = cases (covers c j q) refl
  where
    cases : (b : Bool) → covers c j q ≡ b → ◌≡◌ {A = ℕ} (cond b 1 0) 0
    cases true f = absurd (true≢false (sym (column_from c q (over_from c j q f).left (over_from c j q f).right) ∙ e))
    cases false f = refl

-- a square that covers a cell counts as one there
pub covers_one : (c j : ℕ) (q : Square) → covers c j q ≡ true → ◌≡◌ {A = ℕ} (cond (covers c j q) 1 0) 1
covers_one c j q e = ap (λ (b : Bool). cond {A = ℕ} b 1 0) e

-- over each column from the group's left end to its right end stands one square of the group
pub over_group : (x level : ℕ) (sides : List ℕ) (c : ℕ) → x ≤ c → c < x + total sides → HasOver level c (laid_group x level sides)
over_group x level [] c lo hi = absurd (omega arith)
over_group x level (s ∷ sides) c lo hi = cases (cases_lt c (x + s)) (over_group (x + s) level sides c)
  where
    cases : (c < x + s) ⊎ (x + s ≤ c) → (x + s ≤ c → c < x + s + total sides → HasOver level c (laid_group (x + s) level sides))
        → HasOver level c (laid_group x level (s ∷ sides))
    cases (inl h) rest = record { square = record { x = x; y = level; s = s }; is = inl refl; left = lo; right = h; top = refl; deep = deep; counted = counted }
      where
        no_other : (q : Square) → IsOneOf q (laid_group (x + s) level sides) → covers_column c q ≡ true → ⊥
        no_other q k e = beside_group (x + s) level sides c (inl h) q k e

        on : covers_column c (record { x = x; y = level; s = s }) ≡ true
        on = column_from c (record { x = x; y = level; s = s }) lo h

        deep : depth (laid_group x level (s ∷ sides)) c ≡ level + s
        deep = (λ i. max (cond (on i) (level + s) 0) (no_depth (laid_group (x + s) level sides) c no_other i)) ∙ grind arith

        counted : (j : ℕ) → level ≤ j → j < level + s → count_by (covers c j) (laid_group x level (s ∷ sides)) ≡ 1
        counted j a b = omega (
          arith,
          count-cons (covers c j) (record { x = x; y = level; s = s }) (laid_group (x + s) level sides),
          covers_one c j (record { x = x; y = level; s = s }) (covers_from c j (record { x = x; y = level; s = s }) lo h a b),
          none_counted (covers c j) (laid_group (x + s) level sides)
              (λ q k e. no_other q k (column_from c q (over_from c j q e).left (over_from c j q e).right)),
        )
    cases (inr h) rest = record { square = r.square; is = inr r.is; left = r.left; right = r.right; top = r.top; deep = deep; counted = counted }
      where
        r : HasOver level c (laid_group (x + s) level sides)
        r = rest h (omega arith)

        off : covers_column c (record { x = x; y = level; s = s }) ≡ false
        off = by (covers_column c (record { x = x; y = level; s = s })) refl
          where
            by : (b : Bool) → covers_column c (record { x = x; y = level; s = s }) ≡ b → b ≡ false
            by true e = absurd (omega (arith, column_right c (record { x = x; y = level; s = s }) e))
            by false e = refl

        deep : depth (laid_group x level (s ∷ sides)) c ≡ (r.square).y + (r.square).s
        deep = (λ i. max (cond (off i) (level + s) 0) (r.deep i)) ∙ grind arith

        counted : (j : ℕ) → level ≤ j → j < level + (r.square).s → count_by (covers c j) (laid_group x level (s ∷ sides)) ≡ 1
        counted j a b = omega (
          arith,
          count-cons (covers c j) (record { x = x; y = level; s = s }) (laid_group (x + s) level sides),
          covers_none c j (record { x = x; y = level; s = s }) off,
          r.counted j a b,
        )

-- each square of a group has its top at the group's level
pub group_top : (x level : ℕ) (sides : List ℕ) (q : Square) → IsOneOf q (laid_group x level sides) → q.y ≡ level
group_top x level [] q h = absurd h
group_top x level (s ∷ sides) q (inl same) = ap (λ (r : Square). r.y) same
group_top x level (s ∷ sides) q (inr h) = group_top (x + s) level sides q h

-- each square of a group lies between the group's left end and its right end
pub group_within : (x level : ℕ) (sides : List ℕ) (q : Square) → IsOneOf q (laid_group x level sides) → (x ≤ q.x) × (q.x + q.s ≤ x + total sides)
group_within x level [] q h = absurd h
group_within x level (s ∷ sides) q (inl same) = let a : q.x ≡ x = ap (λ (r : Square). r.x) same in let b : q.s ≡ s =
    ap (λ (r : Square). r.s) same in (omega arith, omega arith)
group_within x level (s ∷ sides) q (inr h) = let r = group_within (x + s) level sides q h in (omega (arith, r.0), omega (arith, r.1))

-- each square of a group has a side, where all sides of the group are positive
pub group_sides : (x level : ℕ) (sides : List ℕ) → AllByRecursion (λ s. 0 < s) sides → (q : Square) → IsOneOf q (laid_group x level sides) → 0 < q.s
group_sides x level [] some q h = absurd h
group_sides x level (s ∷ sides) some q (inl same) = subst (λ (n : ℕ). 0 < n) (sym (ap (λ (r : Square). r.s) same)) some.0
group_sides x level (s ∷ sides) some q (inr h) = group_sides (x + s) level sides some.1 q h

-- the sides of the squares of a group are those that it was laid from
pub group_list : (x level : ℕ) (sides : List ℕ) → map (λ q. q.s) (laid_group x level sides) ≡ sides
group_list x level [] = refl
group_list x level (s ∷ sides) = ap (λ rest. s ∷ rest) (group_list (x + s) level sides)

-- a group has a square for each side
pub length_group : (x y : ℕ) (sides : List ℕ) → length (laid_group x y sides) ≡ length sides
length_group x y [] = refl
length_group x y (s ∷ sides) = omega (arith, length_group (x + s) y sides)

-- one more square of a group
pub group_push : (x y : ℕ) (sides : List ℕ) (s : ℕ)
    → laid_group x y (sides ++ s ∷ []) ≡ laid_group x y sides ++ (record { x = x + sum sides; y = y; s = s }) ∷ []
group_push x y sides s = go x sides ∙ ap (λ n. laid_group x y sides ++ (record { x = x + n; y = y; s = s }) ∷ []) (sym (sum_is_total sides))
  where
    go : (x : ℕ) (sides : List ℕ) → laid_group x y (sides ++ s ∷ []) ≡ laid_group x y sides ++ (record { x = x + total sides; y = y; s = s }) ∷ []
    go x [] = ap (λ n. (record { x = n; y = y; s = s }) ∷ []) (omega arith)
    go x (t ∷ sides) = ap (λ (l : List Square). (record { x = x; y = y; s = t }) ∷ l)
        (go (x + t) sides ∙ ap (λ n. laid_group (x + t) y sides ++ (record { x = n; y = y; s = s }) ∷ []) (omega arith))
