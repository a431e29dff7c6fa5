-- The groups of a tiling's squares: each is a row of squares on one level, and no further square stands beside it at its
-- left or right end.
use Rattle.std.specs.List.{AllByRecursion, flat_map, onto_first}
use Rattle.std.proofs.Common.{Bool, List, [], ap, arith, cond, false, inl, inr, refl, subst, sym, true, ℕ, ◌+◌, ◌<◌, ◌∙◌, ◌∷◌, ◌≡◌, ◌⊎◌}
use Rattle.std.proofs.lemmas.Bool.Decides.{nat_tests}
use Rattle.std.proofs.lemmas.Bool.{both_ways, cases_Bool}
use Rattle.bk_tiling.proofs.Cells.{covers_from, in_all}
use Rattle.bk_tiling.proofs.Rows.{Chain, chain_order, laid_sides}
use Rattle.bk_tiling.proofs.Scaling.{before_cases}
use Rattle.bk_tiling.specs.CodeOrder.{InCodeOrder, comes_before, stands_beside}
use Rattle.bk_tiling.specs.Tiling.{IsOneOf, covers}
use Rattle.bk_tiling.specs.declared.Square.{Square}
use Rattle.bk_tiling.specs.SquareGroups.{laid_group, square_groups}

-- a row of squares on one level, with no square of the list at its right
pub record IsRow (squares group : List Square) : Type 0 where
  pub first : Square
  pub rest : List Square
  pub is : group ≡ first ∷ rest
  pub end : ℕ
  pub chain : Chain first.x group end
  pub tops : AllByRecursion (λ q. q.y ≡ first.y) group
  pub right : (z : Square) → IsOneOf z squares → z.y ≡ first.y → z.x ≡ end → ⊥

-- a group: a row of squares on one level, with no square of the list at its right nor at its left
pub record IsGroup (squares group : List Square) : Type 0 where
  pub row : IsRow squares group
  pub left : (z : Square) → IsOneOf z squares → z.y ≡ row.first.y → z.x + z.s ≡ row.first.x → ⊥

-- squares with sides, in the order of a code, no two over one cell
pub record Apart (squares : List Square) : Type 0 where
  pub ordered : InCodeOrder squares
  pub sides : (q : Square) → IsOneOf q squares → 0 < q.s
  pub apart : (q r : Square) → IsOneOf q squares → IsOneOf r squares → (i j : ℕ) → covers i j q ≡ true → covers i j r ≡ true → q ≡ r

-- each square of a group is among the squares
abbrev pub AllIn : List Square → List Square → Type 0
AllIn squares group = AllByRecursion (λ q. IsOneOf q squares) group

-- the first group of squares, and the others
pub record Split (p : Square) (squares : List Square) : Type 0 where
  pub group : List Square
  pub groups : List (List Square)
  pub is : square_groups (p ∷ squares) ≡ group ∷ groups
  pub row : IsRow (p ∷ squares) group
  pub first : row.first ≡ p
  pub own : AllIn (p ∷ squares) group
  pub others : AllByRecursion (λ g. IsGroup (p ∷ squares) g × AllIn squares g) groups

-- a square that is level with another and begins at its right edge stands beside it
pub beside_from : (p r : Square) → p.y ≡ r.y → p.x + p.s ≡ r.x → stands_beside p r ≡ true
beside_from p r a b = grind (arith, nat_tests)

-- a square that stands beside another is level with it and begins at its right edge
pub beside_to : (p r : Square) → stands_beside p r ≡ true → (p.y ≡ r.y) × (p.x + p.s ≡ r.x)
beside_to p r e = (grind (arith, nat_tests), grind (arith, nat_tests))

all_more : (p : Square) (squares group : List Square) → AllIn squares group → AllIn (p ∷ squares) group
all_more p squares [] a = tt
all_more p squares (q ∷ group) a = (inr a.0, all_more p squares group a.1)

-- where a square comes before another on its level, it ends at its left or there
module _ (p r : Square) (squares : List Square) (a : Apart (p ∷ r ∷ squares)) where
  p_side : 0 < p.s
  p_side = a.sides p (inl refl)

  r_side : 0 < r.s
  r_side = a.sides r (inr (inl refl))

  first_before : (q : Square) → IsOneOf q (r ∷ squares) → comes_before p q ≡ true
  first_before q h = in_all (λ s. comes_before p s ≡ true) (r ∷ squares) (a.ordered).0 q h

  second_before : (q : Square) → IsOneOf q squares → comes_before r q ≡ true
  second_before q h = in_all (λ s. comes_before r s ≡ true) squares ((a.ordered).1).0 q h

  not_r : p ≡ r → ⊥
  not_r e = by (before_cases p r (first_before r (inl refl)))
    where
      by : (p.y < r.y) ⊎ ((p.y ≡ r.y) × (p.x < r.x)) → ⊥
      by (inl h) = omega (arith, ap (λ (s : Square). s.y) e)
      by (inr h) = omega (arith, h.1, ap (λ (s : Square). s.x) e)

  -- no square stands on p's level where p ends, unless r does
  no_later : (z : Square) → IsOneOf z squares → p.y ≡ z.y → p.x + p.s ≡ z.x → ⊥
  no_later z h ey ex = by (before_cases p r (first_before r (inl refl))) (before_cases r z (second_before z h))
    where
      by : (p.y < r.y) ⊎ ((p.y ≡ r.y) × (p.x < r.x)) → (r.y < z.y) ⊎ ((r.y ≡ z.y) × (r.x < z.x)) → ⊥
      by (inl k) (inl l) = omega arith
      by (inl k) (inr l) = omega (arith, l.0)
      by (inr k) (inl l) = omega (arith, k.0)
      by (inr k) (inr l) =
          not_r (a.apart p r (inl refl) (inr (inl refl)) r.x r.y
          (covers_from r.x r.y p (omega (arith, k.1)) (omega (arith, l.1)) (omega (arith, k.0)) (omega (arith, k.0, p_side)))
          (covers_from r.x r.y r (omega arith) (omega (arith, r_side)) (omega arith) (omega (arith, r_side))))

  in_first : (g : List Square) (row : IsRow (r ∷ squares) g) → AllIn squares g → IsOneOf row.first squares
  in_first g row all = (subst (AllIn squares) row.is all).0

  right_of : (g : List Square) (row : IsRow (r ∷ squares) g) → IsOneOf row.first (r ∷ squares) → (z : Square) → IsOneOf z (p ∷ r ∷ squares)
      → z.y ≡ row.first.y → z.x ≡ row.end → ⊥
  right_of g row h z (inl e) ey ex = by (before_cases p row.first (first_before row.first h))
    where
      by : (p.y < row.first.y) ⊎ ((p.y ≡ row.first.y) × (p.x < row.first.x)) → ⊥
      by (inl k) = omega (arith, ey, ap (λ (s : Square). s.y) e)
      by (inr k) = omega (arith, k.1, ex, ap (λ (s : Square). s.x) e, chain_order g row.first.x row.end row.chain)
  right_of g row h z (inr k) ey ex = row.right z k ey ex

  abbrev more_row : (g : List Square) → (row : IsRow (r ∷ squares) g) → IsOneOf row.first (r ∷ squares) → IsRow (p ∷ r ∷ squares) g
  more_row g row h = record { first = row.first; rest = row.rest; is = row.is; end = row.end; chain = row.chain; tops = row.tops; right = right_of g row h }

  more_group : (g : List Square) → IsGroup (r ∷ squares) g × AllIn squares g → IsGroup (p ∷ r ∷ squares) g × AllIn (r ∷ squares) g
  more_group g (k, all) = (record { row = more_row g k.row (inr (in_first g k.row all)); left = left }, all_more r squares g all)
    where
      left : (z : Square) → IsOneOf z (p ∷ r ∷ squares) → z.y ≡ k.row.first.y → z.x + z.s ≡ k.row.first.x → ⊥
      left z (inl e) ey ex =
          no_later k.row.first (in_first g k.row all) (omega (arith, ey, ap (λ (s : Square). s.y) e)) (omega (arith, ex, ap (λ (s : Square). s.x + s.s) e))
      left z (inr h) ey ex = k.left z h ey ex

  more_groups : (gs : List (List Square)) → AllByRecursion (λ g. IsGroup (r ∷ squares) g × AllIn squares g) gs
      → AllByRecursion (λ g. IsGroup (p ∷ r ∷ squares) g × AllIn (r ∷ squares) g) gs
  more_groups [] all = tt
  more_groups (g ∷ gs) all = (more_group g all.0, more_groups gs all.1)

  module _ (s : Split r squares) where
    front_in : IsOneOf s.row.first (r ∷ squares)
    front_in = inl s.first

    -- r stands beside p
    joined : stands_beside p r ≡ true → Split p (r ∷ squares)
    joined e = record {
      group = p ∷ s.group;
      groups = s.groups;
      is = ap (λ (b : Bool). cond b (onto_first p (square_groups (r ∷ squares))) ((p ∷ []) ∷ square_groups (r ∷ squares))) e ∙ ap (onto_first p) s.is;
      row = record {
        first = p;
        rest = s.group;
        is = refl;
        end = s.row.end;
        chain =
            (refl, subst (λ (x : ℕ). Chain x s.group s.row.end) at s.row.chain);
        tops = (refl, same_tops s.group s.row.tops);
        right = right;
      };
      first = refl;
      own = (inl refl, all_more p (r ∷ squares) s.group s.own);
      others = more_groups s.groups s.others;
    }
      where
        level : s.row.first.y ≡ p.y
        level = ap (λ (q : Square). q.y) s.first ∙ sym (beside_to p r e).0

        at : s.row.first.x ≡ p.x + p.s
        at = ap (λ (q : Square). q.x) s.first ∙ sym (beside_to p r e).1

        same_tops : (g : List Square) → AllByRecursion (λ q. q.y ≡ s.row.first.y) g → AllByRecursion (λ q. q.y ≡ p.y) g
        same_tops [] all = tt
        same_tops (q ∷ g) all = (all.0 ∙ level, same_tops g all.1)

        right : (z : Square) → IsOneOf z (p ∷ r ∷ squares) → z.y ≡ p.y → z.x ≡ s.row.end → ⊥
        right z (inl same) ey ex = omega (arith, p_side, at, ex, ap (λ (q : Square). q.x) same, chain_order s.group s.row.first.x s.row.end s.row.chain)
        right z (inr h) ey ex = s.row.right z h (ey ∙ sym level) ex

    -- r does not
    apart_from : stands_beside p r ≡ false → Split p (r ∷ squares)
    apart_from e = record {
      group = p ∷ [];
      groups = s.group ∷ s.groups;
      is = ap (λ (b : Bool). cond b (onto_first p (square_groups (r ∷ squares))) ((p ∷ []) ∷ square_groups (r ∷ squares))) e
          ∙ ap (λ (gs : List (List Square)). (p ∷ []) ∷ gs) s.is;
      row = record { first = p; rest = []; is = refl; end = p.x + p.s; chain = (refl, refl); tops = (refl, tt); right = right };
      first = refl;
      own = (inl refl, tt);
      others = ((record { row = more_row s.group s.row front_in; left = left }, s.own), more_groups s.groups s.others);
    }
      where
        right : (z : Square) → IsOneOf z (p ∷ r ∷ squares) → z.y ≡ p.y → z.x ≡ p.x + p.s → ⊥
        right z (inl same) ey ex = omega (arith, p_side, ex, ap (λ (q : Square). q.x) same)
        right z (inr (inl same)) ey ex =
            both_ways (stands_beside p r) e (beside_from p r (sym ey ∙ ap (λ (q : Square). q.y) same) (sym ex ∙ ap (λ (q : Square). q.x) same))
        right z (inr (inr h)) ey ex = no_later z h (sym ey) (sym ex)

        left : (z : Square) → IsOneOf z (p ∷ r ∷ squares) → z.y ≡ s.row.first.y → z.x + z.s ≡ s.row.first.x → ⊥
        left z (inl same) ey ex = both_ways (stands_beside p r) e
            (beside_from p r (sym (ap (λ (q : Square). q.y) same) ∙ ey ∙ ap (λ (q : Square). q.y) s.first)
            (sym (ap (λ (q : Square). q.x + q.s) same) ∙ ex ∙ ap (λ (q : Square). q.x) s.first))
        left z (inr (inl same)) ey ex = omega (arith, r_side, ex, ap (λ (q : Square). q.x) s.first, ap (λ (q : Square). q.x + q.s) same)
        left z (inr (inr h)) ey ex = by (before_cases r z (second_before z h))
          where
            by : (r.y < z.y) ⊎ ((r.y ≡ z.y) × (r.x < z.x)) → ⊥
            by (inl k) = omega (arith, ey, ap (λ (q : Square). q.y) s.first)
            by (inr k) = omega (arith, ex, k.1, ap (λ (q : Square). q.x) s.first)

tail_apart : (p : Square) (squares : List Square) → Apart (p ∷ squares) → Apart squares
tail_apart p squares a = record { ordered = (a.ordered).1; sides = λ q h. a.sides q (inr h); apart = λ q r h k i j e f. a.apart q r (inr h) (inr k) i j e f }

-- the first group is a row that begins with the first square, and the others are groups among the rest
pub first_group_split : (p : Square) (squares : List Square) → Apart (p ∷ squares) → Split p squares
first_group_split p [] a = record {
  group = p ∷ [];
  groups = [];
  is = refl;
  row = record { first = p; rest = []; is = refl; end = p.x + p.s; chain = (refl, refl); tops = (refl, tt); right = right };
  first = refl;
  own = (inl refl, tt);
  others = tt;
}
  where
    right : (z : Square) → IsOneOf z (p ∷ []) → z.y ≡ p.y → z.x ≡ p.x + p.s → ⊥
    right z (inl same) ey ex = omega (arith, a.sides p (inl refl), ex, ap (λ (q : Square). q.x) same)
    right z (inr h) ey ex = h
first_group_split p (r ∷ squares) a = cases (cases_Bool (stands_beside p r)) (first_group_split r squares (tail_apart p (r ∷ squares) a))
  where
    cases : (stands_beside p r ≡ true) ⊎ (stands_beside p r ≡ false) → Split r squares → Split p (r ∷ squares)
    cases (inl e) s = joined p r squares a s e
    cases (inr e) s = apart_from p r squares a s e

-- groups in a row
abbrev pub row_of : List (List Square) → List Square
row_of groups = flat_map (λ g. g) groups

onto_row : (q : Square) (groups : List (List Square)) → flat_map (λ g. g) (onto_first q groups) ≡ q ∷ flat_map (λ g. g) groups
onto_row q [] = refl
onto_row q (g ∷ groups) = refl

-- the groups in a row are the squares
pub groups_row : (squares : List Square) → flat_map (λ g. g) (square_groups squares) ≡ squares
groups_row [] = refl
groups_row (q ∷ []) = refl
groups_row (q ∷ r ∷ squares) = cases (stands_beside q r) (groups_row (r ∷ squares))
  where
    cases : (b : Bool) → flat_map (λ g. g) (square_groups (r ∷ squares)) ≡ r ∷ squares
        → flat_map (λ g. g) (cond b (onto_first q (square_groups (r ∷ squares))) ((q ∷ []) ∷ square_groups (r ∷ squares))) ≡ q ∷ r ∷ squares
    cases true e = onto_row q (square_groups (r ∷ squares)) ∙ ap (λ (rest : List Square). q ∷ rest) e
    cases false e = ap (λ (rest : List Square). q ∷ rest) e

-- squares side by side on one level are the group of their sides
pub chain_is_group : (squares : List Square) (x level end : ℕ) → Chain x squares end → AllByRecursion (λ q. q.y ≡ level) squares
    → squares ≡ laid_group x level (laid_sides squares)
chain_is_group [] x level end c tops = refl
chain_is_group (q ∷ squares) x level end c tops = λ i. record { x = c.0 i; y = tops.0 i; s = q.s } ∷ chain_is_group squares (x + q.s) level end c.1 tops.1 i
