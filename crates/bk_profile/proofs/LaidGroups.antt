-- What is laid group by group stands in the order of a code, fills its columns, and has the groups as its code.
use Rattle.std.specs.List.{AllByRecursion}
use Rattle.std.proofs.Common.{Bool, List, [], ap, arith, false, inl, inr, length, refl, subst, sym, true, ℕ, ◌++◌, ◌+◌, ◌<◌, ◌∙◌, ◌∷◌, ◌≡◌, ◌≤◌, ◌⊎◌}
use Rattle.std.proofs.lemmas.Bool.{cases_Bool, cases_lt}
use Rattle.std.proofs.lemmas.List.{append-nil, append_assoc}
use Rattle.bk_laws.proofs.Totals.{sum_is_total, total}
use Rattle.bk_tiling.proofs.Cells.{all_from, column_from, depth-append, depth_reaches, from_append, in_all}
use Rattle.bk_tiling.proofs.Group.{HasOver, group_sides, group_top, group_within, over_group}
use Rattle.bk_tiling.proofs.FilledGroup.{depth_under, filled_group}
use Rattle.bk_tiling.proofs.Groups.{beside_from, beside_to}
use Rattle.bk_tiling.proofs.PuttingInOrder.{group_ordered}
use Rattle.bk_tiling.proofs.Scaling.{before_from}
use Rattle.bk_tiling.specs.CodeOrder.{InCodeOrder, comes_before, stands_beside}
use Rattle.bk_tiling.specs.Column.{IsFilled, depth}
use Rattle.bk_tiling.specs.SquareGroups.{laid_group}
use Rattle.bk_tiling.specs.Tiling.{IsOneOf, IsTiling, IsWithin}
use Rattle.bk_tiling.specs.declared.Segment.{Segment}
use Rattle.bk_tiling.specs.declared.Square.{Square}
use Rattle.bk_code.proofs.GroupSteps.{groups_cons, side_groups, side_groups-some, with_side_before}
use Rattle.bk_code.specs.Code.{Code}
use Rattle.bk_profile.proofs.Storing.{depth_in_filled_gap}
use Rattle.bk_profile.specs.Gap.{FitsGap, IsGap, LaysTo, laid_with_group}

-- the square is the last of these
abbrev pub IsLast : List Square → Square → Type 0
IsLast [] q = ⊥
IsLast (r ∷ []) q = q ≡ r
IsLast (p ∷ r ∷ squares) q = IsLast (r ∷ squares) q

last_of_group : (x y : ℕ) (sides : List ℕ) (q : Square) → IsLast (laid_group x y sides) q → (q.x + q.s ≡ x + total sides) × (q.y ≡ y)
last_of_group x y [] q h = absurd h
last_of_group x y (s ∷ []) q h = (omega (arith, ap (λ (r : Square). r.x + r.s) h), ap (λ (r : Square). r.y) h)
last_of_group x y (s ∷ t ∷ sides) q h = let rest : (q.x + q.s ≡ x + s + total (t ∷ sides)) × (q.y ≡ y) =
    last_of_group (x + s) y (t ∷ sides) q h in (omega (arith, rest.0), rest.1)

last_behind : (front back : List Square) (q : Square) → 0 < length back → IsLast (front ++ back) q → IsLast back q
last_behind [] back q some h = h
last_behind (p ∷ []) [] q some h = absurd (omega arith)
last_behind (p ∷ []) (r ∷ back) q some h = h
last_behind (p ∷ r ∷ front) back q some h = last_behind (r ∷ front) back q some h

-- a group by itself
group_alone : (x y : ℕ) (sides : List ℕ) → 0 < length sides → side_groups (laid_group x y sides) ≡ sides ∷ []
group_alone x y [] some = absurd (omega arith)
group_alone x y (s ∷ []) some = refl
group_alone x y (s ∷ t ∷ sides) some =
    groups_cons (record { x = x; y = y; s = s }) (record { x = x + s; y = y; s = t }) (laid_group (x + s + t) y sides)
    ∙ ap (λ (b : Bool). with_side_before b s (side_groups (laid_group (x + s) y (t ∷ sides))))
    (beside_from (record { x = x; y = y; s = s }) (record { x = x + s; y = y; s = t }) refl refl)
    ∙ ap (with_side_before true s) (group_alone (x + s) y (t ∷ sides) (omega arith))

before_more : (b : Bool) (s : ℕ) (code : Code) (group : List ℕ) → 0 < length code
    → with_side_before b s (code ++ group ∷ []) ≡ with_side_before b s code ++ group ∷ []
before_more b s [] group some = absurd (omega arith)
before_more true s (first ∷ code) group some = refl
before_more false s (first ∷ code) group some = refl

-- behind a cut the groups are those of the squares before it and the new one
groups_append : (laid : List Square) (x y : ℕ) (sides : List ℕ) → 0 < length sides → ((q : Square) → IsLast laid q → q.y ≡ y → q.x + q.s ≡ x → ⊥)
    → side_groups (laid ++ laid_group x y sides) ≡ side_groups laid ++ sides ∷ []
groups_append [] x y sides some cut = group_alone x y sides some
groups_append (q ∷ []) x y [] some cut = absurd (omega arith)
groups_append (q ∷ []) x y (s ∷ sides) some cut =
    groups_cons q (record { x = x; y = y; s = s }) (laid_group (x + s) y sides)
    ∙ ap (λ (b : Bool). with_side_before b q.s (side_groups (laid_group x y (s ∷ sides))))
    (apart (cases_Bool (stands_beside q (record { x = x; y = y; s = s }))))
    ∙ ap (with_side_before false q.s) (group_alone x y (s ∷ sides) (omega arith))
  where
    apart : (stands_beside q (record { x = x; y = y; s = s }) ≡ true) ⊎ (stands_beside q (record { x = x; y = y; s = s }) ≡ false)
        → stands_beside q (record { x = x; y = y; s = s }) ≡ false
    apart (inl e) = let both = beside_to q (record { x = x; y = y; s = s }) e in absurd (cut q refl both.0 both.1)
    apart (inr e) = e
groups_append (p ∷ r ∷ laid) x y sides some cut =
    groups_cons p r (laid ++ laid_group x y sides)
    ∙ ap (with_side_before (stands_beside p r) p.s) (groups_append (r ∷ laid) x y sides some cut)
    ∙ before_more (stands_beside p r) p.s (side_groups (r ∷ laid)) sides (side_groups-some r laid)
    ∙ ap (λ (code : Code). code ++ sides ∷ []) (sym (groups_cons p r laid))

order_append : (front back : List Square) → InCodeOrder front → InCodeOrder back
    → ((p q : Square) → IsOneOf p front → IsOneOf q back → comes_before p q ≡ true) → InCodeOrder (front ++ back)
order_append [] back a b cross = b
order_append (p ∷ front) back a b cross = (
  all_from (λ q. comes_before p q ≡ true) (front ++ back) (λ q h. first q (from_append front back q h)),
  order_append front back a.1 b (λ r q h k. cross r q (inr h) k),
)
  where
    first : (q : Square) → IsOneOf q front ⊎ IsOneOf q back → comes_before p q ≡ true
    first q (inl h) = in_all (λ q. comes_before p q ≡ true) front a.0 q h
    first q (inr h) = cross p q (inl refl) h

-- how a laid square stands: no column is higher than its top, and none up to its right edge ends there
pub record Stands (w : ℕ) (all : List Square) (q : Square) : Type 0 where
  pub side : 0 < q.s
  pub right : q.x + q.s ≤ w
  pub least : (c : ℕ) → c < w → q.y ≤ depth all c
  pub before_it : (c : ℕ) → c < q.x + q.s → q.y < depth all c

-- squares that were laid group by group
pub record IsLaid (w : ℕ) (laid : List Square) (code : Code) : Type 0 where
  pub filled : IsFilled w laid
  pub stands : (q : Square) → IsOneOf q laid → Stands w laid q
  pub ordered : InCodeOrder laid
  pub groups : side_groups laid ≡ code
  pub closed : (q : Square) → IsLast laid q → q.x + q.s < w → q.y < depth laid (q.x + q.s)

-- nothing is laid, and no group
pub laid_none : (w : ℕ) → IsLaid w [] []
laid_none w = record { filled = λ c j a b. absurd (omega arith); stands = λ q h. absurd h; ordered = tt; groups = refl; closed = λ q h. absurd h }

-- a group is laid into the gap that it fits
module _ (w : ℕ) (laid : List Square) (code : Code) (gap : Segment) (group : List ℕ) (is_laid : IsLaid w laid code) (is : IsGap w laid gap)
    (fits : FitsGap gap group)
    (good : AllByRecursion (λ s. 0 < s) group) (some : 0 < length group) where
  abbrev more : List Square
  more = laid_group gap.x gap.level group

  wide : total group ≡ gap.width
  wide = sym (sum_is_total group) ∙ fits

  within : gap.x + gap.width ≤ w
  within = (is.flat).within

  first_in : gap.x < w
  first_in = omega (arith, (is.flat).some, within)

  at_gap : depth laid gap.x ≡ gap.level
  at_gap = (is.flat).level gap.x (omega arith) (omega (arith, (is.flat).some))

  old_stands : (q : Square) → IsOneOf q laid → Stands w (laid ++ more) q
  old_stands q h = let s = is_laid.stands q h in record {
    side = s.side;
    right = s.right;
    least = λ c a. omega (arith, s.least c a, depth-append laid more c);
    before_it = λ c a. omega (arith, s.before_it c a, depth-append laid more c);
  }

  under : (c : ℕ) → gap.x ≤ c → c < gap.x + total group → gap.level < depth (laid ++ more) c
  under c a b = let o : HasOver gap.level c more = over_group gap.x gap.level group c a b in
      omega (
        arith,
        depth_under laid gap.x gap.level group (depth_in_filled_gap w laid gap group is fits) c o.square o.is o.left o.right,
        o.top,
        group_sides gap.x gap.level group good o.square o.is,
      )

  new_stands : (q : Square) → IsOneOf q more → Stands w (laid ++ more) q
  new_stands q h = record {
    side = group_sides gap.x gap.level group good q h;
    right = omega (arith, (group_within gap.x gap.level group q h).1, wide, within);
    least = λ c a. omega (arith, is.least c a, depth-append laid more c, top);
    before_it = λ c a. cases c a (cases_lt c gap.x);
  }
    where
      top : q.y ≡ gap.level
      top = group_top gap.x gap.level group q h

      cases : (c : ℕ) → c < q.x + q.s → (c < gap.x) ⊎ (gap.x ≤ c) → q.y < depth (laid ++ more) c
      cases c a (inl k) = omega (arith, is.leftmost c k, depth-append laid more c, top)
      cases c a (inr k) = omega (arith, under c k (omega (arith, a, (group_within gap.x gap.level group q h).1)), top)

  old_first : (p q : Square) → IsOneOf p laid → IsOneOf q more → comes_before p q ≡ true
  old_first p q h k = before_from p q (cases (cases_lt p.y gap.level) (cases_lt gap.x (p.x + p.s)))
    where
      top : q.y ≡ gap.level
      top = group_top gap.x gap.level group q k

      cases : (p.y < gap.level) ⊎ (gap.level ≤ p.y) → (gap.x < p.x + p.s) ⊎ (p.x + p.s ≤ gap.x) → (p.y < q.y) ⊎ ((p.y ≡ q.y) × (p.x < q.x))
      cases (inl a) b = inl (omega (arith, a, top))
      cases (inr a) (inl b) = absurd (omega (arith, a, (is_laid.stands p h).before_it gap.x b, at_gap))
      cases (inr a) (inr b) = inr (
        omega (arith, a, top, (is_laid.stands p h).least gap.x first_in, at_gap),
        omega (arith, b, (is_laid.stands p h).side, (group_within gap.x gap.level group q k).0),
      )

  cut : (q : Square) → IsLast laid q → q.y ≡ gap.level → q.x + q.s ≡ gap.x → ⊥
  cut q h level at = omega (arith, is_laid.closed q h (omega (arith, at, first_in)), ap (depth laid) at, at_gap, level)

  closed : (q : Square) → IsLast (laid ++ more) q → q.x + q.s < w → q.y < depth (laid ++ more) (q.x + q.s)
  closed q h a =
      let last : (q.x + q.s ≡ gap.x + total group) × (q.y ≡ gap.level) = last_of_group gap.x gap.level group q (last_behind laid more q long h) in
      let at : gap.x + gap.width ≡ q.x + q.s = omega (arith, last.0, wide) in
      omega (arith, last.1, is.ends (omega (arith, at, a)), ap (depth laid) at, depth-append laid more (q.x + q.s))
    where
      go : (x : ℕ) (sides : List ℕ) → length (laid_group x gap.level sides) ≡ length sides
      go x [] = refl
      go x (s ∷ sides) = omega (arith, go (x + s) sides)

      long : 0 < length more
      long = omega (arith, go gap.x group, some)

  -- with a further group laid into its gap, what is laid is that of the groups with it
  laid_step : IsLaid w (laid_with_group laid gap group) (code ++ group ∷ [])
  laid_step = record {
    filled = filled_group laid gap.x gap.level group (depth_in_filled_gap w laid gap group is fits) w is_laid.filled;
    stands = λ q h. stands q (from_append laid more q h);
    ordered = order_append laid more is_laid.ordered (group_ordered gap.x gap.level group good) old_first;
    groups = groups_append laid gap.x gap.level group some cut ∙ ap (λ (c : Code). c ++ group ∷ []) is_laid.groups;
    closed = closed;
  }
    where
      stands : (q : Square) → IsOneOf q laid ⊎ IsOneOf q more → Stands w (laid ++ more) q
      stands q (inl h) = old_stands q h
      stands q (inr h) = new_stands q h

-- groups of positive sides, none empty
abbrev pub AreGroups : Code → Type 0
AreGroups code = AllByRecursion (λ group. (0 < length group) × AllByRecursion (λ s. 0 < s) group) code

-- groups that fit one after another are the groups of what is laid
pub laid_groups : (w : ℕ) (laid : List Square) (done code : Code) (end : List Square) → IsLaid w laid done → AreGroups code → LaysTo w laid code end
    → IsLaid w end (done ++ code)
laid_groups w laid done [] end is_laid good lays =
    subst (λ (l : List Square). IsLaid w l (done ++ [])) lays (subst (IsLaid w laid) (sym (append-nil done)) is_laid)
laid_groups w laid done (group ∷ code) end is_laid good (gap, is, fits, lays) =
    subst (IsLaid w end) (append_assoc done (group ∷ []) code)
    (laid_groups w (laid_with_group laid gap group) (done ++ group ∷ []) code end
    (laid_step w laid done gap group is_laid is fits good.0.1 good.0.0) good.1 lays)

-- what is laid tiles where its outline is even
pub tiling_from_laid : (w h : ℕ) (laid : List Square) (code : Code) → IsLaid w laid code → 0 < length laid → ((c : ℕ) → c < w → depth laid c ≡ h)
    → IsTiling (record { width = w; height = h; squares = laid })
tiling_from_laid w h laid code is_laid some even = record {
  tiles = record {
    some = some;
    sides = all_from (λ q. 0 < q.s) laid (λ q k. (is_laid.stands q k).side);
    within = all_from (IsWithin (record { x = 0; y = 0; width = w; height = h })) laid inside;
    once = λ i j a b c d. is_laid.filled i j (omega (arith, b)) (omega (arith, d, even i (omega (arith, b))));
  };
  ordered = is_laid.ordered;
}
  where
    inside : (q : Square) → IsOneOf q laid → IsWithin (record { x = 0; y = 0; width = w; height = h }) q
    inside q k = let s = is_laid.stands q k in record {
      left = omega arith;
      right = omega (arith, s.right);
      top = omega arith;
      bottom = omega (arith, depth_reaches laid q.x q k (column_from q.x q (omega arith) (omega (arith, s.side))), even q.x (omega (arith, s.side, s.right)));
    }
