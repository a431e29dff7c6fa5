-- Where the leftmost valley stands among the level runs of the columns.
use Rattle.std.specs.List.{AllByRecursion}
use Rattle.std.proofs.Common.{Bool, List, [], ap, arith, cond, false, inl, inr, length, nat_lt, refl, subst, suc, sym, true, zero, ℕ, ◌++◌, ◌+◌, ◌-◌}
use Rattle.std.proofs.Common.{◌<◌, ◌∙◌, ◌∷◌, ◌≡◌, ◌≤◌, ◌⊎◌}
use Rattle.std.proofs.lemmas.Bool.{false≢true}
use Rattle.std.proofs.lemmas.Bool.Decides.{nat_tests}
use Rattle.bk_tiling.specs.Column.{AreRuns, depth}
use Rattle.bk_tiling.specs.declared.Segment.{Segment}
use Rattle.bk_tiling.specs.declared.Square.{Square}
use Rattle.bk_word.specs.Outline.{valley_place}
use Rattle.bk_word.specs.Play.{parts}
use Rattle.bk_word.specs.declared.Sign.{Sign}
use Rattle.bk_word.specs.declared.Sign.TheVariants.{Above, Even, Under}
use Rattle.bk_lay.proofs.Joining.{levels, sign_case}
use Rattle.bk_lay.proofs.Valleys.{leftmost_by_falling, one_leftmost_valley}
use Rattle.bk_lay.specs.TilingWord.{IsLeftmostValley, depth_before, depth_from, sign_between, signs_between}

-- the last of the runs before the valley
pub record HasLast (laid : List Square) (x : ℕ) (before : List Segment) : Type 0 where
  pub front : List Segment
  pub last : Segment
  pub is : before ≡ front ++ last ∷ []
  pub level : depth_before laid x ≡ last.level ∷ []

-- the first of the runs after it
pub record HasFirst (width : ℕ) (laid : List Square) (x : ℕ) (after : List Segment) : Type 0 where
  pub first : Segment
  pub back : List Segment
  pub is : after ≡ first ∷ back
  pub level : depth_from width laid x ≡ first.level ∷ []

-- the valley among the runs from column x on
pub record Placed (width : ℕ) (laid : List Square) (x : ℕ) (runs : List Segment) : Type 0 where
  pub before : List Segment
  pub valley : Segment
  pub after : List Segment
  pub is : runs ≡ before ++ valley ∷ after
  pub leftmost : IsLeftmostValley width laid valley
  pub number : valley_place (signs_between (levels runs)) ≡ length before
  pub left : ((before ≡ []) × (valley.x ≡ x)) ⊎ HasLast laid valley.x before
  pub right : ((after ≡ []) × (valley.x + valley.width ≡ width)) ⊎ HasFirst width laid (valley.x + valley.width) after

no_even : (m n : ℕ) → sign_between m n ≡ Even → parts (sign_between m n) ≡ true → ⊥
no_even m n e p = false≢true (sym (ap parts e) ∙ p)

-- the depth before a column that isn't the first is that of the column at its left
pub depth_before_at : (laid : List Square) (x c : ℕ) → suc c ≡ x → depth_before laid x ≡ depth laid c ∷ []
depth_before_at laid zero c e = absurd (omega arith)
depth_before_at laid (suc d) c e = ap (λ (k : ℕ). depth laid k ∷ []) same
  where
    same : d ≡ c
    same = omega arith

-- the depth from a column within the width on is that column's own
pub depth_from_at : (width : ℕ) (laid : List Square) (x : ℕ) → x < width → depth_from width laid x ≡ depth laid x ∷ []
depth_from_at width laid x h = ap (λ (b : Bool). cond b (depth laid x ∷ []) []) test
  where
    test : nat_lt x width ≡ true
    test = grind (arith, nat_tests)

-- past the last column there is no depth
pub depth_from_end : (width : ℕ) (laid : List Square) (c : ℕ) → c ≡ width → depth_from width laid c ≡ []
depth_from_end width laid c e = ap (λ (b : Bool). cond b (depth laid c ∷ []) []) test
  where
    test : nat_lt c width ≡ false
    test = grind (arith, nat_tests)

module _ (width : ℕ) (laid : List Square) where
  place : (v : Segment) (runs : List Segment) (x : ℕ) → AreRuns width laid x (v ∷ runs)
      → AllByRecursion (λ sign. parts sign ≡ true) (signs_between (levels (v ∷ runs)))
      → ((c : ℕ) → suc c ≡ x → v.level < depth laid c) → ((c : ℕ) → suc c ≤ x → depth laid (suc c) ≤ depth laid c) → Placed width laid x (v ∷ runs)
  place v [] x cut parted wall falls = record {
    before = [];
    valley = v;
    after = [];
    is = refl;
    leftmost = leftmost_by_falling width laid v (record {
      flat = cut.1;
      left = λ c e. wall c (e ∙ cut.0);
      right = λ h. absurd (omega (arith, cut.0, cut.2));
    }) (λ c h. falls c (omega (arith, cut.0)));
    number = refl;
    left = inl (refl, cut.0);
    right = inl (refl, omega (arith, cut.0, cut.2));
  }
  place v (u ∷ runs) x cut parted wall falls = cases (sign_case v.level u.level) (place u runs (x + v.width) cut.2 parted.1)
    where
      u_level : depth laid (v.x + v.width) ≡ u.level
      u_level = let some = ((cut.2).1).some in ((cut.2).1).level (v.x + v.width) (omega (arith, cut.0, (cut.2).0)) (omega (arith, cut.0, (cut.2).0))

      cases : ((v.level < u.level) × (sign_between v.level u.level ≡ Above)) ⊎ ((v.level ≡ u.level) × (sign_between v.level u.level ≡ Even))
          ⊎ ((u.level < v.level) × (sign_between v.level u.level ≡ Under))
          → (((c : ℕ) → suc c ≡ x + v.width → u.level < depth laid c) → ((c : ℕ) → suc c ≤ x + v.width → depth laid (suc c) ≤ depth laid c)
          → Placed width laid (x + v.width) (u ∷ runs)) → Placed width laid x (v ∷ u ∷ runs)
      cases (inl h) rest = record {
        before = [];
        valley = v;
        after = u ∷ runs;
        is = refl;
        leftmost = leftmost_by_falling width laid v (record {
          flat = cut.1;
          left = λ c e. wall c (e ∙ cut.0);
          right = λ k. omega (arith, u_level, h.0);
        }) (λ c k. falls c (omega (arith, cut.0)));
        number = ap (λ (sign : Sign). valley_place (sign ∷ signs_between (levels (u ∷ runs)))) h.1;
        left = inl (refl, cut.0);
        right = inr (record {
          first = u;
          back = runs;
          is = refl;
          level = depth_from_at width laid (v.x + v.width) (let a = ((cut.2).1).some in
              let b = ((cut.2).1).within in omega (arith, cut.0, (cut.2).0)) ∙ ap (λ (k : ℕ). k ∷ []) u_level;
        });
      }
      cases (inr (inl h)) rest = absurd (no_even v.level u.level h.1 parted.0)
      cases (inr (inr h)) rest = further (rest u_wall u_falls)
        where
          run_level : (c : ℕ) → x ≤ c → c < x + v.width → depth laid c ≡ v.level
          run_level c lo hi = (cut.1).level c (omega (arith, cut.0)) (omega (arith, cut.0))

          u_wall : (c : ℕ) → suc c ≡ x + v.width → u.level < depth laid c
          u_wall c e = let some = (cut.1).some in omega (arith, run_level c (omega arith) (omega arith), h.0)

          three : (c : ℕ) → suc c ≤ x + v.width → (suc c ≤ x) ⊎ ((x ≤ c) × (suc c < x + v.width)) ⊎ ((x ≤ c) × (suc c ≡ v.x + v.width))
          three c k = let e = cut.0 in grind arith

          u_falls : (c : ℕ) → suc c ≤ x + v.width → depth laid (suc c) ≤ depth laid c
          u_falls c k = falling (three c k)
            where
              falling : (suc c ≤ x) ⊎ ((x ≤ c) × (suc c < x + v.width)) ⊎ ((x ≤ c) × (suc c ≡ v.x + v.width)) → depth laid (suc c) ≤ depth laid c
              falling (inl a) = falls c a
              falling (inr (inl b)) = omega (arith, run_level c b.0 (omega (arith, b.1)), run_level (suc c) (omega (arith, b.0)) b.1)
              falling (inr (inr b)) = let here : depth laid (suc c) ≡ u.level = ap (depth laid) b.1 ∙ u_level in
                  omega (arith, run_level c b.0 (omega (arith, b.1, cut.0)), h.0)

          further : Placed width laid (x + v.width) (u ∷ runs) → Placed width laid x (v ∷ u ∷ runs)
          further p = record {
            before = v ∷ p.before;
            valley = p.valley;
            after = p.after;
            is = ap (λ runs. v ∷ runs) p.is;
            leftmost = p.leftmost;
            number = ap (λ (sign : Sign). valley_place (sign ∷ signs_between (levels (u ∷ runs)))) h.1 ∙ ap suc p.number;
            left = inr (lasts p.left);
            right = p.right;
          }
            where
              lasts : ((p.before ≡ []) × ((p.valley).x ≡ x + v.width)) ⊎ HasLast laid (p.valley).x p.before → HasLast laid (p.valley).x (v ∷ p.before)
              lasts (inl (none, at)) = record {
                front = [];
                last = v;
                is = ap (λ runs. v ∷ runs) none;
                level = let some = (cut.1).some in depth_before_at laid (p.valley).x (x + v.width - 1) (omega arith)
                    ∙ ap (λ (k : ℕ). k ∷ []) (run_level (x + v.width - 1) (omega arith) (omega arith));
              }
              lasts (inr l) = record { front = v ∷ l.front; last = l.last; is = ap (λ runs. v ∷ runs) l.is; level = l.level }

  -- the runs of all columns, of which neighbours differ in level, have the leftmost valley at the place that their signs tell
  pub placed : (runs : List Segment) → 0 < width → AreRuns width laid 0 runs
      → AllByRecursion (λ sign. parts sign ≡ true) (signs_between (levels runs)) → Placed width laid 0 runs
  placed [] wide cut parted = absurd (omega (arith, cut))
  placed (v ∷ runs) wide cut parted = place v runs 0 cut parted (λ c e. absurd (omega arith)) (λ c e. absurd (omega arith))

-- where a segment stands among the runs that is their leftmost valley
pub record Stands (width : ℕ) (laid : List Square) (runs : List Segment) (v : Segment) : Type 0 where
  pub before : List Segment
  pub after : List Segment
  pub is : runs ≡ before ++ v ∷ after
  pub number : valley_place (signs_between (levels runs)) ≡ length before
  pub left : ((before ≡ []) × (v.x ≡ 0)) ⊎ HasLast laid v.x before
  pub right : ((after ≡ []) × (v.x + v.width ≡ width)) ⊎ HasFirst width laid (v.x + v.width) after

-- where the leftmost valley of what is laid is given, it stands among the runs as theirs
pub stands : (width : ℕ) (laid : List Square) (runs : List Segment) (v : Segment) → Placed width laid 0 runs → IsLeftmostValley width laid v
    → Stands width laid runs v
stands width laid runs v p found = record {
  before = p.before;
  after = p.after;
  is = p.is ∙ ap (λ (w : Segment). p.before ++ w ∷ p.after) same;
  number = p.number;
  left = subst (λ (w : Segment). ((p.before ≡ []) × (w.x ≡ 0)) ⊎ HasLast laid w.x p.before) same p.left;
  right = subst (λ (w : Segment). ((p.after ≡ []) × (w.x + w.width ≡ width)) ⊎ HasFirst width laid (w.x + w.width) p.after) same p.right;
}
  where
    same : p.valley ≡ v
    same = one_leftmost_valley width laid p.valley v p.leftmost found
