-- Squares in code order, cut where squares with given corners would stand.
use Rattle.std.specs.List.{AllWithin}
use Rattle.std.proofs.Common.{Bool, List, [], ap, arith, cond, count_by, drop, false, filter, inl, inr, length, refl, slice_index_or, slice_range, suc, sym}
use Rattle.std.proofs.Common.{take, true, zero, ℕ, ◌+◌, ◌-◌, ◌<◌, ◌∙◌, ◌∷◌, ◌≡◌, ◌≤◌, ◌⊎◌}
use Rattle.std.proofs.lemmas.Bool.Decides.{nat_tests}
use Rattle.std.proofs.lemmas.Bool.{both_ways, cases_Bool}
use Rattle.bk_tiling.proofs.Cells.{count-cons, in_all, none_counted}
use Rattle.bk_tiling.proofs.Members.{one_at}
use Rattle.bk_tiling.proofs.OrderLaws.{comes_before-trans}
use Rattle.bk_tiling.specs.CodeOrder.{InCodeOrder, comes_before}
use Rattle.bk_tiling.specs.Tiling.{IsOneOf}
use Rattle.bk_tiling.specs.declared.Square.{Square}
use Rattle.bk_lay.specs.LevelRuns.{begins_under, corner}
use Rattle.bk_lay.specs.declared.outline.LevelRun.{LevelRun}

-- where the first i pass a test and the others fail it, i pass it
pub count_of_front : (p : Square → Bool) (squares : List Square) (i : ℕ) → i ≤ length squares → AllWithin (λ q. p q ≡ true) squares 0 i
    → AllWithin (λ q. p q ≡ false) squares i (length squares) → i ≡ count_by p squares
count_of_front p [] i h a b = omega arith
count_of_front p (q ∷ squares) zero h a b = omega (
  arith,
  count-cons p q squares,
  none (b zero q (omega arith) (omega arith)),
  count_of_front p squares zero (omega arith) (λ k d l m. absurd (omega arith)) (λ k d l m. b (suc k) d (omega arith) (omega arith)),
)
  where
    none : p q ≡ false → ◌≡◌ {A = ℕ} (cond (p q) 1 0) 0
    none e = ap (λ (c : Bool). cond {A = ℕ} c 1 0) e
count_of_front p (q ∷ squares) (suc i) h a b = omega (
  arith,
  count-cons p q squares,
  one (a zero q (omega arith) (omega arith)),
  count_of_front p squares i (omega arith) (λ k d l m. a (suc k) d (omega arith) (omega arith))
      (λ k d l m. b (suc k) d (omega arith) (omega arith)),
)
  where
    one : p q ≡ true → ◌≡◌ {A = ℕ} (cond (p q) 1 0) 1
    one e = ap (λ (c : Bool). cond {A = ℕ} c 1 0) e

-- where one isn't before a corner, no later one is
none_later : (q : Square) (squares : List Square) (c : Square) → InCodeOrder (q ∷ squares) → comes_before q c ≡ false
    → count_by (λ q. comes_before q c) (q ∷ squares) ≡ 0
none_later q squares c o e = none_counted (λ q. comes_before q c) (q ∷ squares) none
  where
    none : (s : Square) → IsOneOf s (q ∷ squares) → comes_before s c ≡ true → ⊥
    none s (inl same) f = both_ways (comes_before s c) (ap (λ (s : Square). comes_before s c) same ∙ e) f
    none s (inr k) f = both_ways (comes_before q c) e (comes_before-trans q s c (in_all (λ s. comes_before q s ≡ true) squares o.0 s k) f)

-- a square that comes before a corner is among those that do, with all before it
pub counted_at : (squares : List Square) (c : Square) (i : ℕ) (d : Square) → InCodeOrder squares → i < length squares
    → comes_before (slice_index_or squares i d) c ≡ true → i + 1 ≤ count_by (λ q. comes_before q c) squares
counted_at [] c i d o h e = absurd (omega arith)
counted_at (q ∷ squares) c zero d o h e = omega (arith, count-cons (λ q. comes_before q c) q squares, one e)
  where
    one : comes_before q c ≡ true → ◌≡◌ {A = ℕ} (cond (comes_before q c) 1 0) 1
    one e = ap (λ (b : Bool). cond {A = ℕ} b 1 0) e
counted_at (q ∷ squares) c (suc i) d o h e =
    omega (arith, count-cons (λ q. comes_before q c) q squares, one ahead, counted_at squares c i d o.1 (omega arith) e)
  where
    one : comes_before q c ≡ true → ◌≡◌ {A = ℕ} (cond (comes_before q c) 1 0) 1
    one e = ap (λ (b : Bool). cond {A = ℕ} b 1 0) e

    ahead : comes_before q c ≡ true
    ahead = comes_before-trans q (slice_index_or squares i d) c
        (in_all (λ s. comes_before q s ≡ true) squares o.0 (slice_index_or squares i d) (one_at squares i d (omega arith))) e

-- where a square doesn't come before a corner, only squares before it do
pub counted_to : (squares : List Square) (c : Square) (i : ℕ) (d : Square) → InCodeOrder squares → i < length squares
    → comes_before (slice_index_or squares i d) c ≡ false → count_by (λ q. comes_before q c) squares ≤ i
counted_to [] c i d o h e = absurd (omega arith)
counted_to (q ∷ squares) c zero d o h e = omega (arith, none_later q squares c o e)
counted_to (q ∷ squares) c (suc i) d o h e =
    omega (arith, count-cons (λ q. comes_before q c) q squares, most (comes_before q c), counted_to squares c i d o.1 (omega arith) e)
  where
    most : (b : Bool) → cond {A = ℕ} b 1 0 ≤ 1
    most true = omega arith
    most false = omega arith

-- a part of a list that begins at its first element or later
range_skip : (q : Square) (squares : List Square) (i j a b : ℕ) → i ≡ suc a → j ≡ suc b → slice_range (q ∷ squares) i j ≡ slice_range squares a b
range_skip q squares i j a b e f = (λ n. take (f n - e n) (drop (e n) (q ∷ squares))) ∙ ap (λ (k : ℕ). take k (drop a squares)) less
  where
    less : suc b - suc a ≡ b - a
    less = omega arith

range_keep : (q : Square) (squares : List Square) (i j b : ℕ) → i ≡ 0 → j ≡ suc b → slice_range (q ∷ squares) i j ≡ q ∷ slice_range squares 0 b
range_keep q squares i j b e f = (λ n. take (f n - e n) (drop (e n) (q ∷ squares))) ∙ ap (λ (k : ℕ). take k (q ∷ squares)) less
    ∙ ap (λ (k : ℕ). q ∷ take k squares) same
  where
    less : suc b - 0 ≡ suc b
    less = omega arith

    same : b ≡ b - 0
    same = omega arith

range_none : (squares : List Square) (i j : ℕ) → i ≡ 0 → j ≡ 0 → slice_range squares i j ≡ []
range_none squares i j e f = ap (λ (k : ℕ). take k (drop i squares)) less
  where
    less : j - i ≡ 0
    less = omega arith

module _ (r : LevelRun) (order : r.x ≤ r.end) where
  hangs_not : (q : Square) → comes_before q (corner r.x r.level) ≡ true → begins_under r q ≡ false
  hangs_not q e = grind (arith, nat_tests)

  ahead_too : (q : Square) → comes_before q (corner r.x r.level) ≡ true → comes_before q (corner r.end r.level) ≡ true
  ahead_too q e = grind (arith, nat_tests)

  hangs_here : (q : Square) → comes_before q (corner r.x r.level) ≡ false → comes_before q (corner r.end r.level) ≡ true → begins_under r q ≡ true
  hangs_here q e f = grind (arith, nat_tests)

  hangs_no_more : (q : Square) → comes_before q (corner r.end r.level) ≡ false → begins_under r q ≡ false
  hangs_no_more q f = grind (arith, nat_tests)

  count_yes : (p : Square → Bool) (q : Square) (squares : List Square) → p q ≡ true → count_by p (q ∷ squares) ≡ suc (count_by p squares)
  count_yes p q squares e = omega (arith, count-cons p q squares, one e)
    where
      one : p q ≡ true → ◌≡◌ {A = ℕ} (cond (p q) 1 0) 1
      one e = ap (λ (c : Bool). cond {A = ℕ} c 1 0) e

  none_under : (squares : List Square) → ((s : Square) → IsOneOf s squares → begins_under r s ≡ false) → filter (begins_under r) squares ≡ []
  none_under [] none = refl
  none_under (s ∷ squares) none =
      ap (λ (b : Bool). cond b (s ∷ filter (begins_under r) squares) (filter (begins_under r) squares)) (none s (inl refl))
      ∙ none_under squares (λ u k. none u (inr k))

  -- the second corner comes no earlier than the first
  pub range_order : (squares : List Square)
      → count_by (λ q. comes_before q (corner r.x r.level)) squares ≤ count_by (λ q. comes_before q (corner r.end r.level)) squares
  range_order [] = omega arith
  range_order (q ∷ squares) = cases (cases_Bool (comes_before q (corner r.x r.level))) (range_order squares)
    where
      cases : (comes_before q (corner r.x r.level) ≡ true) ⊎ (comes_before q (corner r.x r.level) ≡ false)
          → count_by (λ q. comes_before q (corner r.x r.level)) squares ≤ count_by (λ q. comes_before q (corner r.end r.level)) squares
          → count_by (λ q. comes_before q (corner r.x r.level)) (q ∷ squares) ≤ count_by (λ q. comes_before q (corner r.end r.level)) (q ∷ squares)
      cases (inl e) rest = omega (
        arith,
        rest,
        count_yes (λ q. comes_before q (corner r.x r.level)) q squares e,
        count_yes (λ q. comes_before q (corner r.end r.level)) q squares (ahead_too q e),
      )
      cases (inr e) rest = omega (
        arith,
        rest,
        count-cons (λ q. comes_before q (corner r.x r.level)) q squares,
        none e,
        count-cons (λ q. comes_before q (corner r.end r.level)) q squares,
      )
        where
          none : comes_before q (corner r.x r.level) ≡ false → ◌≡◌ {A = ℕ} (cond (comes_before q (corner r.x r.level)) 1 0) 0
          none e = ap (λ (c : Bool). cond {A = ℕ} c 1 0) e

  -- the squares between the two corners are those that begin under the run
  pub range_is_under : (squares : List Square) → InCodeOrder squares
      → slice_range squares (count_by (λ q. comes_before q (corner r.x r.level)) squares)
      (count_by (λ q. comes_before q (corner r.end r.level)) squares) ≡ filter (begins_under r) squares
  range_is_under [] o = refl
  range_is_under (q ∷ squares) o =
      cases (cases_Bool (comes_before q (corner r.x r.level))) (cases_Bool (comes_before q (corner r.end r.level))) (range_is_under squares o.1)
    where
      filter_case : (b : Bool) → begins_under r q ≡ b
          → filter (begins_under r) (q ∷ squares) ≡ cond b (q ∷ filter (begins_under r) squares) (filter (begins_under r) squares)
      filter_case b e = ap (λ (b : Bool). cond b (q ∷ filter (begins_under r) squares) (filter (begins_under r) squares)) e

      cases : (comes_before q (corner r.x r.level) ≡ true) ⊎ (comes_before q (corner r.x r.level) ≡ false)
          → (comes_before q (corner r.end r.level) ≡ true) ⊎ (comes_before q (corner r.end r.level) ≡ false)
          → slice_range squares (count_by (λ q. comes_before q (corner r.x r.level)) squares)
          (count_by (λ q. comes_before q (corner r.end r.level)) squares) ≡ filter (begins_under r) squares
          → slice_range (q ∷ squares) (count_by (λ q. comes_before q (corner r.x r.level)) (q ∷ squares))
          (count_by (λ q. comes_before q (corner r.end r.level)) (q ∷ squares)) ≡ filter (begins_under r) (q ∷ squares)
      cases (inl e) f rest =
          range_skip q squares (count_by (λ q. comes_before q (corner r.x r.level)) (q ∷ squares))
          (count_by (λ q. comes_before q (corner r.end r.level)) (q ∷ squares)) (count_by (λ q. comes_before q (corner r.x r.level)) squares)
          (count_by (λ q. comes_before q (corner r.end r.level)) squares)
          (count_yes (λ q. comes_before q (corner r.x r.level)) q squares e) (count_yes (λ q. comes_before q (corner r.end r.level)) q squares (ahead_too q e))
          ∙ rest ∙ sym (filter_case false (hangs_not q e))
      cases (inr e) (inl f) rest =
          range_keep q squares (count_by (λ q. comes_before q (corner r.x r.level)) (q ∷ squares))
          (count_by (λ q. comes_before q (corner r.end r.level)) (q ∷ squares)) (count_by (λ q. comes_before q (corner r.end r.level)) squares)
          (none_later q squares (corner r.x r.level) o e) (count_yes (λ q. comes_before q (corner r.end r.level)) q squares f)
          ∙ ap (λ (k : ℕ). q ∷ slice_range squares k (count_by (λ q. comes_before q (corner r.end r.level)) squares)) (sym none)
          ∙ ap (λ (l : List Square). q ∷ l) rest ∙ sym (filter_case true (hangs_here q e f))
        where
          none : count_by (λ q. comes_before q (corner r.x r.level)) squares ≡ 0
          none = omega (arith, none_later q squares (corner r.x r.level) o e, count-cons (λ q. comes_before q (corner r.x r.level)) q squares)
      cases (inr e) (inr f) rest =
          range_none (q ∷ squares) (count_by (λ q. comes_before q (corner r.x r.level)) (q ∷ squares))
          (count_by (λ q. comes_before q (corner r.end r.level)) (q ∷ squares))
          (none_later q squares (corner r.x r.level) o e) (none_later q squares (corner r.end r.level) o f) ∙ sym (none_under (q ∷ squares) none)
        where
          none : (s : Square) → IsOneOf s (q ∷ squares) → begins_under r s ≡ false
          none s (inl same) = ap (begins_under r) same ∙ hangs_no_more q f
          none s (inr k) = later (cases_Bool (comes_before s (corner r.end r.level)))
            where
              later : (comes_before s (corner r.end r.level) ≡ true) ⊎ (comes_before s (corner r.end r.level) ≡ false) → begins_under r s ≡ false
              later (inl g) = absurd
                  (both_ways (comes_before q (corner r.end r.level)) f
                  (comes_before-trans q s (corner r.end r.level) (in_all (λ s. comes_before q s ≡ true) squares o.0 s k) g))
              later (inr g) = hangs_no_more s g
