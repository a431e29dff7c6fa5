-- One move that the code lays: the squares that are found are those under the leftmost valley, their move is that of the word,
-- and the runs beside the valley meet the runs under them.
use Rattle.std.proofs.Common.{Bool, List, [], ap, arith, cond, false, filter, inl, inr, length, nat_lt, refl, subst, sym, true, ℕ, ◌++◌, ◌+◌, ◌-◌}
use Rattle.std.proofs.Common.{◌<◌, ◌∙◌, ◌∷◌, ◌≡◌, ◌≤◌, ◌⊎◌}
use Rattle.std.proofs.lemmas.Bool.Decides.{nat_tests}
use Rattle.std.proofs.lemmas.Bool.{cases_Bool}
use Rattle.std.proofs.lemmas.List.{append-nil, append_assoc, length-append}
use Rattle.bk_tiling.proofs.Cells.{covers_from, filter_same}
use Rattle.bk_tiling.proofs.Rows.{Chain}
use Rattle.bk_tiling.proofs.TilingLaws.{side_of}
use Rattle.bk_tiling.specs.Column.{depth}
use Rattle.bk_tiling.specs.Tiling.{IsOneOf, IsTiling, Tiling}
use Rattle.bk_tiling.specs.declared.Square.{Square}
use Rattle.bk_lay.proofs.UnderValley.{hangs, under_from}
use Rattle.bk_lay.proofs.Filling.{in_tiling}
use Rattle.bk_lay.proofs.ValleySquares.{new_depth, same_depth, under_chain}
use Rattle.bk_lay.proofs.MeetingRuns.{falls_at_end, last_of, leftmost_in_outline, right_at_end, right_more, segment_of}
use Rattle.bk_lay.proofs.Places.{depth_before_at, depth_from_at}
use Rattle.bk_lay.specs.Depiction.{FillsFromTop}
use Rattle.bk_lay.specs.LevelRuns.{FallingRuns, IsFallingRun, IsOutline, IsRun, Meet, RunsFromRight, begins_under, bottoms_of, last_level, run_under}
use Rattle.bk_lay.specs.LevelRuns.{runs_under}
use Rattle.bk_lay.specs.TilingWord.{IsLeftmostValley, bottoms, depth_before, depth_from, hangs_under, squares_under}
use Rattle.bk_lay.specs.declared.outline.Outline.{Outline}
use Rattle.bk_lay.specs.declared.outline.LevelRun.{LevelRun}

last_level_is : (front : List LevelRun) (r : LevelRun) → last_level (front ++ r ∷ []) ≡ r.level ∷ []
last_level_is [] r = refl
last_level_is (s ∷ []) r = refl
last_level_is (s ∷ u ∷ front) r = last_level_is (u ∷ front) r

-- there is at most one last level
pub few_levels : (runs : List LevelRun) → length (last_level runs) ≤ 1
few_levels [] = omega arith
few_levels (r ∷ []) = omega arith
few_levels (r ∷ s ∷ runs) = few_levels (s ∷ runs)

-- runs whose columns keep their depths stay
module _ (laid more : List Square) where
  run_stays : (r : LevelRun) → ((c : ℕ) → r.x ≤ c → c < r.end → depth more c ≡ depth laid c) → IsRun laid r → IsRun more r
  run_stays r same is = record { some = is.some; level = λ c lo hi. same c lo hi ∙ is.level c lo hi }

  falls_stay : (x : ℕ) (runs : List LevelRun) (end : ℕ) → ((c : ℕ) → c < end → depth more c ≡ depth laid c) → FallingRuns laid x runs end
      → FallingRuns more x runs end
  falls_stay x [] end same f = f
  falls_stay x (r ∷ runs) end same f = (
    f.0,
    record {
      run = run_stays r (λ c lo hi. same c (omega (arith, order runs r.end f.2))) (f.1).run;
      wall = λ c e. let some =
          ((f.1).run).some in omega (arith, same c (omega (arith, order runs r.end f.2)), (f.1).wall c e);
    },
    falls_stay r.end runs end same f.2,
  )
    where
      order : (runs : List LevelRun) (x : ℕ) → FallingRuns laid x runs end → x ≤ end
      order [] x f = omega (arith, f)
      order (s ∷ runs) x f = let some = ((f.1).run).some in omega (arith, f.0, order runs s.end f.2)

  right_stays : (x : ℕ) (runs : List LevelRun) (end : ℕ) → ((c : ℕ) → x ≤ c → depth more c ≡ depth laid c) → RunsFromRight laid x runs end
      → RunsFromRight more x runs end
  right_stays x [] end same f = f
  right_stays x (r ∷ runs) end same f = (f.0, run_stays r (λ c lo hi. same c (omega (arith, order runs r.x f.2))) f.1, right_stays x runs r.x same f.2)
    where
      order : (runs : List LevelRun) (end : ℕ) → RunsFromRight laid x runs end → x ≤ end
      order [] end f = omega (arith, f)
      order (s ∷ runs) end f = let some = (f.1).some in omega (arith, f.0, order runs s.x f.2)

-- runs under squares that stand side by side go on from runs further right
under_meets : (laid : List Square) (squares : List Square) (x end : ℕ) (right : List LevelRun) (width : ℕ) → Chain x squares end
    → ((q : Square) → IsOneOf q squares → IsRun laid (run_under q)) → RunsFromRight laid end right width
    → RunsFromRight laid x (right ++ runs_under squares) width
under_meets laid [] x end right width c is f = let one : RunsFromRight laid x right width =
    subst (λ (y : ℕ). RunsFromRight laid y right width) (sym c) f in
    subst (λ (l : List LevelRun). RunsFromRight laid x l width) (sym (append-nil right)) one
under_meets laid (q ∷ squares) x end right width c is f = subst (λ (y : ℕ). RunsFromRight laid y (right ++ runs_under (q ∷ squares)) width) c.0
    (subst (λ (l : List LevelRun). RunsFromRight laid q.x l width) (append_assoc right (runs_under squares) (run_under q ∷ []))
    (right_more laid (right ++ runs_under squares) (run_under q) width
    (subst (λ (y : ℕ). RunsFromRight laid y (right ++ runs_under squares) width) (omega (arith, c.0))
    (under_meets laid squares (x + q.s) end right width c.1 (λ p k. is p (inr k)) f))
    (is q (inl refl))))

-- there is a run under each square
pub a_run_under_each_square : (squares : List Square) → length (runs_under squares) ≡ length squares
a_run_under_each_square [] = refl
a_run_under_each_square (q ∷ squares) = omega (arith, length-append (runs_under squares) (run_under q ∷ []), a_run_under_each_square squares)

module _ (t : Tiling) (laid : List Square) (o : Outline) (tiling : IsTiling t) (fills : FillsFromTop t laid) (is : IsOutline t.width laid o)
    (low : o.valley.level < t.height) where
  -- the valley of the outline is the leftmost valley of what is laid
  pub valley_is_leftmost : IsLeftmostValley t.width laid (segment_of o.valley)
  valley_is_leftmost = leftmost_in_outline t.width laid o is

  some_columns : o.valley.x < o.valley.end
  some_columns = (((is.runs).run).run).some

  -- the squares that begin under the valley are those that hang under it
  pub same_squares : filter (begins_under o.valley) t.squares ≡ squares_under t (segment_of o.valley)
  same_squares = filter_same (begins_under o.valley) (hangs_under (segment_of o.valley)) t.squares
      (λ q h. same q h (cases_Bool (begins_under o.valley q)) (cases_Bool (hangs_under (segment_of o.valley) q)))
    where
      level_of : (q : Square) → begins_under o.valley q ≡ true → q.y ≡ o.valley.level
      level_of q e = grind (arith, nat_tests)

      after : (q : Square) → begins_under o.valley q ≡ true → o.valley.x ≤ q.x
      after q e = grind (arith, nat_tests)

      before : (q : Square) → begins_under o.valley q ≡ true → q.x < o.valley.end
      before q e = grind (arith, nat_tests)

      begins : (q : Square) → q.y ≡ o.valley.level → o.valley.x ≤ q.x → q.x < o.valley.end → begins_under o.valley q ≡ true
      begins q a b c = grind (arith, nat_tests)

      hangs_too : (q : Square) → IsOneOf q t.squares → begins_under o.valley q ≡ true → hangs_under (segment_of o.valley) q ≡ true
      hangs_too q h e = hangs t laid (segment_of o.valley) tiling fills valley_is_leftmost low q.x q (after q e) (omega (arith, before q e)) h
          (covers_from q.x o.valley.level q (omega arith) (omega (arith, side_of t tiling q h)) (omega (arith, level_of q e))
          (omega (arith, level_of q e, side_of t tiling q h)))

      begins_too : (q : Square) → IsOneOf q t.squares → hangs_under (segment_of o.valley) q ≡ true → begins_under o.valley q ≡ true
      begins_too q h e = let u = under_from (segment_of o.valley) q e in let a = u.level in let b = u.left in let d = u.right in
          begins q a b (omega (arith, side_of t tiling q h))

      same : (q : Square) → IsOneOf q t.squares → (begins_under o.valley q ≡ true) ⊎ (begins_under o.valley q ≡ false)
          → (hangs_under (segment_of o.valley) q ≡ true) ⊎ (hangs_under (segment_of o.valley) q ≡ false)
          → begins_under o.valley q ≡ hangs_under (segment_of o.valley) q
      same q h (inl e) f = e ∙ sym (hangs_too q h e)
      same q h (inr e) (inl f) = begins_too q h f ∙ sym f
      same q h (inr e) (inr f) = e ∙ sym f

  ends : o.valley.x + (o.valley.end - o.valley.x) ≡ o.valley.end
  ends = omega arith

  -- the runs beside the valley meet the runs under its squares
  pub runs_meet : Meet t.width (laid ++ squares_under t (segment_of o.valley)) o.left.items
      (o.right.items ++ runs_under (squares_under t (segment_of o.valley)))
  runs_meet = record {
    column = o.valley.x;
    falls = falls_stay laid (laid ++ squares_under t (segment_of o.valley)) 0 o.left.items o.valley.x
        (λ c h. same_depth t laid (segment_of o.valley) tiling fills valley_is_leftmost low c (inl h)) (is.runs).falls;
    rest = under_meets (laid ++ squares_under t (segment_of o.valley)) (squares_under t (segment_of o.valley)) o.valley.x
        (o.valley.x + (o.valley.end - o.valley.x)) o.right.items t.width
        (under_chain t laid (segment_of o.valley) tiling fills valley_is_leftmost low) run
        (right_stays laid (laid ++ squares_under t (segment_of o.valley)) (o.valley.x + (o.valley.end - o.valley.x)) o.right.items t.width
        (λ c h. same_depth t laid (segment_of o.valley) tiling fills valley_is_leftmost low c (inr h))
        (subst (λ (x : ℕ). RunsFromRight laid x o.right.items t.width) (sym ends) (is.runs).rest));
  }
    where
      run : (q : Square) → IsOneOf q (squares_under t (segment_of o.valley)) → IsRun (laid ++ squares_under t (segment_of o.valley)) (run_under q)
      run q h = record {
        some = omega (arith, side_of t tiling q (in_tiling t laid (segment_of o.valley) tiling fills valley_is_leftmost low q h));
        level = λ c lo hi. new_depth t laid (segment_of o.valley) tiling fills valley_is_leftmost low q h c lo hi;
      }

  -- the levels of the runs beside the valley are the depths there
  left_level : depth_before laid o.valley.x ≡ last_level o.left.items
  left_level = cases (last_of o.left.items)
    where
      cases : (o.left.items ≡ []) ⊎ ((front : List LevelRun) × (r : LevelRun) × (o.left.items ≡ front ++ r ∷ []))
          → depth_before laid o.valley.x ≡ last_level o.left.items
      cases (inl e) = ap (depth_before laid) (sym wall) ∙ ap last_level (sym e)
        where
          wall : 0 ≡ o.valley.x
          wall = subst (λ (l : List LevelRun). FallingRuns laid 0 l o.valley.x) e (is.runs).falls
      cases (inr (front, r, e)) = depth_before_at laid o.valley.x (o.valley.x - 1) (omega (arith, last.2, ((last.1).run).some))
          ∙ ap (λ (k : ℕ). k ∷ []) (((last.1).run).level (o.valley.x - 1) (omega (arith, last.2, ((last.1).run).some))
          (omega (arith, last.2, ((last.1).run).some)))
          ∙ sym (last_level_is front r) ∙ ap last_level (sym e)
        where
          last : FallingRuns laid 0 front r.x × IsFallingRun laid r × (r.end ≡ o.valley.x)
          last = falls_at_end laid 0 front r o.valley.x (subst (λ (l : List LevelRun). FallingRuns laid 0 l o.valley.x) e (is.runs).falls)

  right_level : depth_from t.width laid (o.valley.x + (o.valley.end - o.valley.x)) ≡ last_level o.right.items
  right_level = ap (depth_from t.width laid) ends ∙ cases (last_of o.right.items)
    where
      test : (a b : ℕ) → a ≡ b → nat_lt a b ≡ false
      test a b e = grind (arith, nat_tests)

      cases : (o.right.items ≡ []) ⊎ ((front : List LevelRun) × (r : LevelRun) × (o.right.items ≡ front ++ r ∷ []))
          → depth_from t.width laid o.valley.end ≡ last_level o.right.items
      cases (inl e) = ap (λ (b : Bool). cond b (depth laid o.valley.end ∷ []) []) (test o.valley.end t.width wall) ∙ ap last_level (sym e)
        where
          wall : o.valley.end ≡ t.width
          wall = subst (λ (l : List LevelRun). RunsFromRight laid o.valley.end l t.width) e (is.runs).rest
      cases (inr (front, r, e)) = depth_from_at t.width laid o.valley.end (omega (arith, next.0, (next.1).some, order front t.width next.2))
          ∙ ap (λ (k : ℕ). k ∷ []) ((next.1).level o.valley.end (omega (arith, next.0)) (omega (arith, next.0, (next.1).some)))
          ∙ sym (last_level_is front r) ∙ ap last_level (sym e)
        where
          next : (r.x ≡ o.valley.end) × IsRun laid r × RunsFromRight laid r.end front t.width
          next = right_at_end laid o.valley.end front r t.width (subst (λ (l : List LevelRun). RunsFromRight laid o.valley.end l t.width) e (is.runs).rest)

          order : (runs : List LevelRun) (end : ℕ) → RunsFromRight laid r.end runs end → r.end ≤ end
          order [] end f = omega (arith, f)
          order (s ∷ runs) end f = let some = (f.1).some in omega (arith, f.0, order runs s.x f.2)

  -- the bottoms of the move under it are those of the neighbours in the outline and of the new squares
  pub same_bottoms : bottoms t laid (segment_of o.valley) ≡ last_level o.left.items ++ bottoms_of (squares_under t (segment_of o.valley))
      ++ last_level o.right.items
  same_bottoms = λ i. left_level i ++ bottoms_of (squares_under t (segment_of o.valley)) ++ right_level i
