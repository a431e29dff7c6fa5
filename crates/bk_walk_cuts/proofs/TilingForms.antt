-- What a tiling's word says of its sides when it goes on by a move: the widths of the valley, the levels beside the signs, and
-- the bottoms of the new squares.
use Rattle.std.specs.List.{AllByRecursion, AllZip}
use Rattle.std.specs.Prelude.{pos, ◌+ℤ◌, ◌≢◌}
use Rattle.std.proofs.Common.{Bool, List, Some, [], ap, arith, cond, false, inl, inr, length, map, nat_lt, refl, slice_get, slice_index_or}
use Rattle.std.proofs.Common.{subst, suc, sym, true, zero, ℕ, ◌++◌, ◌+◌, ◌-◌, ◌<◌, ◌∙◌, ◌∷◌, ◌≡◌, ◌⊎◌}
use Rattle.std.proofs.lemmas.Bool.{eq-eqb, ne_eqb}
use Rattle.std.proofs.lemmas.Bool.Decides.{nat_tests}
use Rattle.std.proofs.lemmas.Int.{ints}
use Rattle.std.proofs.lemmas.List.{append_assoc, length-append, length-map}
use Rattle.bk_laws.proofs.ZippedLists.{zip_append, zip_at, zip_length}
use Rattle.bk_tiling.proofs.Rows.{Chain}
use Rattle.bk_tiling.proofs.TilingLaws.{wide_enough}
use Rattle.bk_tiling.specs.Column.{AreRuns, depth}
use Rattle.bk_tiling.specs.declared.Segment.{Segment}
use Rattle.bk_tiling.specs.declared.Square.{Square}
use Rattle.bk_tiling.specs.Tiling.{IsTiling, Tiling}
use Rattle.bk_word.specs.Outline.{Outline, has_left_wall, has_right_wall, start, valley_of, valley_place}
use Rattle.bk_word.specs.Play.{after_move, after_moves, new_squares, outline_of, parts}
use Rattle.bk_word.specs.Word.{Move, Word}
use Rattle.bk_word.specs.declared.Sign.{Sign}
use Rattle.bk_lay.proofs.Filling.{is_under}
use Rattle.bk_lay.proofs.Joining.{length-signs, levels}
use Rattle.bk_lay.proofs.ValleySquares.{under_chain}
use Rattle.bk_lay.proofs.Places.{HasFirst, HasLast, Placed, placed}
use Rattle.bk_lay.proofs.ValleySegment.{valley_segment}
use Rattle.bk_lay.proofs.Valleys.{one_leftmost_valley}
use Rattle.bk_lay.specs.Depiction.{Depicts, Hangs, IsSegment}
use Rattle.bk_lay.specs.TilingWord.{IsLeftmostValley, bottoms as bottoms_along, depth_before, depth_from, move_under, signs_between, squares_under}
use Rattle.bk_word_net.proofs.TilingWords.AlongWord.{Along, along_move, along_start}
use Rattle.bk_forms.specs.Form.{Form, form_value}
use Rattle.bk_walk_cuts.proofs.SideValues.{IsLevelOf, chain_sum, new_bottoms_by_their_forms, segment_level, signs_agree, span_sum}
use Rattle.bk_walk_cuts.specs.SideForms.{left_level, level_of, levels_along, new_bottoms, right_level, sum_of_sides, zero_form}
use Rattle.bk_walk_cuts.specs.SidesOfTilings.{AreSidesOf, IsBottomOf, LaidBy, MoveHolds, MovesHold}

-- what is laid by moves goes along the play of the word
pub laid_along : (t : Tiling) → IsTiling t → (laid laid_then : List Square) (nodes : List Segment) (o : Outline) (front : Word) → Along t laid nodes o
    → LaidBy t laid front laid_then
    → (nodes_then : List Segment) × Along t laid_then nodes_then (after_moves o front)
laid_along t tiling laid laid_then nodes o [] a e = (nodes, subst (λ (l : List Square). Along t l nodes o) e a)
laid_along t tiling laid laid_then nodes o (m ∷ front) a p = laid_along t tiling (laid ++ squares_under t p.0) laid_then (nodes ++ p.0 ∷ [])
    (after_move o m) front
    (subst (λ (n : Move). Along t (laid ++ squares_under t p.0) (nodes ++ p.0 ∷ []) (after_move o n)) (sym p.3)
    (along_move t laid nodes o p.0 tiling a p.1 p.2)) p.4

run_some : (width : ℕ) (laid : List Square) (x : ℕ) (front : List Segment) (u : Segment) (back : List Segment)
    → AreRuns width laid x (front ++ u ∷ back) → 0 < u.width
run_some width laid x [] u back cut = (cut.1).some
run_some width laid x (v ∷ front) u back cut = run_some width laid (x + v.width) front u back cut.2

signs_many : (front : List Segment) (u : Segment) (back : List Segment) → length (signs_between (levels (front ++ u ∷ back))) ≡ length front + length back
signs_many [] u back = length-signs u.level (levels back) ∙ length-map back (λ v. v.level) ∙ omega arith
signs_many (v ∷ front) u back = length-signs v.level (levels (front ++ u ∷ back)) ∙ length-map (front ++ u ∷ back) (λ v. v.level)
    ∙ omega (arith, length-append front (u ∷ back))

-- the level of a segment that stands beside the valley is zipped with its depth
zip_by : (sides : List ℕ) (b : Bool) (f : Form) (ns ms : List ℕ) → b ≡ false → ns ≡ ms → AllZip (IsLevelOf sides) (f ∷ []) ms
    → AllZip (IsLevelOf sides) (cond b [] (f ∷ [])) ns
zip_by sides true f ns ms e g z = absurd (cc)
zip_by sides false f ns ms e g z = subst (AllZip (IsLevelOf sides) (f ∷ [])) (sym g) z

-- at a wall no level is zipped with a depth
zip_none : (sides : List ℕ) (b : Bool) (f : Form) (ns : List ℕ) → b ≡ true → ns ≡ [] → AllZip (IsLevelOf sides) (cond b [] (f ∷ [])) ns
zip_none sides true f ns e g = subst (AllZip (IsLevelOf sides) []) (sym g) tt
zip_none sides false f ns e g = absurd (cc)

module _ (t : Tiling) (laid : List Square) (nodes : List Segment) (o : Outline) (v : Segment) (sides : List ℕ) (bottoms : List Form)
    (tiling : IsTiling t) (d : Depicts t laid nodes o) (found : IsLeftmostValley t.width laid v)
    (zip : AllZip (IsBottomOf sides) bottoms laid) where
  p : Placed t.width laid 0 d.runs
  p = placed t.width laid d.runs (wide_enough t tiling) d.cut (subst (λ (signs : List Sign). AllByRecursion (λ sign. parts sign ≡ true) signs) d.signs d.parted)

  same : p.valley ≡ v
  same = one_leftmost_valley t.width laid p.valley v p.leftmost found

  is : d.runs ≡ p.before ++ v ∷ p.after
  is = p.is ∙ ap (λ (w : Segment). p.before ++ w ∷ p.after) same

  number : valley_place o.signs ≡ length p.before
  number = ap valley_place d.signs ∙ p.number

  many : length o.signs ≡ length p.before + length p.after
  many = ap length d.signs ∙ ap (λ (runs : List Segment). length (signs_between (levels runs))) is ∙ signs_many p.before v p.after

  -- a run of columns among the segments, and its level
  at_run : (front : List Segment) (u : Segment) (back : List Segment) → p.before ++ v ∷ p.after ≡ front ++ u ∷ back
      → IsLevelOf sides (level_of bottoms (slice_index_or o.segments (length front) [])) u.level
  at_run front u back e = segment_level sides bottoms laid u (slice_index_or o.segments (length front) [])
      (run_some t.width laid 0 front u back (subst (AreRuns t.width laid 0) (is ∙ e) d.cut)) zip
      (zip_at (IsSegment laid) front u back o.segments [] (subst (λ (runs : List Segment). AllZip (IsSegment laid) runs o.segments) (is ∙ e) d.segments))

  -- the level at the left of the valley is the depth there
  pub left_level_is_the_depth_there : AllZip (IsLevelOf sides) (left_level o bottoms) (depth_before laid v.x)
  left_level_is_the_depth_there = cases (subst (λ (w : Segment). ((p.before ≡ []) × (w.x ≡ 0)) ⊎ HasLast laid w.x p.before) same p.left)
    where
      cases : ((p.before ≡ []) × (v.x ≡ 0)) ⊎ HasLast laid v.x p.before → AllZip (IsLevelOf sides) (left_level o bottoms) (depth_before laid v.x)
      cases (inl (none, at)) = zip_none sides (has_left_wall o) (level_of bottoms (slice_index_or o.segments (valley_place o.signs - 1) []))
          (depth_before laid v.x) (eq-eqb (valley_place o.signs) 0 (number ∙ ap length none)) (ap (depth_before laid) at)
      cases (inr h) = zip_by sides (has_left_wall o) (level_of bottoms (slice_index_or o.segments (valley_place o.signs - 1) [])) (depth_before laid v.x)
          ((h.last).level ∷ [])
          (ne_eqb (valley_place o.signs) 0 (λ e. omega (arith, number, e, before_many))) h.level (
            subst (λ (k : ℕ). IsLevelOf sides (level_of bottoms (slice_index_or o.segments k [])) (h.last).level) place
                (at_run h.front h.last (v ∷ p.after) split),
            tt,
          )
        where
          before_many : length p.before ≡ length h.front + 1
          before_many = ap length h.is ∙ length-append h.front (h.last ∷ [])

          place : length h.front ≡ valley_place o.signs - 1
          place = omega (arith, number, before_many)

          split : p.before ++ v ∷ p.after ≡ h.front ++ h.last ∷ (v ∷ p.after)
          split = ap (λ (b : List Segment). b ++ v ∷ p.after) h.is ∙ append_assoc h.front (h.last ∷ []) (v ∷ p.after)

  -- the level at the right of the valley is the depth there
  pub right_level_is_the_depth_there : AllZip (IsLevelOf sides) (right_level o bottoms) (depth_from t.width laid (v.x + v.width))
  right_level_is_the_depth_there = cases (subst (λ (w : Segment). ((p.after ≡ []) × (w.x + w.width ≡ t.width))
      ⊎ HasFirst t.width laid (w.x + w.width) p.after) same p.right)
    where
      at_wall : (c w : ℕ) (ds : List ℕ) → c ≡ w → cond (nat_lt c w) ds [] ≡ []
      at_wall c w ds e = ap (λ (b : Bool). cond b ds []) (not_less c w e)
        where
          not_less : (c w : ℕ) → c ≡ w → nat_lt c w ≡ false
          not_less c w e = grind (arith, nat_tests)

      cases : ((p.after ≡ []) × (v.x + v.width ≡ t.width)) ⊎ HasFirst t.width laid (v.x + v.width) p.after
          → AllZip (IsLevelOf sides) (right_level o bottoms) (depth_from t.width laid (v.x + v.width))
      cases (inl (none, at)) = zip_none sides (has_right_wall o) (level_of bottoms (slice_index_or o.segments (valley_place o.signs + 1) []))
          (depth_from t.width laid (v.x + v.width))
          (eq-eqb (valley_place o.signs) (length o.signs) (omega (arith, number, many, ap length none)))
          (at_wall (v.x + v.width) t.width (depth laid (v.x + v.width) ∷ []) at)
      cases (inr h) = zip_by sides (has_right_wall o) (level_of bottoms (slice_index_or o.segments (valley_place o.signs + 1) []))
          (depth_from t.width laid (v.x + v.width)) ((h.first).level ∷ [])
          (ne_eqb (valley_place o.signs) (length o.signs) (λ e. omega (arith, number, many, e, ap length h.is))) h.level (
            subst (λ (k : ℕ). IsLevelOf sides (level_of bottoms (slice_index_or o.segments k [])) (h.first).level) place
                (at_run (p.before ++ v ∷ []) h.first h.back split),
            tt,
          )
        where
          place : length (p.before ++ v ∷ []) ≡ valley_place o.signs + 1
          place = length-append p.before (v ∷ []) ∙ omega (arith, number)

          split : p.before ++ v ∷ p.after ≡ (p.before ++ v ∷ []) ++ h.first ∷ h.back
          split = ap (λ (a : List Segment). p.before ++ v ∷ a) h.is ∙ sym (append_assoc p.before (v ∷ []) (h.first ∷ h.back))

  -- the valley's own level is that of its squares' bottoms
  pub valley_level : IsLevelOf sides (level_of bottoms (valley_of o)) v.level
  valley_level = subst (λ (k : ℕ). IsLevelOf sides (level_of bottoms (slice_index_or o.segments k [])) v.level) (sym number) (at_run p.before v p.after refl)

bottom_levels : (sides : List ℕ) (forms : List Form) (squares : List Square) → AllZip (IsBottomOf sides) forms squares
    → AllZip (IsLevelOf sides) forms (map (λ q. q.y + q.s) squares)
bottom_levels sides [] [] z = tt
bottom_levels sides [] (q ∷ squares) z = absurd z
bottom_levels sides (f ∷ forms) [] z = absurd z
bottom_levels sides (f ∷ forms) (q ∷ squares) z = (record { long = (z.0).long; value = (z.0).level }, bottom_levels sides forms squares z.1)

-- sides of more squares are sides of the first of them
pub fewer_sides : (laid more : List Square) (sides : List ℕ) → AreSidesOf (laid ++ more) sides → AreSidesOf laid sides
fewer_sides laid more sides are = record {
  few = omega (arith, are.few, length-append laid more);
  long = are.long;
  positive = are.positive;
  each = λ k q e. are.each k q (in_front laid k q e);
}
  where
    in_front : (laid : List Square) (k : ℕ) (q : Square) → slice_get laid k ≡ Some q → slice_get (laid ++ more) k ≡ Some q
    in_front [] k q e = absurd (cc)
    in_front (r ∷ laid) zero q e = e
    in_front (r ∷ laid) (suc k) q e = in_front laid k q e

-- one move under the leftmost valley
module _ (t : Tiling) (laid : List Square) (nodes : List Segment) (o : Outline) (v : Segment) (sides : List ℕ) (bottoms : List Form)
    (tiling : IsTiling t) (a : Along t laid nodes o) (found : IsLeftmostValley t.width laid v) (low : v.level < t.height)
    (are : AreSidesOf (laid ++ squares_under t v) sides) (zip : AllZip (IsBottomOf sides) bottoms laid) where
  chain : Chain v.x (squares_under t v) (v.x + v.width)
  chain = under_chain t laid v tiling a.fills found low

  hung : length o.hung ≡ length laid
  hung = sym (zip_length (Hangs nodes) laid o.hung (a.depicts).hung)

  news : AllZip (IsBottomOf sides) (new_bottoms o (move_under t laid v) bottoms) (squares_under t v)
  news = new_bottoms_by_their_forms (laid ++ squares_under t v) sides are (squares_under t v) laid (level_of bottoms (valley_of o))
      (length o.hung + 1) v.level refl
      (omega (arith, hung)) level.long level.value
      (λ q h. (is_under t laid v tiling a.fills found low q h).level)
    where
      level : IsLevelOf sides (level_of bottoms (valley_of o)) v.level
      level = valley_level t laid nodes o v sides bottoms tiling a.depicts found zip

  along : AllZip (IsLevelOf sides) (levels_along o (move_under t laid v) bottoms) (bottoms_along t laid v)
  along = zip_append (IsLevelOf sides) (left_level o bottoms ++ new_bottoms o (move_under t laid v) bottoms) (right_level o bottoms)
      (depth_before laid v.x ++ map (λ q. q.y + q.s) (squares_under t v)) (depth_from t.width laid (v.x + v.width))
      (zip_append (IsLevelOf sides) (left_level o bottoms) (new_bottoms o (move_under t laid v) bottoms) (depth_before laid v.x)
      (map (λ q. q.y + q.s) (squares_under t v))
      (left_level_is_the_depth_there t laid nodes o v sides bottoms tiling a.depicts found zip)
      (bottom_levels sides (new_bottoms o (move_under t laid v) bottoms) (squares_under t v) news))
      (right_level_is_the_depth_there t laid nodes o v sides bottoms tiling a.depicts found zip)

  widths : valley_of o ≢ [] → form_value (sum_of_sides (valley_of o)) sides ≡ form_value (sum_of_sides (new_squares o (move_under t laid v))) sides
  widths some = old (valley_of o) some (valley_segment t laid nodes o v tiling a.depicts found)
    where
      new : form_value (sum_of_sides (new_squares o (move_under t laid v))) sides +ℤ pos v.x ≡ form_value zero_form sides +ℤ pos (v.x + v.width)
      new = chain_sum (laid ++ squares_under t v) sides are (squares_under t v) laid zero_form (length o.hung + 1) v.x (v.x + v.width) refl
          (omega (arith, hung)) refl chain

      old : (numbers : List ℕ) → numbers ≢ [] → IsSegment laid v numbers
          → form_value (sum_of_sides numbers) sides ≡ form_value (sum_of_sides (new_squares o (move_under t laid v))) sides
      old numbers n (inl span) = omega (
        arith,
        ints,
        new,
        span_sum laid sides (fewer_sides laid (squares_under t v) sides are) numbers zero_form
            v.level v.x (v.x + v.width) refl span,
      )
      old numbers n (inr top) = absurd (n top.1)

  -- what a move of a tiling's word says holds of the tiling's sides
  pub move_holds : MoveHolds o (move_under t laid v) bottoms (laid ++ squares_under t v) sides
  move_holds = record {
    widths = widths;
    signs = signs_agree sides (levels_along o (move_under t laid v) bottoms) (bottoms_along t laid v) along;
    bottoms_then = zip_append (IsBottomOf sides) bottoms (new_bottoms o (move_under t laid v) bottoms) laid (squares_under t v) zip news;
  }

-- the law: so it does of all moves of the word
pub moves_hold : MovesHold
moves_hold front m bottoms t laid laid_then sides tiling before (v, found, low, is, e) are zip =
    subst (λ (l : List Square). MoveHolds (outline_of front) m bottoms l sides) e
    (subst (λ (n : Move). MoveHolds (outline_of front) n bottoms (laid ++ squares_under t v) sides) (sym is)
    (move_holds t laid (a.0) (outline_of front) v sides bottoms tiling a.1 found low (subst (λ (l : List Square). AreSidesOf l sides) (sym e) are) zip))
  where
    a : (nodes : List Segment) × Along t laid nodes (outline_of front)
    a = laid_along t tiling [] laid [] start front (along_start t tiling) before
