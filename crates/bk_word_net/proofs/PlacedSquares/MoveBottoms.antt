-- The bottoms of squares that were placed in a valley, and of those beside it, are those that the tiling has there.
use Rattle.std.specs.List.{AllZip}
use Rattle.std.proofs.Common.{Bool, List, Some, [], ap, arith, cond, false, inl, inr, length, map, nat_eq, slice_get, slice_index_or, subst, suc, sym, true, ℕ}
use Rattle.std.proofs.Common.{◌++◌, ◌+◌, ◌-◌, ◌<◌, ◌∙◌, ◌∷◌, ◌≡◌, ◌⊎◌}
use Rattle.std.proofs.lemmas.Bool.{eq-eqb}
use Rattle.std.proofs.lemmas.Bool.Decides.{nat_tests}
use Rattle.std.proofs.lemmas.List.{append_assoc, length-append, length-map}
use Rattle.bk_laws.proofs.ZippedLists.{zip_at, zip_length}
use Rattle.bk_laws.proofs.ListPlaces.{get_append}
use Rattle.bk_laws.proofs.ListParts.{cons-not_empty}
use Rattle.bk_tiling.specs.Column.{AreRuns, IsLevel, depth}
use Rattle.bk_tiling.specs.declared.Segment.{Segment}
use Rattle.bk_tiling.specs.Tiling.{IsOneOf, IsTiling, Tiling}
use Rattle.bk_tiling.specs.declared.Square.{Square}
use Rattle.bk_tiling.proofs.Group.{group_list}
use Rattle.bk_tiling.specs.SquareGroups.{laid_group}
use Rattle.bk_word.specs.Outline.{Outline, has_left_wall, has_right_wall, valley_place}
use Rattle.bk_word.specs.Play.{new_squares, numbers_from}
use Rattle.bk_word.specs.Word.{Move}
use Rattle.bk_lay.proofs.Depicting.{some_signs}
use Rattle.bk_lay.proofs.Joining.{levels}
use Rattle.bk_lay.proofs.Places.{HasFirst, HasLast, Placed, depth_from_end}
use Rattle.bk_lay.specs.Depiction.{Depicts, FillsFromTop, Hangs, IsNumbered, IsSegment}
use Rattle.bk_lay.specs.TilingWord.{IsLeftmostValley, bottoms, depth_before, depth_from, squares_under}
use Rattle.bk_word_net.proofs.Outlines.RunsAfterMove.{runs_at}
use Rattle.bk_word_net.specs.FlowTiling.{bottoms_of_move, segment_bottom}
use Rattle.bk_word_net.proofs.PlacedSquares.PlacedValley.{IsPlacing, group_bottoms, new_is}

module _ (t : Tiling) (tiling : IsTiling t) (all : List Square) (all_in : (q : Square) → IsOneOf q all → IsOneOf q t.squares)
    (full : (c : ℕ) → c < t.width → depth all c ≡ t.height)
    (bottom : ℕ → ℕ) (bottom_is : (n : ℕ) (q : Square) → IsNumbered all n q → bottom n ≡ q.y + q.s)
    (laid : List Square) (nodes : List Segment) (o : Outline) (fills : FillsFromTop t laid) (d : Depicts t laid nodes o)
    (v : Segment) (found : IsLeftmostValley t.width laid v)
    (m : Move) (legal : 0 < m.count) (x level : ℕ) (new : List ℕ) (step : IsPlacing t.width laid o m x level new) (more : List Square)
    (all_is : all ≡ (laid ++ laid_group x level new) ++ more) where
  -- a number of a laid square
  own_bottom : (n : ℕ) (q : Square) → IsNumbered laid n q → bottom n ≡ q.y + q.s
  own_bottom n q (k, e, at) = bottom_is n q (
    k,
    e,
    subst (λ (l : List Square). slice_get l k ≡ Some q) (sym all_is)
        (get_append (laid ++ laid_group x level new) more k q (get_append laid (laid_group x level new) k q at)),
  )

  segment_level : (r : Segment) (numbers : List ℕ) → IsLevel t.width laid r → IsSegment laid r numbers → segment_bottom bottom numbers ≡ r.level
  segment_level r [] level (inl span) = absurd (omega (arith, level.some, span))
  segment_level r [] level (inr top) = sym top.0
  segment_level r (n ∷ numbers) level (inl span) = own_bottom n span.0 span.1 ∙ span.3
  segment_level r (n ∷ numbers) level (inr top) = absurd (cons-not_empty n numbers top.1)

  module _ (p : Placed t.width laid 0 d.runs) (same : p.valley ≡ v) where
    is : d.runs ≡ p.before ++ v ∷ p.after
    is = p.is ∙ ap (λ (w : Segment). p.before ++ w ∷ p.after) same

    number : valley_place o.signs ≡ length p.before
    number = ap valley_place d.signs ∙ p.number

    signs_count : length o.signs ≡ length p.before + length p.after
    signs_count = omega (
      arith,
      ap length d.signs,
      some_signs (levels d.runs) (omega (arith, runs, length-map d.runs (λ r. r.level))),
      length-map d.runs (λ r. r.level),
      runs,
    )
      where
        runs : length d.runs ≡ length p.before + suc (length p.after)
        runs = ap length is ∙ length-append p.before (v ∷ p.after)

    left_is : cond (has_left_wall o) [] (segment_bottom bottom (slice_index_or o.segments (valley_place o.signs - 1) []) ∷ []) ≡ depth_before laid v.x
    left_is = cases (subst (λ (w : Segment). ((p.before ≡ []) × (w.x ≡ 0)) ⊎ HasLast laid w.x p.before) same p.left)
      where
        by : (b : Bool) → has_left_wall o ≡ b → cond (has_left_wall o) []
            (segment_bottom bottom (slice_index_or o.segments (valley_place o.signs - 1) []) ∷ [])
            ≡ cond b [] (segment_bottom bottom (slice_index_or o.segments (valley_place o.signs - 1) []) ∷ [])
        by b e = ap (λ (c : Bool). cond c [] (segment_bottom bottom (slice_index_or o.segments (valley_place o.signs - 1) []) ∷ [])) e

        later : (a : ℕ) → 0 < a → nat_eq a 0 ≡ false
        later a e = grind (arith, nat_tests)

        cases : ((p.before ≡ []) × (v.x ≡ 0)) ⊎ HasLast laid v.x p.before
            → cond (has_left_wall o) [] (segment_bottom bottom (slice_index_or o.segments (valley_place o.signs - 1) []) ∷ []) ≡ depth_before laid v.x
        cases (inl (none, at)) = by true (eq-eqb (valley_place o.signs) 0 (number ∙ ap length none)) ∙ sym (ap (depth_before laid) at)
        cases (inr h) = by false (later (valley_place o.signs) (omega (arith, place)))
            ∙ ap (λ (n : ℕ). n ∷ []) (ap (λ (n : ℕ). segment_bottom bottom (slice_index_or o.segments n [])) before ∙ here) ∙ sym h.level
          where
            place : valley_place o.signs ≡ length h.front + 1
            place = omega (arith, number, ap length h.is, length-append h.front (h.last ∷ []))

            before : valley_place o.signs - 1 ≡ length h.front
            before = omega (arith, place)

            runs : d.runs ≡ h.front ++ h.last ∷ (v ∷ p.after)
            runs = is ∙ ap (λ (s : List Segment). s ++ v ∷ p.after) h.is ∙ append_assoc h.front (h.last ∷ []) (v ∷ p.after)

            here : segment_bottom bottom (slice_index_or o.segments (length h.front) []) ≡ (h.last).level
            here = segment_level h.last (slice_index_or o.segments (length h.front) [])
                (runs_at t.width laid 0 h.front h.last (v ∷ p.after) (subst (AreRuns t.width laid 0) runs d.cut))
                (zip_at (IsSegment laid) h.front h.last (v ∷ p.after) o.segments []
                (subst (λ (rs : List Segment). AllZip (IsSegment laid) rs o.segments) runs d.segments))

    right_is : cond (has_right_wall o) [] (segment_bottom bottom (slice_index_or o.segments (valley_place o.signs + 1) []) ∷ [])
        ≡ depth_from t.width laid (v.x + v.width)
    right_is = cases (subst (λ (w : Segment). ((p.after ≡ []) × (w.x + w.width ≡ t.width)) ⊎ HasFirst t.width laid (w.x + w.width) p.after) same p.right)
      where
        by : (b : Bool) → has_right_wall o ≡ b → cond (has_right_wall o) []
            (segment_bottom bottom (slice_index_or o.segments (valley_place o.signs + 1) []) ∷ [])
            ≡ cond b [] (segment_bottom bottom (slice_index_or o.segments (valley_place o.signs + 1) []) ∷ [])
        by b e = ap (λ (c : Bool). cond c [] (segment_bottom bottom (slice_index_or o.segments (valley_place o.signs + 1) []) ∷ [])) e

        less : (a b : ℕ) → a < b → nat_eq a b ≡ false
        less a b e = grind (arith, nat_tests)

        cases : ((p.after ≡ []) × (v.x + v.width ≡ t.width)) ⊎ HasFirst t.width laid (v.x + v.width) p.after
            → cond (has_right_wall o) [] (segment_bottom bottom (slice_index_or o.segments (valley_place o.signs + 1) []) ∷ [])
            ≡ depth_from t.width laid (v.x + v.width)
        cases (inl (none, at)) = by true (eq-eqb (valley_place o.signs) (length o.signs)
            (omega (arith, number, signs_count, ap length none))) ∙ sym (depth_from_end t.width laid (v.x + v.width) at)
        cases (inr h) = by false (less (valley_place o.signs) (length o.signs) (omega (arith, number, signs_count, ap length h.is)))
            ∙ ap (λ (n : ℕ). n ∷ []) (ap (λ (n : ℕ). segment_bottom bottom (slice_index_or o.segments n [])) next ∙ here) ∙ sym h.level
          where
            next : valley_place o.signs + 1 ≡ length (p.before ++ v ∷ [])
            next = omega (arith, number, length-append p.before (v ∷ []))

            runs : d.runs ≡ (p.before ++ v ∷ []) ++ h.first ∷ h.back
            runs = is ∙ ap (λ (s : List Segment). p.before ++ v ∷ s) h.is ∙ sym (append_assoc p.before (v ∷ []) (h.first ∷ h.back))

            here : segment_bottom bottom (slice_index_or o.segments (length (p.before ++ v ∷ [])) []) ≡ (h.first).level
            here = segment_level h.first (slice_index_or o.segments (length (p.before ++ v ∷ [])) [])
                (runs_at t.width laid 0 (p.before ++ v ∷ []) h.first h.back (subst (AreRuns t.width laid 0) runs d.cut))
                (zip_at (IsSegment laid) (p.before ++ v ∷ []) h.first h.back o.segments []
                (subst (λ (rs : List Segment). AllZip (IsSegment laid) rs o.segments) runs d.segments))

    middle_is : map bottom (new_squares o m) ≡ map (λ q. q.y + q.s) (squares_under t v)
    middle_is = ap (λ (k : ℕ). map bottom (numbers_from (length o.hung + 1) k))
        (sym (step.count) ∙ ap length (sym (group_list x level new)) ∙ length-map (laid_group x level new) (λ q. q.s))
        ∙ group_bottoms t tiling all all_in full bottom bottom_is laid (laid_group x level new) more (all_is ∙ append_assoc laid (laid_group x level new)
        more) (length o.hung + 1)
        (omega (arith, zip_length (Hangs nodes) laid o.hung d.hung))
        ∙ ap (map (λ q. q.y + q.s)) (sym (new_is t tiling all all_in full bottom bottom_is laid nodes o fills d v found m legal x level new step more all_is))

    -- the bottoms that a move's signs compare are those of the tiling
    pub bottoms_are : bottoms_of_move bottom o m ≡ bottoms t laid v
    bottoms_are = λ i. left_is i ++ middle_is i ++ right_is i
