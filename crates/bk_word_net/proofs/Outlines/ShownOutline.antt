-- Squares laid in the leftmost valley of an outline that shows what is laid: the outline after the move shows what is
-- laid then. No tiling is known yet.
use Rattle.std.specs.List.{AllByRecursion, AllZip}
use Rattle.std.proofs.Common.{List, [], ap, arith, drop, filter, inl, inr, length, map, refl, replicate, subst, suc, sym, take, ℕ, ◌++◌, ◌+◌, ◌<◌}
use Rattle.std.proofs.Common.{◌∙◌, ◌∷◌, ◌≡◌, ◌≤◌, ◌⊎◌}
use Rattle.std.proofs.lemmas.List.{length-append, length-map, length-replicate}
use Rattle.bk_laws.proofs.ZippedLists.{zip_after, zip_append, zip_before, zip_length, zip_map}
use Rattle.bk_laws.proofs.Totals.{total}
use Rattle.bk_tiling.proofs.Cells.{depth-append, from_append}
use Rattle.bk_tiling.proofs.Group.{HasOver, group_sides, group_within, length_group, over_group}
use Rattle.bk_tiling.proofs.FilledGroup.{depth_under, filled_group}
use Rattle.bk_tiling.specs.Column.{AreRuns, depth}
use Rattle.bk_tiling.specs.SquareGroups.{laid_group}
use Rattle.bk_tiling.specs.Tiling.{IsOneOf}
use Rattle.bk_tiling.specs.declared.Segment.{Segment}
use Rattle.bk_tiling.specs.declared.Square.{Square}
use Rattle.bk_word.proofs.PlayLists.{parts_filter}
use Rattle.bk_word.specs.Outline.{Outline, start, valley_place}
use Rattle.bk_word.specs.Play.{after_move, joined, new_squares, numbers_from, parts, segments_apart, signs_apart}
use Rattle.bk_word.specs.Word.{Move}
use Rattle.bk_word.specs.declared.Sign.{Sign}
use Rattle.bk_lay.proofs.Joining.{Joined, join, levels}
use Rattle.bk_lay.proofs.Places.{HasFirst, HasLast}
use Rattle.bk_lay.proofs.LaidRuns.{new_segments, one_of, run_under_a_square, segment_more}
use Rattle.bk_lay.specs.Depiction.{IsNumbered, IsSegment}
use Rattle.bk_lay.specs.TilingWord.{IsLeftmostValley, depth_before, depth_from, signs_between}
use Rattle.bk_word_net.specs.LaidOutline.{ShowsLaid}
use Rattle.bk_word_net.proofs.Outlines.RunsAfterMove.{flat, new_signs, one_run, runs_all, there, zip}

module _ (width : ℕ) (laid : List Square) (o : Outline) (s : ShowsLaid width laid o) (before : List Segment) (v : Segment)
    (after : List Segment) (is : s.runs ≡ before ++ v ∷ after)
    (found : IsLeftmostValley width laid v) (number : valley_place o.signs ≡ length before)
    (left : ((before ≡ []) × (v.x ≡ 0)) ⊎ HasLast laid v.x before) (right : ((after ≡ []) × (v.x + v.width ≡ width))
    ⊎ HasFirst width laid (v.x + v.width) after) where
  module _ (m : Move) (new : List ℕ) (count : length new ≡ m.count) (some : 0 < m.count) (positive : AllByRecursion (λ s. 0 < s) new)
      (fills : total new ≡ v.width)
      (signs : m.signs ≡ signs_between (depth_before laid v.x ++ map (λ q. q.y + q.s) (laid_group v.x v.level new)
      ++ depth_from width laid (v.x + v.width))) where
    new_count : length (laid_group v.x v.level new) ≡ m.count
    new_count = length_group v.x v.level new ∙ count

    new_zip : AllZip (IsSegment (laid ++ laid_group v.x v.level new)) (before ++ map run_under_a_square (laid_group v.x v.level new) ++ after)
        (segments_apart o m)
    new_zip = zip_append (IsSegment (laid ++ laid_group v.x v.level new)) (before ++ map run_under_a_square (laid_group v.x v.level new)) after
        (take (valley_place o.signs) o.segments ++ map (λ q. q ∷ []) (new_squares o m)) (drop (valley_place o.signs + 1) o.segments)
        (zip_append (IsSegment (laid ++ laid_group v.x v.level new)) before (map run_under_a_square (laid_group v.x v.level new))
        (take (valley_place o.signs) o.segments) (map (λ q. q ∷ []) (new_squares o m)) fronts news) backs
      where
        fronts : AllZip (IsSegment (laid ++ laid_group v.x v.level new)) before (take (valley_place o.signs) o.segments)
        fronts = zip_map (IsSegment laid) (IsSegment (laid ++ laid_group v.x v.level new)) (segment_more laid (laid_group v.x v.level new))
            before (take (valley_place o.signs) o.segments)
            (subst (λ (n : ℕ). AllZip (IsSegment laid) before (take n o.segments)) (sym number) (zip_before (IsSegment laid) before v after o.segments (zip
            width laid o s before v after is found number left right)))

        news : AllZip (IsSegment (laid ++ laid_group v.x v.level new)) (map run_under_a_square (laid_group v.x v.level new))
            (map (λ q. q ∷ []) (numbers_from (length o.hung + 1) m.count))
        news = subst (λ (k : ℕ). AllZip (IsSegment (laid ++ laid_group v.x v.level new)) (map run_under_a_square (laid_group v.x v.level new))
            (map (λ q. q ∷ []) (numbers_from (length o.hung + 1) k))) new_count
            (new_segments (laid ++ laid_group v.x v.level new) laid (laid_group v.x v.level new) refl (length o.hung) (sym s.count))

        next : suc (length before) ≡ valley_place o.signs + 1
        next = omega (arith, number)

        backs : AllZip (IsSegment (laid ++ laid_group v.x v.level new)) after (drop (valley_place o.signs + 1) o.segments)
        backs = zip_map (IsSegment laid) (IsSegment (laid ++ laid_group v.x v.level new)) (segment_more laid (laid_group v.x v.level new))
            after (drop (valley_place o.signs + 1) o.segments)
            (subst (λ (n : ℕ). AllZip (IsSegment laid) after (drop n o.segments)) next (zip_after (IsSegment laid) before v after o.segments (zip width
            laid o s before v after is found number left right)))

    inside : (q : Square) → IsOneOf q laid ⊎ IsOneOf q (laid_group v.x v.level new) → (0 < q.s) × (q.x + q.s ≤ width)
    inside q (inl h) = s.inside q h
    inside q (inr h) = (
      group_sides v.x v.level new positive q h,
      let w = (flat width laid o s before v after is found number left right m new count some
          positive fills signs).within in omega (arith, (group_within v.x v.level new q h).1, fills),
    )

    all_inside : (q : Square) → IsOneOf q (laid ++ laid_group v.x v.level new) → (0 < q.s) × (q.x + q.s ≤ width)
    all_inside q h = inside q (from_append laid (laid_group v.x v.level new) q h)

    sides : (n : ℕ) (q : Square) → IsNumbered (laid ++ laid_group v.x v.level new) n q → 0 < q.s
    sides n q h = (all_inside q (one_of (laid ++ laid_group v.x v.level new) h.0 q h.2)).0

    join_all : (runs : List Segment) (segments : List (List ℕ)) → 0 < length runs
        → AreRuns width (laid ++ laid_group v.x v.level new) 0 runs → AllZip (IsSegment (laid ++ laid_group v.x v.level new)) runs segments
        → (level : ℕ) × Joined width (laid ++ laid_group v.x v.level new) sides 0 level (joined (signs_between (levels runs)) segments)
        (filter parts (signs_between (levels runs)))
    join_all [] segments h cut z = absurd (omega arith)
    join_all (r ∷ runs) [] h cut z = absurd z
    join_all (r ∷ runs) (n ∷ segments) h cut z = (r.level, join width (laid ++ laid_group v.x v.level new) sides r runs 0 n segments cut z)

    -- the columns lie below the top then
    deep : ((laid ≡ []) × (o ≡ start)) ⊎ ((c : ℕ) → c < width → 0 < depth laid c) → (c : ℕ) → c < width → 0 < depth (laid ++ laid_group v.x v.level new) c
    deep (inr h) c k = omega (arith, h c k, depth-append laid (laid_group v.x v.level new) c)
    deep (inl (none, first)) c k = from (one_run width laid before v after
        (subst (λ (runs : List Segment). AreRuns width laid 0 runs) is s.cut) (sym (ap length is) ∙ one))
      where
        one : length s.runs ≡ 1
        one = zip_length (IsSegment laid) s.runs o.segments s.segments ∙ ap (λ (p : Outline). length p.segments) first

        from : (v.x ≡ 0) × (v.width ≡ width) → 0 < depth (laid ++ laid_group v.x v.level new) c
        from at = over (over_group v.x v.level new c (omega (arith, at.0)) (omega (arith, at.0, at.1, fills)))
          where
            over : HasOver v.level c (laid_group v.x v.level new) → 0 < depth (laid ++ laid_group v.x v.level new) c
            over r = omega (
              arith,
              depth_under laid v.x v.level new (there width laid o s before v after is found number left right m new count some
                  positive fills signs) c r.square r.is r.left r.right,
              group_sides v.x v.level new positive r.square r.is,
            )

    -- the outline after the move shows what is laid then
    pub shows_move : ShowsLaid width (laid ++ laid_group v.x v.level new) (after_move o m)
    shows_move = record {
      runs = j.first ∷ j.more;
      cut = j.cut;
      segments = subst (λ (signs : List Sign). AllZip (IsSegment (laid ++ laid_group v.x v.level new)) (j.first ∷ j.more)
          (joined signs (segments_apart o m))) (sym (new_signs width laid o s before v after is found number left right m new count some positive fills
          signs)) j.depicts;
      signs = ap (filter parts) (new_signs width laid o s before v after is found number left right m new count some positive fills signs) ∙ j.between;
      parted = parts_filter (signs_apart o m);
      count = omega (
        arith,
        length-append laid (laid_group v.x v.level new),
        length-append o.hung (replicate m.count (length o.closed)),
        length-replicate m.count (length o.closed),
        s.count,
        new_count,
      );
      filled = filled_group laid v.x v.level new (there width laid o s before v after is found number left right m new count some positive fills signs)
          width s.filled;
      inside = all_inside;
      begun = inr (deep s.begun);
    }
      where
        joins : (level : ℕ) × Joined width (laid ++ laid_group v.x v.level new) sides 0 level
            (joined (signs_between (levels (before ++ map run_under_a_square (laid_group v.x v.level new) ++ after))) (segments_apart o m))
            (filter parts (signs_between (levels (before ++ map run_under_a_square (laid_group v.x v.level new) ++ after))))
        joins = join_all (before ++ map run_under_a_square (laid_group v.x v.level new) ++ after) (segments_apart o m)
            (omega (
              arith,
              length-append (before ++ map run_under_a_square (laid_group v.x v.level new)) after,
              length-append before (map run_under_a_square (laid_group v.x v.level new)),
              length-map (laid_group v.x v.level new) run_under_a_square,
              new_count,
              some,
            ))
            (runs_all width laid o s before v after is found number left right m new count some positive fills signs 0 before after (subst (λ (runs : List
            Segment). AreRuns width laid 0 runs) is s.cut)) new_zip

        j : Joined width (laid ++ laid_group v.x v.level new) sides 0 joins.0
            (joined (signs_between (levels (before ++ map run_under_a_square (laid_group v.x v.level new) ++ after))) (segments_apart o m))
            (filter parts (signs_between (levels (before ++ map run_under_a_square (laid_group v.x v.level new) ++ after))))
        j = joins.1
