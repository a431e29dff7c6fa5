-- One step of the play is one step of laying: the outline after the move under the leftmost valley
-- is that of what is laid then.
use Rattle.std.specs.List.{AllZip}
use Rattle.std.proofs.Common.{List, [], ap, arith, drop, filter, inl, inr, length, map, refl, replicate, slice_get, slice_index_or, subst, suc, sym, take, ℕ}
use Rattle.std.proofs.Common.{◌++◌, ◌+◌, ◌-◌, ◌<◌, ◌∙◌, ◌∷◌, ◌≡◌, ◌⊎◌}
use Rattle.std.proofs.lemmas.List.{length-append, length-map, map-append}
use Rattle.bk_laws.proofs.ZippedLists.{zip_after, zip_append, zip_at, zip_before, zip_length, zip_map}
use Rattle.bk_laws.proofs.ListPlaces.{get_last}
use Rattle.bk_tiling.proofs.Cells.{in_all}
use Rattle.bk_tiling.proofs.TilingLaws.{wide_enough}
use Rattle.bk_tiling.specs.Column.{AreRuns}
use Rattle.bk_tiling.specs.declared.Segment.{Segment}
use Rattle.bk_tiling.specs.Tiling.{IsOneOf, IsTiling, Tiling}
use Rattle.bk_tiling.specs.declared.Square.{Square}
use Rattle.bk_word.proofs.PlayLists.{parts_filter}
use Rattle.bk_word.specs.Outline.{IsLegalMove, Outline, valley_of, valley_place}
use Rattle.bk_word.specs.Play.{after_move, joined, numbers_from, parts, segments_apart, signs_apart}
use Rattle.bk_word.specs.declared.Sign.{Sign}
use Rattle.bk_lay.proofs.Depicting.{FirstIs, LastIs, signs_new}
use Rattle.bk_lay.proofs.UnderValley.{IsUnder}
use Rattle.bk_lay.proofs.Filling.{is_under, valley_is_filled}
use Rattle.bk_lay.proofs.Joining.{Joined, join, levels}
use Rattle.bk_lay.proofs.Places.{HasFirst, HasLast, Stands}
use Rattle.bk_lay.proofs.ValleySegment.{valley_stands}
use Rattle.bk_lay.specs.Depiction.{Depicts, FillsFromTop, Hangs, IsNumbered, IsSegment}
use Rattle.bk_lay.specs.TilingWord.{IsLeftmostValley, bottoms, depth_before, depth_from, move_under, signs_between, squares_under}
use Rattle.bk_lay.specs.WordLaws.{MoveDepicts, StartDepictsNothing}
use Rattle.bk_lay.proofs.LaidRuns.{hangs_more, levels_of_runs_are_the_bottoms, new_segments, one_of, run_under_a_square, runs_new_all, segment_more}
use Rattle.bk_lay.proofs.LegalMoves.{first_level_is_the_depth_at_the_right, last_level_is_the_depth_at_the_left, valley_move_is_legal}

module _ (t : Tiling) (laid : List Square) (v : Segment) (tiling : IsTiling t) (fills : FillsFromTop t laid) (found : IsLeftmostValley t.width laid v)
    (low : v.level < t.height) where
  module _ (nodes : List Segment) (o : Outline) (d : Depicts t laid nodes o) where
    long : length o.hung ≡ length laid
    long = sym (zip_length (Hangs nodes) laid o.hung d.hung)

    module _ (before after : List Segment) (is : d.runs ≡ before ++ v ∷ after) (number : valley_place o.signs ≡ length before)
        (left : ((before ≡ []) × (v.x ≡ 0)) ⊎ HasLast laid v.x before) (right : ((after ≡ []) × (v.x + v.width ≡ t.width))
        ⊎ HasFirst t.width laid (v.x + v.width) after) where
      zip : AllZip (IsSegment laid) (before ++ v ∷ after) o.segments
      zip = subst (λ (runs : List Segment). AllZip (IsSegment laid) runs o.segments) is d.segments

      level_signs : o.signs ≡ signs_between (levels before ++ v.level ∷ levels after)
      level_signs = d.signs ∙ ap (λ runs. signs_between (levels runs)) is ∙ ap signs_between (map-append (λ r. r.level) before (v ∷ after))

      number_levels : valley_place o.signs ≡ length (levels before)
      number_levels = number ∙ sym (length-map before (λ r. r.level))

      at_left : LastIs (levels before) (depth_before laid v.x)
      at_left = last_level_is_the_depth_at_the_left laid v.x before left

      at_right : FirstIs (levels after) (depth_from t.width laid (v.x + v.width))
      at_right = first_level_is_the_depth_at_the_right t.width laid (v.x + v.width) after right

      some : 0 < length (squares_under t v)
      some = (valley_is_filled t laid v tiling fills found low).0

      is_legal : IsLegalMove o (move_under t laid v)
      is_legal = valley_move_is_legal t laid v tiling fills found low o (levels before) (levels after) level_signs number_levels at_left at_right

      new_signs : signs_apart o (move_under t laid v) ≡ signs_between (levels (before ++ map run_under_a_square (squares_under t v) ++ after))
      new_signs = (λ i. take (number_levels i - 1) (level_signs i) ++ signs_between (bottoms t laid v) ++ drop (number_levels i + 1) (level_signs i))
          ∙ signs_new (levels before) (depth_before laid v.x) v.level (levels after) (depth_from t.width laid (v.x + v.width))
          (map (λ q. q.y + q.s) (squares_under t v)) at_left at_right
          ∙ ap signs_between (sym cut)
        where
          cut : levels (before ++ map run_under_a_square (squares_under t v) ++ after) ≡ levels before ++ map (λ q. q.y + q.s)
              (squares_under t v) ++ levels after
          cut = map-append (λ r. r.level) (before ++ map run_under_a_square (squares_under t v)) after
              ∙ ap (λ ls. ls ++ levels after) (map-append (λ r. r.level) before (map run_under_a_square (squares_under t v))
              ∙ ap (λ ls. levels before ++ ls) (levels_of_runs_are_the_bottoms (squares_under t v)))

      new_zip : AllZip (IsSegment (laid ++ squares_under t v)) (before ++ map run_under_a_square (squares_under t v) ++ after)
          (segments_apart o (move_under t laid v))
      new_zip = zip_append S (before ++ map run_under_a_square (squares_under t v)) after
          (take (valley_place o.signs) o.segments ++ map (λ q. q ∷ []) (numbers_from (length o.hung + 1) (length (squares_under t v))))
          (drop (valley_place o.signs + 1) o.segments)
          (zip_append S before (map run_under_a_square (squares_under t v)) (take (valley_place o.signs) o.segments)
          (map (λ q. q ∷ []) (numbers_from (length o.hung + 1) (length (squares_under t v)))) fronts news) backs
        where
          S : Segment → List ℕ → Type 0
          S = IsSegment (laid ++ squares_under t v)

          fronts : AllZip S before (take (valley_place o.signs) o.segments)
          fronts = zip_map (IsSegment laid) S (segment_more laid (squares_under t v)) before (take (valley_place o.signs) o.segments)
              (subst (λ (n : ℕ). AllZip (IsSegment laid) before (take n o.segments)) (sym number)
              (zip_before (IsSegment laid) before v after o.segments zip))

          news : AllZip S (map run_under_a_square (squares_under t v)) (map (λ q. q ∷ []) (numbers_from (length o.hung + 1) (length (squares_under t v))))
          news = new_segments (laid ++ squares_under t v) laid (squares_under t v) refl (length o.hung) long

          next : suc (length before) ≡ valley_place o.signs + 1
          next = omega (arith, number)

          backs : AllZip S after (drop (valley_place o.signs + 1) o.segments)
          backs = zip_map (IsSegment laid) S (segment_more laid (squares_under t v)) after (drop (valley_place o.signs + 1) o.segments)
              (subst (λ (n : ℕ). AllZip (IsSegment laid) after (drop n o.segments)) next (zip_after (IsSegment laid) before v after o.segments zip))

      sides : (n : ℕ) (q : Square) → IsNumbered (laid ++ squares_under t v) n q → 0 < q.s
      sides n q h = in_all (λ q. 0 < q.s) t.squares (tiling.tiles).sides q
          (in_all (λ q. IsOneOf q t.squares) (laid ++ squares_under t v) ((valley_is_filled t laid v tiling fills found low).1).squares q
          (one_of (laid ++ squares_under t v) h.0 q h.2))

      join_all : (runs : List Segment) (segments : List (List ℕ)) → 0 < length runs → AreRuns t.width (laid ++ squares_under t v) 0 runs
          → AllZip (IsSegment (laid ++ squares_under t v)) runs segments
          → (level : ℕ) × Joined t.width (laid ++ squares_under t v) sides 0 level (joined (signs_between (levels runs)) segments)
          (filter parts (signs_between (levels runs)))
      join_all [] segments h cut z = absurd (omega arith)
      join_all (r ∷ runs) [] h cut z = absurd z
      join_all (r ∷ runs) (s ∷ segments) h cut z = (r.level, join t.width (laid ++ squares_under t v) sides r runs 0 s segments cut z)

      whole_cut : AreRuns t.width laid 0 (before ++ v ∷ after)
      whole_cut = subst (λ (runs : List Segment). AreRuns t.width laid 0 runs) is d.cut

      closes : AllZip (IsSegment (laid ++ squares_under t v)) (nodes ++ v ∷ []) (o.closed ++ valley_of o ∷ [])
      closes = zip_append (IsSegment (laid ++ squares_under t v)) nodes (v ∷ []) o.closed (valley_of o ∷ [])
          (zip_map (IsSegment laid) (IsSegment (laid ++ squares_under t v)) (segment_more laid (squares_under t v)) nodes o.closed d.closed) (
            segment_more laid (squares_under t v) v (valley_of o) (subst (λ (n : ℕ). IsSegment laid v (slice_index_or o.segments n [])) (sym number)
                (zip_at (IsSegment laid) before v after o.segments [] zip)),
            tt,
          )

      hang_all : (squares : List Square) → ((q : Square) → IsOneOf q squares → IsOneOf q (squares_under t v))
          → AllZip (Hangs (nodes ++ v ∷ [])) squares (replicate (length squares) (length o.closed))
      hang_all [] f = tt
      hang_all (q ∷ squares) f = (
        (v, (λ i. slice_get (nodes ++ v ∷ []) (counts (i))) ∙ get_last nodes v [], u.level, u.left, u.right),
        hang_all squares (λ r h. f r (inr h)),
      )
        where
          counts : length o.closed ≡ length nodes
          counts = sym (zip_length (IsSegment laid) nodes o.closed d.closed)

          u : IsUnder v q
          u = is_under t laid v tiling fills found low q (f q (inl refl))

      hangs : AllZip (Hangs (nodes ++ v ∷ [])) (laid ++ squares_under t v) (o.hung ++ replicate (length (squares_under t v)) (length o.closed))
      hangs = zip_append (Hangs (nodes ++ v ∷ [])) laid (squares_under t v) o.hung (replicate (length (squares_under t v)) (length o.closed))
          (zip_map (Hangs nodes) (Hangs (nodes ++ v ∷ [])) (hangs_more nodes (v ∷ [])) laid o.hung d.hung) (hang_all (squares_under t v) (λ q h. h))

      depicts : Depicts t (laid ++ squares_under t v) (nodes ++ v ∷ []) (after_move o (move_under t laid v))
      depicts = record {
        runs = j.first ∷ j.more;
        cut = j.cut;
        segments = subst (λ (signs : List Sign). AllZip (IsSegment (laid ++ squares_under t v)) (j.first ∷ j.more)
            (joined signs (segments_apart o (move_under t laid v)))) (sym new_signs) j.depicts;
        signs = ap (filter parts) new_signs ∙ j.between;
        parted = parts_filter (signs_apart o (move_under t laid v));
        closed = closes;
        hung = hangs;
      }
        where
          joins : (level : ℕ) × Joined t.width (laid ++ squares_under t v) sides 0 level
              (joined (signs_between (levels (before ++ map run_under_a_square (squares_under t v) ++ after))) (segments_apart o (move_under t laid v)))
              (filter parts (signs_between (levels (before ++ map run_under_a_square (squares_under t v) ++ after))))
          joins = join_all (before ++ map run_under_a_square (squares_under t v) ++ after) (segments_apart o (move_under t laid v))
              (omega (
                arith,
                length-append (before ++ map run_under_a_square (squares_under t v)) after,
                length-append before (map run_under_a_square (squares_under t v)),
                length-map (squares_under t v) run_under_a_square,
                some,
              ))
              (runs_new_all t laid v tiling fills found low 0 before after whole_cut) new_zip

          j : Joined t.width (laid ++ squares_under t v) sides 0 joins.0
              (joined (signs_between (levels (before ++ map run_under_a_square (squares_under t v) ++ after))) (segments_apart o (move_under t laid v)))
              (filter parts (signs_between (levels (before ++ map run_under_a_square (squares_under t v) ++ after))))
          j = joins.1

-- after the move under the leftmost valley, which is legal, the outline depicts what is laid then
pub move_depicts : MoveDepicts
move_depicts t laid nodes o v tiling fills d found low = (
  is_legal t laid v tiling fills found low nodes o d s.before s.after s.is number s.left s.right,
  depicts t laid v tiling fills found low nodes o d s.before s.after s.is number s.left s.right,
)
  where
    s : Stands t.width laid d.runs v
    s = valley_stands t laid nodes o v tiling d found

    number : valley_place o.signs ≡ length s.before
    number = ap valley_place d.signs ∙ s.number

-- the outline at the start depicts that nothing is laid
pub start_depicts_nothing : StartDepictsNothing
start_depicts_nothing t tiling =
    record {
      runs = top ∷ [];
      cut = (refl, record { some = wide_enough t tiling; within = omega arith; level = λ c a b. refl }, omega arith);
      segments = (inr (refl, refl), tt);
      signs = refl;
      parted = tt;
      closed = tt;
      hung = tt;
    }
  where
    top : Segment
    top = record { x = 0; width = t.width; level = 0 }
