-- What is seen of an outline that shows what is laid by the numbers of its open squares alone, from left to right: the
-- squares of the leftmost valley stand side by side among them, and the bottoms beside them are the depths there.
use Rattle.std.specs.List.{AllZip, concat}
use Rattle.std.proofs.Common.{List, [], ap, arith, drop, inl, inr, length, map, nat_eq, refl, slice_index_or, subst, suc, sym, take, ℕ, ◌++◌, ◌+◌}
use Rattle.std.proofs.Common.{◌<◌, ◌∙◌, ◌∷◌, ◌≡◌, ◌⊎◌}
use Rattle.std.proofs.lemmas.List.{append-nil, append_assoc}
use Rattle.std.proofs.lemmas.List.Folds.{concat-append}
use Rattle.bk_laws.proofs.ZippedLists.{zip_after, zip_at, zip_before, zip_length}
use Rattle.bk_laws.proofs.ListItems.{concat-cut_at}
use Rattle.bk_laws.proofs.ListsOfLists.{concat-singletons}
use Rattle.bk_tiling.specs.Column.{AreRuns, IsLevel, depth}
use Rattle.bk_tiling.specs.SquareGroups.{laid_group}
use Rattle.bk_tiling.specs.declared.Segment.{Segment}
use Rattle.bk_tiling.specs.declared.Square.{Square}
use Rattle.bk_word.specs.Outline.{IsLegalMove, Outline, has_left_wall, has_right_wall, open_side, start, valley_of, valley_place}
use Rattle.bk_word.specs.Play.{after_move, new_squares, segments_apart, signs_apart}
use Rattle.bk_word.specs.Word.{Move}
use Rattle.bk_lay.proofs.Depicting.{left_count, right_count}
use Rattle.bk_lay.proofs.Joining.{levels}
use Rattle.bk_lay.proofs.Places.{HasFirst, HasLast, Placed, depth_from_end}
use Rattle.bk_lay.proofs.Valleys.{one_leftmost_valley}
use Rattle.bk_word.specs.declared.Sign.{Sign}
use Rattle.bk_lay.specs.Depiction.{IsSegment, Span}
use Rattle.bk_lay.specs.TilingWord.{IsLeftmostValley, depth_before, depth_from}
use Rattle.bk_word_net.proofs.Outlines.BottomChain.{concat-joined}
use Rattle.bk_word_net.proofs.Outlines.RunsAfterMove.{fills_total, first_is, last_is, level_signs, number_levels, one_run, place_in, runs_at}
use Rattle.bk_word_net.proofs.Outlines.ShownOutline.{shows_move}
use Rattle.bk_word_net.specs.LaidOutline.{FillsValley, ShowsLaid, StandsOver, back_of, bottom_at, front_of}
use Rattle.bk_word_net.proofs.Outlines.NumberedSquares.{SpanLast, ZipLast, numbered_bottom, segment_span, span_some, zip_last}

-- what is seen at the left and at the right of the valley
pub record SeesLeft (laid : List Square) (front depths : List ℕ) : Type 0 where
  pub shape : ((front ≡ []) × (depths ≡ [])) ⊎ ((ns : List ℕ) × ((n : ℕ) × ((front ≡ ns ++ n ∷ []) × (depths ≡ bottom_at laid n ∷ []))))

-- what is seen at the right of the valley: no square at the wall, else a first one, with its bottom
pub record SeesRight (laid : List Square) (back depths : List ℕ) : Type 0 where
  pub shape : ((back ≡ []) × (depths ≡ [])) ⊎ ((n : ℕ) × ((ns : List ℕ) × ((back ≡ n ∷ ns) × (depths ≡ bottom_at laid n ∷ []))))

-- the open squares, as those before, in and behind the valley
pub open_parts : (o : Outline) → concat o.segments ≡ front_of o ++ (valley_of o ++ back_of o)
open_parts o = concat-cut_at (valley_place o.signs) o.segments

-- after a move the new ones stand in the valley's place
pub open_after : (o : Outline) (m : Move) → concat (after_move o m).segments ≡ (front_of o ++ new_squares o m) ++ back_of o
open_after o m = concat-joined (signs_apart o m) (segments_apart o m)
    ∙ concat-append (take (valley_place o.signs) o.segments ++ map (λ q. q ∷ []) (new_squares o m)) (drop (valley_place o.signs + 1) o.segments)
    ∙ (λ i. (concat-append (take (valley_place o.signs) o.segments) (map (λ q. q ∷ []) (new_squares o m)) i) ++ concat (drop (same i) o.segments))
    ∙ ap (λ (ns : List ℕ). (concat (take (valley_place o.signs) o.segments) ++ ns) ++ concat (drop (suc (valley_place o.signs)) o.segments))
    (concat-singletons (new_squares o m))
  where
    same : valley_place o.signs + 1 ≡ suc (valley_place o.signs)
    same = omega arith

-- all that is seen
pub record Sees (width : ℕ) (laid : List Square) (o : Outline) : Type 0 where
  pub valley : Segment
  pub found : IsLeftmostValley width laid valley
  pub gap : StandsOver width laid (valley_of o) valley
  pub left : SeesLeft laid (front_of o) (depth_before laid valley.x)
  pub right : SeesRight laid (back_of o) (depth_from width laid (valley.x + valley.width))
  pub empty : valley_of o ≡ [] → (front_of o ≡ []) × (back_of o ≡ [])
  pub signs : (m : Move) → IsLegalMove o m → length m.signs + 1
      ≡ length (depth_before laid valley.x) + m.count + length (depth_from width laid (valley.x + valley.width))

module _ (width : ℕ) (laid : List Square) (o : Outline) (s : ShowsLaid width laid o) (before : List Segment) (v : Segment)
    (after : List Segment) (is : s.runs ≡ before ++ v ∷ after)
    (found : IsLeftmostValley width laid v) (number : valley_place o.signs ≡ length before)
    (left : ((before ≡ []) × (v.x ≡ 0)) ⊎ HasLast laid v.x before) (right : ((after ≡ []) × (v.x + v.width ≡ width))
    ⊎ HasFirst width laid (v.x + v.width) after) where
  zipped : AllZip (IsSegment laid) (before ++ v ∷ after) o.segments
  zipped = subst (λ (runs : List Segment). AllZip (IsSegment laid) runs o.segments) is s.segments

  cut : AreRuns width laid 0 (before ++ v ∷ after)
  cut = subst (AreRuns width laid 0) is s.cut

  flat : IsLevel width laid v
  flat = (found.valley).flat

  signs : (m : Move) → IsLegalMove o m → length m.signs + 1 ≡ length (depth_before laid v.x) + m.count + length (depth_from width laid (v.x + v.width))
  signs m legal = omega (arith, legal.signs, a, b)
    where
      a : open_side (has_left_wall o) ≡ length (depth_before laid v.x)
      a = ap (λ (n : ℕ). open_side (nat_eq n 0)) (number_levels width laid o s before v after is found number left right)
          ∙ left_count (levels before) (depth_before laid v.x) (last_is width laid o s before v after is found number left right)

      b : open_side (has_right_wall o) ≡ length (depth_from width laid (v.x + v.width))
      b = ap (λ (signs : List Sign). open_side (nat_eq (valley_place o.signs) (length signs)))
          (level_signs width laid o s before v after is found number left right)
          ∙ right_count (valley_place o.signs) (levels before) v.level (levels after) (depth_from width laid (v.x + v.width))
          (first_is width laid o s before v after is found number left right)
          (number_levels width laid o s before v after is found number left right)

  -- where nothing is laid
  at_start : laid ≡ [] → o ≡ start → Sees width laid o
  at_start none first = record {
    valley = v;
    found = found;
    gap = inr (ap valley_of first, top);
    left = record { shape = inl (ap front_of first, ap (depth_before laid) whole.0) };
    right = record { shape = inl (ap back_of first, depth_from_end width laid (v.x + v.width) (omega (arith, whole.0, whole.1))) };
    empty = λ e. (ap front_of first, ap back_of first);
    signs = signs;
  }
    where
      one : length s.runs ≡ 1
      one = zip_length (IsSegment laid) s.runs o.segments s.segments ∙ ap (λ (p : Outline). length p.segments) first

      whole : (v.x ≡ 0) × (v.width ≡ width)
      whole = one_run width laid before v after cut (sym (ap length is) ∙ one)

      level : v.level ≡ 0
      level = sym (flat.level v.x (omega arith) (omega (arith, flat.some))) ∙ ap (λ (l : List Square). depth l v.x) none

      top : v ≡ record { x = 0; width = width; level = 0 }
      top = λ i. record { x = whole.0 i; width = whole.1 i; level = level i }

  -- once something is laid
  begun : ((c : ℕ) → c < width → 0 < depth laid c) → Sees width laid o
  begun deep = record {
    valley = v;
    found = found;
    gap = inl own;
    left = record { shape = at_left left };
    right = record { shape = at_right right };
    empty = λ e. absurd (omega (arith, flat.some, subst (λ (ns : List ℕ). Span laid v.level v.x ns (v.x + v.width)) e own));
    signs = signs;
  }
    where
      own : Span laid v.level v.x (valley_of o) (v.x + v.width)
      own = segment_span width laid deep v (valley_of o) flat
          (subst (λ (n : ℕ). IsSegment laid v (slice_index_or o.segments n [])) (sym number) (zip_at (IsSegment laid) before v after o.segments [] zipped))

      fronts : AllZip (IsSegment laid) before (take (valley_place o.signs) o.segments)
      fronts = subst (λ (n : ℕ). AllZip (IsSegment laid) before (take n o.segments)) (sym number) (zip_before (IsSegment laid) before v after o.segments zipped)

      backs : AllZip (IsSegment laid) after (drop (suc (valley_place o.signs)) o.segments)
      backs = subst (λ (n : ℕ). AllZip (IsSegment laid) after (drop (suc n) o.segments)) (sym number)
          (zip_after (IsSegment laid) before v after o.segments zipped)

      none_left : (us : List (List ℕ)) → AllZip (IsSegment laid) before us → before ≡ [] → concat us ≡ []
      none_left [] z e = refl
      none_left (u ∷ us) z e = absurd (subst (λ (l : List Segment). AllZip (IsSegment laid) l (u ∷ us)) e z)

      none_right : (us : List (List ℕ)) → AllZip (IsSegment laid) after us → after ≡ [] → concat us ≡ []
      none_right [] z e = refl
      none_right (u ∷ us) z e = absurd (subst (λ (l : List Segment). AllZip (IsSegment laid) l (u ∷ us)) e z)

      at_left : ((before ≡ []) × (v.x ≡ 0)) ⊎ HasLast laid v.x before → ((front_of o ≡ []) × (depth_before laid v.x ≡ []))
          ⊎ ((ns : List ℕ) × ((n : ℕ) × ((front_of o ≡ ns ++ n ∷ []) × (depth_before laid v.x ≡ bottom_at laid n ∷ []))))
      at_left (inl (none, at)) = inl (none_left (take (valley_place o.signs) o.segments) fronts none, ap (depth_before laid) at)
      at_left (inr h) = from (zip_last (IsSegment laid) h.front h.last (take (valley_place o.signs) o.segments)
          (subst (λ (l : List Segment). AllZip (IsSegment laid) l (take (valley_place o.signs) o.segments)) h.is fronts))
        where
          there : IsLevel width laid h.last
          there = runs_at width laid 0 h.front h.last (v ∷ after)
              (subst (AreRuns width laid 0) (ap (λ (l : List Segment). l ++ v ∷ after) h.is ∙ append_assoc h.front (h.last ∷ []) (v ∷ after)) cut)

          from : ZipLast (IsSegment laid) h.last (take (valley_place o.signs) o.segments)
              → ((front_of o ≡ []) × (depth_before laid v.x ≡ []))
              ⊎ ((ns : List ℕ) × ((n : ℕ) × ((front_of o ≡ ns ++ n ∷ []) × (depth_before laid v.x ≡ bottom_at laid n ∷ []))))
          from z = ends (span_some laid (h.last).level (h.last).x z.last ((h.last).x + (h.last).width)
              (let some = there.some in omega arith) (segment_span width laid deep h.last z.last there z.here))
            where
              ends : SpanLast laid (h.last).level z.last → ((front_of o ≡ []) × (depth_before laid v.x ≡ []))
                  ⊎ ((ns : List ℕ) × ((n : ℕ) × ((front_of o ≡ ns ++ n ∷ []) × (depth_before laid v.x ≡ bottom_at laid n ∷ []))))
              ends e = inr (
                concat z.front ++ e.front,
                (
                  e.last,
                  (
                    ap concat z.is ∙ concat-append z.front (z.last ∷ [])
                        ∙ ap (λ (ns : List ℕ). concat z.front ++ ns) (append-nil z.last ∙ e.is) ∙ sym (append_assoc (concat z.front) e.front (e.last ∷ [])),
                    h.level ∙ ap (λ (l : ℕ). l ∷ []) (sym e.bottom),
                  ),
                ),
              )

      at_right : ((after ≡ []) × (v.x + v.width ≡ width)) ⊎ HasFirst width laid (v.x + v.width) after
          → ((back_of o ≡ []) × (depth_from width laid (v.x + v.width) ≡ []))
          ⊎ ((n : ℕ) × ((ns : List ℕ) × ((back_of o ≡ n ∷ ns) × (depth_from width laid (v.x + v.width) ≡ bottom_at laid n ∷ []))))
      at_right (inl (none, at)) = inl (none_right (drop (suc (valley_place o.signs)) o.segments) backs none, depth_from_end width laid (v.x + v.width) at)
      at_right (inr h) = from (drop (suc (valley_place o.signs)) o.segments)
          (subst (λ (l : List Segment). AllZip (IsSegment laid) l (drop (suc (valley_place o.signs)) o.segments)) h.is backs)
        where
          there : IsLevel width laid h.first
          there = runs_at width laid 0 (before ++ v ∷ []) h.first h.back
              (subst (AreRuns width laid 0) (ap (λ (l : List Segment). before ++ v ∷ l) h.is ∙ sym (append_assoc before (v ∷ []) (h.first ∷ h.back))) cut)

          from : (us : List (List ℕ)) → AllZip (IsSegment laid) (h.first ∷ h.back) us
              → ((concat us ≡ []) × (depth_from width laid (v.x + v.width) ≡ []))
              ⊎ ((n : ℕ) × ((ns : List ℕ) × ((concat us ≡ n ∷ ns) × (depth_from width laid (v.x + v.width) ≡ bottom_at laid n ∷ []))))
          from [] z = absurd z
          from (u ∷ us) z = first u (segment_span width laid deep h.first u there z.0)
            where
              first : (u : List ℕ) → Span laid (h.first).level (h.first).x u ((h.first).x + (h.first).width)
                  → ((u ++ concat us ≡ []) × (depth_from width laid (v.x + v.width) ≡ []))
                  ⊎ ((n : ℕ) × ((ns : List ℕ) × ((u ++ concat us ≡ n ∷ ns) × (depth_from width laid (v.x + v.width) ≡ bottom_at laid n ∷ []))))
              first [] span = absurd (omega (arith, there.some, span))
              first (n ∷ ns) span = inr (
                n,
                (
                  ns ++ concat us,
                  (refl, h.level ∙ ap (λ (l : ℕ). l ∷ []) (sym span.3 ∙ sym (numbered_bottom laid n span.0 span.1))),
                ),
              )

-- an outline that shows what is laid shows its leftmost valley so
pub sees : (width : ℕ) (laid : List Square) (o : Outline) → ShowsLaid width laid o → 0 < width → Sees width laid o
sees width laid o s wide = cases s.begun
  where
    p : Placed width laid 0 s.runs
    p = place_in width laid o s wide

    number : valley_place o.signs ≡ length p.before
    number = ap valley_place s.signs ∙ p.number

    cases : ((laid ≡ []) × (o ≡ start)) ⊎ ((c : ℕ) → c < width → 0 < depth laid c) → Sees width laid o
    cases (inl (none, first)) = at_start width laid o s p.before p.valley p.after p.is p.leftmost number p.left p.right none first
    cases (inr deep) = begun width laid o s p.before p.valley p.after p.is p.leftmost number p.left p.right deep

-- where a valley is filled, the outline after the move shows what is laid then
pub shows_filled : (width : ℕ) (laid : List Square) (o : Outline) → ShowsLaid width laid o → 0 < width
    → (m : Move) (new : List ℕ) (v : Segment) → FillsValley width laid m new v → ShowsLaid width (laid ++ laid_group v.x v.level new) (after_move o m)
shows_filled width laid o s wide m new v filled =
    shows_move width laid o s p.before v p.after is filled.found number left right m new filled.count filled.some filled.positive
    (fills_total width laid m new v filled) filled.signs
  where
    p : Placed width laid 0 s.runs
    p = place_in width laid o s wide

    same : p.valley ≡ v
    same = one_leftmost_valley width laid p.valley v p.leftmost filled.found

    is : s.runs ≡ p.before ++ v ∷ p.after
    is = p.is ∙ ap (λ (w : Segment). p.before ++ w ∷ p.after) same

    number : valley_place o.signs ≡ length p.before
    number = ap valley_place s.signs ∙ p.number

    left : ((p.before ≡ []) × (v.x ≡ 0)) ⊎ HasLast laid v.x p.before
    left = subst (λ (w : Segment). ((p.before ≡ []) × (w.x ≡ 0)) ⊎ HasLast laid w.x p.before) same p.left

    right : ((p.after ≡ []) × (v.x + v.width ≡ width)) ⊎ HasFirst width laid (v.x + v.width) p.after
    right = subst (λ (w : Segment). ((p.after ≡ []) × (w.x + w.width ≡ width)) ⊎ HasFirst width laid (w.x + w.width) p.after) same p.right
