-- The level runs after squares are laid in the leftmost valley, and the signs between them.
use Rattle.std.specs.List.{AllByRecursion, AllZip}
use Rattle.std.proofs.Common.{List, [], ap, arith, drop, inl, inr, length, map, refl, subst, sym, take, true, ℕ, ◌++◌, ◌+◌, ◌-◌, ◌<◌, ◌∙◌, ◌∷◌, ◌≡◌}
use Rattle.std.proofs.Common.{◌≤◌, ◌⊎◌}
use Rattle.std.proofs.lemmas.List.{length-append, length-map, map-append}
use Rattle.bk_laws.proofs.Totals.{sum_is_total, total}
use Rattle.bk_tiling.proofs.Group.{group_sides, group_within}
use Rattle.bk_tiling.proofs.FilledGroup.{depth_beside, depth_under}
use Rattle.bk_tiling.specs.Column.{AreRuns, IsLevel, depth}
use Rattle.bk_tiling.specs.SquareGroups.{laid_group}
use Rattle.bk_tiling.specs.Tiling.{IsOneOf}
use Rattle.bk_tiling.specs.declared.Segment.{Segment}
use Rattle.bk_tiling.specs.declared.Square.{Square}
use Rattle.bk_word.specs.Outline.{Outline, start, valley_place}
use Rattle.bk_word.specs.Play.{parts, signs_apart}
use Rattle.bk_word.specs.Word.{Move}
use Rattle.bk_word.specs.declared.Sign.{Sign}
use Rattle.bk_lay.proofs.Depicting.{FirstIs, LastIs, signs_new}
use Rattle.bk_lay.proofs.Joining.{levels}
use Rattle.bk_lay.proofs.Places.{HasFirst, HasLast, Placed, depth_from_end, placed}
use Rattle.bk_lay.proofs.LaidRuns.{levels_of_runs_are_the_bottoms, run_under_a_square}
use Rattle.bk_lay.specs.Depiction.{IsSegment}
use Rattle.bk_lay.specs.TilingWord.{IsLeftmostValley, depth_before, depth_from, signs_between}
use Rattle.bk_word_net.specs.LaidOutline.{FillsValley, ShowsLaid}

-- the new sides sum to the valley's width
pub fills_total : (width : ℕ) (laid : List Square) (m : Move) (new : List ℕ) (v : Segment) → FillsValley width laid m new v → total new ≡ v.width
fills_total width laid m new v filled = sym (sum_is_total new) ∙ filled.fills

-- at the start the top is shown
pub shows_start : (width : ℕ) → 0 < width → ShowsLaid width [] start
shows_start width wide = record {
  runs = record { x = 0; width = width; level = 0 } ∷ [];
  cut = (refl, record { some = wide; within = omega arith; level = λ c a b. refl }, omega arith);
  segments = (inr (refl, refl), tt);
  signs = refl;
  parted = tt;
  count = refl;
  filled = λ c j a b. absurd (omega arith);
  inside = λ q h. absurd h;
  begun = inl (refl, refl);
}

-- a run of the level runs is level
pub runs_at : (width : ℕ) (laid : List Square) (x : ℕ) (front : List Segment) (r : Segment) (back : List Segment)
    → AreRuns width laid x (front ++ r ∷ back) → IsLevel width laid r
runs_at width laid x [] r back cut = cut.1
runs_at width laid x (u ∷ front) r back cut = runs_at width laid (x + u.width) front r back cut.2

-- one run alone is the whole width
pub one_run : (width : ℕ) (laid : List Square) (before : List Segment) (v : Segment) (after : List Segment)
    → AreRuns width laid 0 (before ++ v ∷ after) → length (before ++ v ∷ after) ≡ 1 → (v.x ≡ 0) × (v.width ≡ width)
one_run width laid [] v [] cut one = (cut.0, omega (arith, cut.2))
one_run width laid [] v (r ∷ after) cut one = absurd (omega arith)
one_run width laid (r ∷ before) v after cut one = absurd (omega (arith, one, length-append before (v ∷ after)))

-- the leftmost valley among the runs
abbrev pub place_in : (width : ℕ) (laid : List Square) (o : Outline) (s : ShowsLaid width laid o) → 0 < width → Placed width laid 0 s.runs
place_in width laid o s wide = placed width laid s.runs wide s.cut
    (subst (λ (signs : List Sign). AllByRecursion (λ sign. parts sign ≡ true) signs) s.signs s.parted)

module _ (width : ℕ) (laid : List Square) (o : Outline) (s : ShowsLaid width laid o) (before : List Segment) (v : Segment)
    (after : List Segment) (is : s.runs ≡ before ++ v ∷ after)
    (found : IsLeftmostValley width laid v) (number : valley_place o.signs ≡ length before)
    (left : ((before ≡ []) × (v.x ≡ 0)) ⊎ HasLast laid v.x before) (right : ((after ≡ []) × (v.x + v.width ≡ width))
    ⊎ HasFirst width laid (v.x + v.width) after) where
  -- runs and segments go together, before, at and behind the valley
  pub zip : AllZip (IsSegment laid) (before ++ v ∷ after) o.segments
  zip = subst (λ (runs : List Segment). AllZip (IsSegment laid) runs o.segments) is s.segments

  -- the signs compare the runs' levels
  pub level_signs : o.signs ≡ signs_between (levels before ++ v.level ∷ levels after)
  level_signs = s.signs ∙ ap (λ runs. signs_between (levels runs)) is ∙ ap signs_between (map-append (λ r. r.level) before (v ∷ after))

  -- the valley's place is the number of runs before it
  pub number_levels : valley_place o.signs ≡ length (levels before)
  number_levels = number ∙ sym (length-map before (λ r. r.level))

  -- the level just before the valley
  pub last_is : LastIs (levels before) (depth_before laid v.x)
  last_is = record { shape = cases left }
    where
      cases : ((before ≡ []) × (v.x ≡ 0)) ⊎ HasLast laid v.x before → ((levels before ≡ []) × (depth_before laid v.x ≡ []))
          ⊎ ((front : List ℕ) × (l : ℕ) × (levels before ≡ front ++ l ∷ []) × (depth_before laid v.x ≡ l ∷ []))
      cases (inl (none, at)) = inl (ap levels none, ap (depth_before laid) at)
      cases (inr h) = inr (levels h.front, (h.last).level, ap levels h.is ∙ map-append (λ r. r.level) h.front (h.last ∷ []), h.level)

  -- the level just behind the valley
  pub first_is : FirstIs (levels after) (depth_from width laid (v.x + v.width))
  first_is = record { shape = cases right }
    where
      cases : ((after ≡ []) × (v.x + v.width ≡ width)) ⊎ HasFirst width laid (v.x + v.width) after
          → ((levels after ≡ []) × (depth_from width laid (v.x + v.width) ≡ []))
          ⊎ ((r : ℕ) × (back : List ℕ) × (levels after ≡ r ∷ back) × (depth_from width laid (v.x + v.width) ≡ r ∷ []))
      cases (inl (none, at)) = inl (ap levels none, depth_from_end width laid (v.x + v.width) at)
      cases (inr h) = inr ((h.first).level, levels h.back, ap levels h.is, h.level)

  module _ (m : Move) (new : List ℕ) (count : length new ≡ m.count) (some : 0 < m.count) (positive : AllByRecursion (λ s. 0 < s) new)
      (fills : total new ≡ v.width)
      (signs : m.signs ≡ signs_between (depth_before laid v.x ++ map (λ q. q.y + q.s) (laid_group v.x v.level new)
      ++ depth_from width laid (v.x + v.width))) where
    -- the valley is level
    pub flat : IsLevel width laid v
    flat = (found.valley).flat

    -- under the new squares is the valley's level
    pub there : (c : ℕ) → v.x ≤ c → c < v.x + total new → depth laid c ≡ v.level
    there c lo hi = flat.level c lo (omega (arith, fills))

    stays : (r : Segment) → IsLevel width laid r → (r.x + r.width ≤ v.x) ⊎ (v.x + v.width ≤ r.x) → IsLevel width (laid ++ laid_group v.x v.level new) r
    stays r own away = record {
      some = own.some;
      within = own.within;
      level =
          λ c lo hi. depth_beside laid v.x v.level new there c (beside c lo hi away) ∙ own.level c lo hi;
    }
      where
        beside : (c : ℕ) → r.x ≤ c → c < r.x + r.width → (r.x + r.width ≤ v.x) ⊎ (v.x + v.width ≤ r.x) → (c < v.x) ⊎ (v.x + total new ≤ c)
        beside c lo hi (inl a) = inl (omega arith)
        beside c lo hi (inr a) = inr (omega (arith, fills))

    runs_after : (x : ℕ) (runs : List Segment) → v.x + v.width ≤ x → AreRuns width laid x runs → AreRuns width (laid ++ laid_group v.x v.level new) x runs
    runs_after x [] h cut = cut
    runs_after x (r ∷ runs) h cut = (cut.0, stays r cut.1 (inr (omega (arith, cut.0))), runs_after (x + r.width) runs (omega arith) cut.2)

    runs_new : (x : ℕ) (sides : List ℕ) → ((q : Square) → IsOneOf q (laid_group x v.level sides) → IsOneOf q (laid_group v.x v.level new))
        → (end : ℕ) → x + total sides ≡ end → (rest : List Segment)
        → AreRuns width (laid ++ laid_group v.x v.level new) end rest
        → AreRuns width (laid ++ laid_group v.x v.level new) x (map run_under_a_square (laid_group x v.level sides) ++ rest)
    runs_new x [] f end c rest cut = subst (λ (y : ℕ). AreRuns width (laid ++ laid_group v.x v.level new) y rest) (omega (arith, c)) cut
    runs_new x (a ∷ sides) f end c rest cut = (refl, own, runs_new (x + a) sides (λ r h. f r (inr h)) end (omega (arith, c)) rest cut)
      where
        q : Square
        q = record { x = x; y = v.level; s = a }

        here : IsOneOf (record { x = x; y = v.level; s = a }) (laid_group v.x v.level new)
        here = f (record { x = x; y = v.level; s = a }) (inl refl)

        own : IsLevel width (laid ++ laid_group v.x v.level new) (run_under_a_square (record { x = x; y = v.level; s = a }))
        own = record {
          some = group_sides v.x v.level new positive (record { x = x; y = v.level; s = a }) here;
          within = let w = flat.within in omega (arith, (group_within v.x v.level new (record { x = x; y = v.level; s = a }) here).1, fills);
          level = λ c lo hi. depth_under laid v.x v.level new there c (record { x = x; y = v.level; s = a }) here lo hi;
        }

    runs_end : (x : ℕ) (before after : List Segment) → AreRuns width laid x (before ++ v ∷ after) → x ≤ v.x
    runs_end x [] after cut = omega (arith, cut.0)
    runs_end x (r ∷ before) after cut = omega (arith, runs_end (x + r.width) before after cut.2)

    -- after the move the columns are cut into the runs before, the new ones, and those behind
    pub runs_all : (x : ℕ) (before after : List Segment) → AreRuns width laid x (before ++ v ∷ after)
        → AreRuns width (laid ++ laid_group v.x v.level new) x (before ++ map run_under_a_square (laid_group v.x v.level new) ++ after)
    runs_all x [] after cut = subst (λ (y : ℕ). AreRuns width (laid ++ laid_group v.x v.level new) y
        (map run_under_a_square (laid_group v.x v.level new) ++ after)) cut.0
        (runs_new v.x new (λ q h. h) (v.x + v.width) (omega (arith, fills)) after
        (subst (λ (y : ℕ). AreRuns width (laid ++ laid_group v.x v.level new) y after) (omega (arith, cut.0))
        (runs_after (x + v.width) after (omega (arith, cut.0)) cut.2)))
    runs_all x (r ∷ before) after cut = (
      cut.0,
      stays r cut.1 (inl (omega (arith, cut.0, runs_end (x + r.width) before after cut.2))),
      runs_all (x + r.width) before after cut.2,
    )

    -- after the move the signs compare the levels of the runs
    pub new_signs : signs_apart o m ≡ signs_between (levels (before ++ map run_under_a_square (laid_group v.x v.level new) ++ after))
    new_signs = (λ i. take (number_levels i - 1) (level_signs i) ++ signs i ++ drop (number_levels i + 1) (level_signs i))
        ∙ signs_new (levels before) (depth_before laid v.x) v.level (levels after) (depth_from width laid (v.x + v.width))
        (map (λ q. q.y + q.s) (laid_group v.x v.level new)) last_is first_is
        ∙ ap signs_between (sym cut)
      where
        cut : levels (before ++ map run_under_a_square (laid_group v.x v.level new) ++ after) ≡ levels before
            ++ map (λ q. q.y + q.s) (laid_group v.x v.level new) ++ levels after
        cut = map-append (λ r. r.level) (before ++ map run_under_a_square (laid_group v.x v.level new)) after
            ∙ ap (λ ls. ls ++ levels after) (map-append (λ r. r.level) before (map run_under_a_square (laid_group v.x v.level new))
            ∙ ap (λ ls. levels before ++ ls) (levels_of_runs_are_the_bottoms (laid_group v.x v.level new)))
