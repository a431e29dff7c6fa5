-- One move of the placing, seen in the lists that the code keeps: the numbers of the valley's squares, and the gap over which they stand.
use Rattle.std.specs.List.{AllByRecursion}
use Rattle.std.proofs.Common.{List, [], ap, arith, drop, inl, inr, length, map, refl, slice_index_or, subst, sum, sym, take, ℕ, ◌*◌, ◌++◌, ◌+◌, ◌-◌, ◌<◌}
use Rattle.std.proofs.Common.{◌^◌, ◌∙◌, ◌∷◌, ◌≡◌, ◌≤◌}
use Rattle.std.proofs.lemmas.List.Sums.{sum_by-cons}
use Rattle.std.proofs.lemmas.List.{append_assoc, drop_at, length-append, take_at}
use Rattle.bk_laws.proofs.AllOfLists.{all_left, all_right}
use Rattle.bk_laws.proofs.ListParts.{take-drop_middle}
use Rattle.bk_tiling.specs.KeptTiling.{IsSide}
use Rattle.bk_tiling.specs.SquareGroups.{laid_group}
use Rattle.bk_tiling.specs.declared.Segment.{Segment}
use Rattle.bk_tiling.specs.declared.Square.{Square}
use Rattle.bk_word.specs.Outline.{Outline, valley_of}
use Rattle.bk_word.specs.declared.Sign.{Sign}
use Rattle.bk_lay.proofs.LaidRuns.{one_of}
use Rattle.bk_lay.proofs.Valleys.{one_leftmost_valley}
use Rattle.bk_lay.specs.Depiction.{Span}
use Rattle.bk_lay.specs.TilingWord.{depth_before, depth_from, signs_between}
use Rattle.bk_word_net.proofs.Outlines.NumberedSquares.{numbered_square}
use Rattle.bk_word_net.proofs.Outlines.NumberedValley.{Sees, open_parts, sees}
use Rattle.bk_skel.specs.PartlyLaid.{CanLay, IsFittingGap, columns_of}
use Rattle.bk_word_net.specs.LaidOutline.{FillsValley, IsNumber, StandsOver, back_of, bottom_at, front_of, square_at}

-- a span is as wide as the sides of its squares sum to
pub span_columns : (laid : List Square) (level x : ℕ) (numbers : List ℕ) (end : ℕ) → Span laid level x numbers end → x + columns_of laid numbers ≡ end
span_columns laid level x [] end s = omega (arith, s)
span_columns laid level x (n ∷ numbers) end s =
    omega (
      arith,
      sum_by-cons (λ (m : ℕ). (square_at laid m).s) n numbers,
      span_columns laid level (x + (s.0).s) numbers end s.4,
      ap (λ (q : Square). q.s) (numbered_square laid n s.0 s.1),
    )

-- squares over the gap: the first begins at its left edge, they are as wide together as the gap, and end at its level
pub gap_some : (width : ℕ) (laid : List Square) (numbers : List ℕ) (v : Segment) → 0 < length numbers → IsFittingGap width laid numbers v
    → ((square_at laid (slice_index_or numbers 0 0)).x ≡ v.x) × (columns_of laid numbers ≡ v.width) × (bottom_at laid (slice_index_or numbers 0 0) ≡ v.level)
gap_some width laid [] v h f = absurd (omega arith)
gap_some width laid (n ∷ numbers) v h f = cases f.gap
  where
    not_nil : n ∷ numbers ≡ [] → ⊥
    not_nil e = cc

    cases : StandsOver width laid (n ∷ numbers) v → ((square_at laid n).x ≡ v.x) × (columns_of laid (n ∷ numbers) ≡ v.width) × (bottom_at laid n ≡ v.level)
    cases (inl s) = (
      ap (λ (q : Square). q.x) (numbered_square laid n s.0 s.1) ∙ s.2,
      omega (arith, span_columns laid v.level v.x (n ∷ numbers) (v.x + v.width) s),
      ap (λ (q : Square). q.y + q.s) (numbered_square laid n s.0 s.1) ∙ s.3,
    )
    cases (inr top) = absurd (not_nil top.0)

module _ (width : ℕ) (laid : List Square) (numbers : List ℕ) (first end : ℕ) (signs : List Sign) (new : List ℕ) (o : Outline)
    (c : CanLay (record { width = width; laid = laid; numbers = numbers }) (record { first = first; end = end; signs = signs; sides = new }) o) where
  abbrev seen : Sees width laid o
  seen = sees width laid o ((c.partly).shows) ((c.partly).some)

  -- the gap
  abbrev pub valley_gap : Segment
  valley_gap = (sees width laid o ((c.partly).shows) ((c.partly).some)).valley

  -- the numbers by parts: in front of the valley, those of the valley, and behind it
  pub parts : numbers ≡ front_of o ++ (valley_of o ++ back_of o)
  parts = (c.partly).numbers_are ∙ open_parts o

  -- the numbers in front of the valley, in it and behind it are those of squares
  pub known_numbers : AllByRecursion (IsNumber laid) (front_of o ++ (valley_of o ++ back_of o))
  known_numbers = subst (AllByRecursion (IsNumber laid)) parts (c.partly).known

  -- the valley ends no sooner than it begins
  pub order : first ≤ end
  order = omega (arith, c.first_is, c.end_is)

  -- the valley ends within the numbers
  pub within : end ≤ length numbers
  within = omega (arith, c.end_is, ap length parts, length-append (front_of o) (valley_of o ++ back_of o), length-append (valley_of o) (back_of o))

  -- the valley is cut out between the two places
  pub valley_is : take (end - first) (drop first numbers) ≡ valley_of o
  valley_is = ap (λ (ns : List ℕ). take (end - first) (drop first ns)) parts
      ∙ take-drop_middle (front_of o) (valley_of o) (back_of o) first (end - first) c.first_is (omega (arith, c.first_is, c.end_is))

  -- what stands in front of it
  pub front_is : take first numbers ≡ front_of o
  front_is = ap (take first) parts ∙ take_at (front_of o) (valley_of o ++ back_of o) first (sym c.first_is)

  -- what stands behind the valley
  pub back_is : drop end numbers ≡ back_of o
  back_is = ap (drop end) (parts ∙ sym (append_assoc (front_of o) (valley_of o) (back_of o)))
      ∙ drop_at (front_of o ++ valley_of o) (back_of o) end (omega (arith, c.end_is, length-append (front_of o) (valley_of o)))

  flat_within : valley_gap.x + valley_gap.width ≤ width
  flat_within = (((seen.found).valley).flat).within

  some_width : 0 < valley_gap.width
  some_width = (((seen.found).valley).flat).some

  -- the gap is no deeper than so many squares reach
  pub low_level : (ns : List ℕ) → StandsOver width laid ns valley_gap → valley_gap.level ≤ 999_999_999_999_999 * length laid
  low_level ns (inr top) = omega (arith, ap (λ (v : Segment). v.level) top.1)
  low_level [] (inl s) = absurd (omega (arith, s, some_width))
  low_level (n ∷ ns) (inl s) = omega (arith, s.3, (c.partly).low s.0 (one_of laid (s.1).0 s.0 (s.1).2))

  few : length laid ≤ 200
  few = omega (arith, c.room)

  level_small : valley_gap.level ≤ 999_999_999_999_999 * 200
  level_small = omega (arith, low_level (valley_of o) seen.gap, few)

  -- the gap fits the numbers of the valley
  pub fitting : IsFittingGap width laid (take (end - first) (drop first numbers)) valley_gap
  fitting = subst (λ (ns : List ℕ). IsFittingGap width laid ns valley_gap) (sym valley_is) (record {
    gap = seen.gap;
    some = some_width;
    known = all_left (IsNumber laid) (valley_of o) (back_of o) (all_right (IsNumber laid) (front_of o) (valley_of o ++ back_of o) known_numbers);
    fits = omega (arith, flat_within, (c.partly).narrow);
    low = omega (arith, level_small);
  })

  -- the new sides fit into the gap
  pub new_sides_fit : sum new ≡ valley_gap.width → valley_gap.x + sum new < 2 ^ 63
  new_sides_fit e = omega (arith, e, flat_within, (c.partly).narrow)

  -- the move fills no valley but this gap
  pub only : (v : Segment) → FillsValley width laid (record { count = length new; signs = signs }) new v → v ≡ valley_gap
  only v fills = one_leftmost_valley width laid v valley_gap fills.found seen.found

  positive : (sides : List ℕ) → AllByRecursion IsSide sides → AllByRecursion (λ s. 0 < s) sides
  positive [] a = tt
  positive (s ∷ sides) a = ((a.0).0, positive sides a.1)

  -- it fills the gap where the sides are as wide together, and its signs compare the bottoms
  pub fills_gap : sum new ≡ valley_gap.width → signs ≡ signs_between
      (depth_before laid valley_gap.x ++ map (λ q. q.y + q.s) (laid_group valley_gap.x valley_gap.level new)
      ++ depth_from width laid (valley_gap.x + valley_gap.width))
      → FillsValley width laid (record { count = length new; signs = signs }) new valley_gap
  fills_gap e f = record { found = seen.found; count = refl; some = (c.legal).some; positive = positive new c.sides; fills = e; signs = f }

  -- the signs of a move that fills a valley do
  pub signs_as : (v : Segment) → FillsValley width laid (record { count = length new; signs = signs }) new v
      → signs ≡ signs_between (depth_before laid valley_gap.x ++ map (λ q. q.y + q.s) (laid_group valley_gap.x valley_gap.level new)
      ++ depth_from width laid (valley_gap.x + valley_gap.width))
  signs_as v t = t.signs ∙ ap (λ (w : Segment). signs_between
      (depth_before laid w.x ++ map (λ q. q.y + q.s) (laid_group w.x w.level new) ++ depth_from width laid (w.x + w.width))) (only v t)

  -- the gap fits the numbers of the valley, for lists as the code names them
  pub fitting_as : (seen_laid : List Square) (seen_numbers : List ℕ) → seen_laid ≡ laid → seen_numbers ≡ numbers
      → IsFittingGap width seen_laid (take (end - first) (drop first seen_numbers)) valley_gap
  fitting_as seen_laid seen_numbers e f = subst (λ (l : List Square). IsFittingGap width l (take (end - first) (drop first seen_numbers)) valley_gap) (sym e)
      (subst (λ (ns : List ℕ). IsFittingGap width laid (take (end - first) (drop first ns)) valley_gap) (sym f) fitting)
