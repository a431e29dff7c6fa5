-- A rectangle of width 33, with sides laid and divided under it.
use Rattle.std.proofs.Common.{List, [], arith, lit<, refl, ℕ, ◌<◌, ◌∷◌, ◌≡◌}
use Rattle.bk_tiling.proofs.ExampleTilings.{rectangle_33x32}
use Rattle.bk_tiling.specs.Column.{depth}
use Rattle.bk_tiling.specs.declared.Segment.{Segment}
use Rattle.bk_tiling.specs.declared.Square.{Square}
use Rattle.bk_code.specs.Code.{code_of}
use Rattle.bk_profile.proofs.GapTest.{by_tests}
use Rattle.bk_profile.proofs.LayingOnce.{lays_push}
use Rattle.bk_profile.specs.OutlineRuns.{run_start, runs_under_group}
use Rattle.bk_profile.specs.Gap.{Divides, FitsGap, IsGap, LaysTo, fits, laid_with_group, misfit, next_group}

-- a segment by its left edge, its width and its level
abbrev pub segment : ℕ → ℕ → ℕ → Segment
segment x width level = record { x = x; width = width; level = level }

-- the group 18, 15
abbrev pub one_group : List Square
one_group = laid_with_group [] (segment 0 33 0) (18 ∷ 15 ∷ [])

-- the groups 18, 15 and 7, 8 under 15
abbrev pub two_groups : List Square
two_groups = laid_with_group one_group (segment 18 15 15) (7 ∷ 8 ∷ [])

-- the groups 18, 15; 7, 8; and 14, 4 under 18
abbrev pub three_groups : List Square
three_groups = laid_with_group two_groups (segment 0 18 18) (14 ∷ 4 ∷ [])

-- the groups 18, 15; 7, 8; 14, 4; and 10, 1 beside 4
abbrev pub four_groups : List Square
four_groups = laid_with_group three_groups (segment 14 11 22) (10 ∷ 1 ∷ [])

-- the first gap is the whole width
pub first_gap : IsGap 33 [] (segment 0 33 0)
first_gap = by_tests _ _ _ refl refl refl refl refl refl

-- the second gap is under the square of side 15
pub second_gap : IsGap 33 one_group (segment 18 15 15)
second_gap = by_tests _ _ _ refl refl refl refl refl refl

-- the third gap is over the first 18 columns, at level 18
pub third_gap : IsGap 33 two_groups (segment 0 18 18)
third_gap = by_tests _ _ _ refl refl refl refl refl refl

-- the fourth gap has 11 columns, at level 22
pub fourth_gap : IsGap 33 three_groups (segment 14 11 22)
fourth_gap = by_tests _ _ _ refl refl refl refl refl refl

-- the fifth gap has 9 columns, at level 23
pub fifth_gap : IsGap 33 four_groups (segment 24 9 23)
fifth_gap = by_tests _ _ _ refl refl refl refl refl refl

-- under the first group a run that ends a column before the wall is no gap: the depth there is no greater
pub cut_short : IsGap 33 one_group (segment 18 14 15) → ⊥
cut_short gap = let deeper : 15 < 15 = gap.ends (lit< tt) in omega (arith, deeper)

-- the group 1, 2, 1 in a rectangle of width 4
abbrev low_ends : List Square
low_ends = laid_with_group [] (segment 0 4 0) (1 ∷ 2 ∷ 1 ∷ [])

-- of the two runs of least depth under it the left one is the gap
pub left_end : IsGap 4 low_ends (segment 0 1 1)
left_end = by_tests _ _ _ refl refl refl refl refl refl

pub not_right_end : IsGap 4 low_ends (segment 3 1 1) → ⊥
not_right_end gap = let deeper : 1 < 1 = gap.leftmost 0 (lit< tt) in omega (arith, deeper)

-- a side of 10 doesn't fit a gap of 11
pub ten_is_not_eleven : FitsGap (segment 14 11 22) (10 ∷ []) → ⊥
ten_is_not_eleven h = omega arith

-- the fourth group is all that is left, and does not fill its gap of 11 columns
pub fourth_does_not_fit : Divides 33 [] (18 ∷ 15 ∷ 7 ∷ 8 ∷ 14 ∷ 4 ∷ 10 ∷ []) ((18 ∷ 15 ∷ []) ∷ (7 ∷ 8 ∷ []) ∷ (14 ∷ 4 ∷ []) ∷ (10 ∷ []) ∷ [])
fourth_does_not_fit =
    fits (7 ∷ 8 ∷ 14 ∷ 4 ∷ 10 ∷ []) (segment 0 33 0) first_gap refl refl refl (fits (14 ∷ 4 ∷ 10 ∷ []) (segment 18 15 15) second_gap refl refl refl
    (fits (10 ∷ []) (segment 0 18 18) third_gap refl refl refl (misfit (segment 14 11 22) fourth_gap refl (λ h. absurd (omega arith)))))

-- the first three groups of the rectangle 33x32 fit
pub lays_three : LaysTo 33 [] ((18 ∷ 15 ∷ []) ∷ (7 ∷ 8 ∷ []) ∷ (14 ∷ 4 ∷ []) ∷ []) three_groups
lays_three = (segment 0 33 0, first_gap, refl, (segment 18 15 15, second_gap, refl, (segment 0 18 18, third_gap, refl, refl)))

-- the first four groups of the rectangle 33x32 fit
pub lays_four : LaysTo 33 [] ((18 ∷ 15 ∷ []) ∷ (7 ∷ 8 ∷ []) ∷ (14 ∷ 4 ∷ []) ∷ (10 ∷ 1 ∷ []) ∷ []) four_groups
lays_four = lays_push 33 [] ((18 ∷ 15 ∷ []) ∷ (7 ∷ 8 ∷ []) ∷ (14 ∷ 4 ∷ []) ∷ []) three_groups (10 ∷ 1 ∷ []) (segment 14 11 22) lays_three fourth_gap refl

-- all five groups of the rectangle fit, and its squares are laid as they stand in it
pub all_laid : LaysTo 33 [] (code_of rectangle_33x32) rectangle_33x32.squares
all_laid =
    lays_push 33 [] ((18 ∷ 15 ∷ []) ∷ (7 ∷ 8 ∷ []) ∷ (14 ∷ 4 ∷ []) ∷ (10 ∷ 1 ∷ []) ∷ []) four_groups (9 ∷ []) (segment 24 9 23) lays_four fifth_gap refl

-- after two groups, the first column is filled to level 18
pub depths : depth two_groups 0 ≡ 18
depths = refl

-- after two groups the column 24 is filled to level 22
pub depths_right : depth two_groups 24 ≡ 22
depths_right = refl

-- a flat list is divided at the shortest prefix that fills the gap
pub first_group : next_group 33 (18 ∷ 15 ∷ 7 ∷ 8 ∷ []) ≡ 18 ∷ 15 ∷ []
first_group = refl

-- where the sides end before the gap is full, all of them are the next group
pub all_that_is_left : next_group 11 (10 ∷ []) ≡ 10 ∷ []
all_that_is_left = refl

-- a group goes on to the side that reaches or passes the gap's width
pub too_much : next_group 32 (18 ∷ 15 ∷ 7 ∷ []) ≡ 18 ∷ 15 ∷ []
too_much = refl

-- the second run under the group 18, 15 begins in column 18
second_run : run_start (runs_under_group 0 (18 ∷ 15 ∷ [])) 1 ≡ 18
second_run = refl
