-- What a contract sees of a `Profile`, and what laying a group does to it.
-- Examples (LaidExamples): in the width 33 with the group 18, 15 laid the group 7, 8 is laid next, and 7, 9 is not, of
-- sum 16 at a gap of 15 columns; laid one after another the five groups of the rectangle 33x32 are that tiling.
-- (RefusalExamples): after [18,15][7,8][14,4][10,1] the depths lie between 23 and 32.
use Rattle.std.specs.Prelude.{List, [], length, sum, take, ℕ, ◌<◌, ◌≡◌, ◌≤◌}
use Rattle.bk_tiling.specs.Column.{IsFilled, depth}
use Rattle.bk_tiling.specs.Tiling.{IsTiling, Tiling}
use Rattle.bk_tiling.specs.declared.Segment.{Segment}
use Rattle.bk_tiling.specs.declared.Square.{Square}
use Rattle.bk_code.specs.Code.{Code}
use Rattle.bk_code.specs.KeptCode.{IsKeptCode}
use Rattle.bk_profile.specs.Gap.{FitsGap, IsGap, LaysTo, laid_with_group, next_group}
use Rattle.bk_tiling.specs.declared.TheConstants.{MOST_SQUARES}
use Rattle.bk_profile.specs.declared.profile.TheConstants.{WIDEST_PROFILE}

-- a width, and the squares laid in it, in the order of laying
pub record Laid : Type 0 where
  pub width : ℕ
  pub squares : List Square

-- what holds of each `Profile`
pub record IsProfile (p : Laid) : Type 0 where
  pub some : 0 < p.width
  pub narrow : p.width ≤ WIDEST_PROFILE
  pub few : length p.squares ≤ MOST_SQUARES
  -- each cell above a column's depth lies in exactly one of the squares
  pub filled : IsFilled p.width p.squares

-- the group fits into the gap, and is laid there
pub record LaysGroup (old : Laid) (group : List ℕ) (new : Laid) : Type 0 where
  pub gap : Segment
  pub is_gap : IsGap old.width old.squares gap
  pub fits : FitsGap gap group
  pub laid : new ≡ record { width = old.width; squares = laid_with_group old.squares gap group }

-- the group doesn't fit into the gap: its sum is another than the gap's width
pub record MisfitsGap (old : Laid) (group : List ℕ) (gap_width total : ℕ) : Type 0 where
  pub gap : Segment
  pub is_gap : IsGap old.width old.squares gap
  pub width : gap.width ≡ gap_width
  pub total_is : sum group ≡ total
  pub misfit : FitsGap gap group → ⊥

-- the first `taken` of the sides are the next group, which fits into the gap, and is laid there
pub record LaysNextGroup (old : Laid) (sides : List ℕ) (taken : ℕ) (new : Laid) : Type 0 where
  pub some : 0 < taken
  pub within : taken ≤ length sides
  pub gap : Segment
  pub is_gap : IsGap old.width old.squares gap
  pub next : take taken sides ≡ next_group gap.width sides
  pub lays : LaysGroup old (take taken sides) new

-- the next group of the sides doesn't fit into the gap
pub record MisfitsNextGroup (old : Laid) (sides : List ℕ) (gap_width total : ℕ) : Type 0 where
  pub gap : Segment
  pub is_gap : IsGap old.width old.squares gap
  pub misfits : MisfitsGap old (next_group gap.width sides) gap_width total

-- the least depth of a column
pub record IsLeastDepth (p : Laid) (least : ℕ) : Type 0 where
  pub column : ℕ
  pub within : column < p.width
  pub there : depth p.squares column ≡ least
  pub below : (c : ℕ) → c < p.width → least ≤ depth p.squares c

-- the greatest depth of a column
pub record IsGreatestDepth (p : Laid) (greatest : ℕ) : Type 0 where
  pub column : ℕ
  pub within : column < p.width
  pub there : depth p.squares column ≡ greatest
  pub above : (c : ℕ) → c < p.width → depth p.squares c ≤ greatest

-- groups were laid, one after another, each into the gap that was there then
pub record IsLaidOut (p : Laid) : Type 0 where
  pub code : Code
  pub kept : IsKeptCode code
  pub some : 0 < length code
  pub lays : LaysTo p.width [] code p.squares

-- the tiling is what is laid
pub record IsLaidTiling (p : Laid) (t : Tiling) : Type 0 where
  pub tiling : IsTiling t
  pub width_is : t.width ≡ p.width
  pub squares_are : t.squares ≡ p.squares

-- the least depth is below the greatest
pub record IsUneven (p : Laid) (least greatest : ℕ) : Type 0 where
  pub least_is : IsLeastDepth p least
  pub greatest_is : IsGreatestDepth p greatest
  pub uneven : least < greatest
