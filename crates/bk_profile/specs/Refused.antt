-- What it is that a tiling has a code or a flat list, and why none has one.
-- Examples (RefusalExamples): [18,15][7,9] is refused for its second group, of sum 16, at a gap of 15 columns;
-- [18,15][7,8][14,4][10,1] since it ends open, between the depths 23 and 32; the flat list 18, 15, 7, 8, 14, 4, 10 for
-- its fourth group.
use Rattle.std.specs.Prelude.{List, [], length, sum, ℕ, ◌++◌, ◌+◌, ◌∷◌, ◌≡◌}
use Rattle.bk_tiling.specs.Tiling.{IsTiling, Tiling}
use Rattle.bk_tiling.specs.declared.Segment.{Segment}
use Rattle.bk_tiling.specs.declared.Square.{Square}
use Rattle.bk_code.specs.Code.{Code, code_of, flat}
use Rattle.bk_profile.specs.Gap.{Divides, FitsGap, IsGap, LaysTo}
use Rattle.bk_profile.specs.Laid.{IsUneven, Laid}
use Rattle.bk_profile.specs.declared.laying.Refusal.{Refusal}
use Rattle.bk_profile.specs.declared.laying.Refusal.TheVariants.{Gap, Open}

-- the width under which a code is laid: the sum of its first group
abbrev pub first_sum : Code → ℕ
first_sum [] = 0
first_sum (group ∷ code) = sum group

-- the tiling has the code
pub record HasCode (code : Code) (t : Tiling) : Type 0 where
  pub tiling : IsTiling t
  pub code_is : code_of t ≡ code

-- the tiling has this width, and its code has the flat list
pub record HasFlat (width : ℕ) (sides : List ℕ) (t : Tiling) : Type 0 where
  pub tiling : IsTiling t
  pub width_is : t.width ≡ width
  pub flat_is : flat (code_of t) ≡ sides

-- the groups before the one of this number, from 1, fit and are laid, and it doesn't fit into its gap
pub record Misfits (width : ℕ) (code : Code) (number gap_width total : ℕ) : Type 0 where
  pub before : Code
  pub group : List ℕ
  pub after : Code
  pub split : code ≡ before ++ group ∷ after
  pub place : length before + 1 ≡ number
  pub laid : List Square
  pub lays : LaysTo width [] before laid
  pub gap : Segment
  pub is_gap : IsGap width laid gap
  pub gap_is : gap.width ≡ gap_width
  pub total_is : sum group ≡ total
  pub misfit : FitsGap gap group → ⊥

-- all groups fit and are laid, and then the least depth is below the greatest
pub record EndsOpen (width : ℕ) (code : Code) (least greatest : ℕ) : Type 0 where
  pub laid : List Square
  pub lays : LaysTo width [] code laid
  pub uneven : IsUneven (record { width = width; squares = laid }) least greatest

-- why laying the code under this width gives no tiling
abbrev pub IsRefused : ℕ → Code → Refusal → Type 0
IsRefused width code (Gap number gap_width total) = Misfits width code number gap_width total
IsRefused width code (Open least greatest) = EndsOpen width code least greatest

-- why no tiling of this width has the flat list: the groups into which it is divided are refused
pub record IsFlatRefused (width : ℕ) (sides : List ℕ) (refusal : Refusal) : Type 0 where
  pub code : Code
  pub divided : Divides width [] sides code
  pub refused : IsRefused width code refusal

-- the outline is uneven; no other refusal is left where all groups fit
abbrev pub IsOpen : Laid → Refusal → Type 0
IsOpen p (Gap number gap_width total) = ⊥
IsOpen p (Open least greatest) = IsUneven p least greatest
