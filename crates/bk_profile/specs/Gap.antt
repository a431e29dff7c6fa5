-- Laying a code: the gap that the next group goes into, and how a flat list of sides is divided.
-- Examples (GapExamples): after [18,15][7,8] the gap of the rectangle 33x32 has the 18 columns from 0 on at level 18;
-- of two runs of least depth the left one is the gap, and a run that is cut short is none. The flat list 18, 15, 7, 8,
-- 14, 4, 10 is divided into [18,15][7,8][14,4][10], of which the last group does not fit.
use Rattle.std.specs.Prelude.{List, [], cond, nat_le, sum, ℕ, ◌++◌, ◌+◌, ◌-◌, ◌<◌, ◌∷◌, ◌≡◌, ◌≤◌}
use Rattle.bk_tiling.specs.Column.{IsLevel, depth}
use Rattle.bk_tiling.specs.declared.Segment.{Segment}
use Rattle.bk_tiling.specs.declared.Square.{Square}
use Rattle.bk_tiling.specs.SquareGroups.{laid_group}
use Rattle.bk_code.specs.Code.{Code}

-- the gap: the leftmost maximal run of columns of least depth
pub record IsGap (width : ℕ) (laid : List Square) (v : Segment) : Type 0 where
  pub flat : IsLevel width laid v
  pub least : (c : ℕ) → c < width → v.level ≤ depth laid c
  pub leftmost : (c : ℕ) → c < v.x → v.level < depth laid c
  pub ends : v.x + v.width < width → v.level < depth laid (v.x + v.width)

-- the group fits into the gap
abbrev pub FitsGap : Segment → List ℕ → Type 0
FitsGap gap group = sum group ≡ gap.width

-- the squares laid when the group is put into the gap, its tops at the gap's level
abbrev pub laid_with_group : List Square → Segment → List ℕ → List Square
laid_with_group laid gap group = laid ++ laid_group gap.x gap.level group

-- each group fits into the gap that is there then, and these squares are laid in the end
abbrev pub LaysTo : ℕ → List Square → Code → List Square → Type 0
LaysTo width laid [] end = laid ≡ end
LaysTo width laid (group ∷ code) end =
    (gap : Segment) × IsGap width laid gap × FitsGap gap group × LaysTo width (laid_with_group laid gap group) code end

-- the shortest prefix of the sides whose sum is at least n, or all of them where no prefix reaches n
abbrev pub next_group : ℕ → List ℕ → List ℕ
next_group n [] = []
next_group n (s ∷ sides) = s ∷ cond (nat_le n s) [] (next_group (n - s) sides)

-- the groups into which a flat list is divided: at each step the shortest prefix that fills the gap. The
-- division ends with the first group that does not fit, or with the last side.
pub data Divides (width : ℕ) : List Square → List ℕ → Code → Type 0 where
  done : {laid : List Square} → Divides width laid [] []
  misfit : {laid : List Square} {s : ℕ} {sides group : List ℕ} (gap : Segment) → IsGap width laid gap
      → group ≡ next_group gap.width (s ∷ sides) → (FitsGap gap group → ⊥)
      → Divides width laid (s ∷ sides) (group ∷ [])
  fits : {laid : List Square} {s : ℕ} {sides group : List ℕ} {code : Code} (rest : List ℕ) (gap : Segment)
      → IsGap width laid gap → group ≡ next_group gap.width (s ∷ sides) → FitsGap gap group → s ∷ sides ≡ group ++ rest
      → Divides width (laid_with_group laid gap group) rest code → Divides width laid (s ∷ sides) (group ∷ code)
