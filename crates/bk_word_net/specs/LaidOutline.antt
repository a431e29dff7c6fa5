-- Squares laid move by move, and the outline that shows them. Squares are numbered from 1 in the order of laying.
-- Example (PartlyLaidExamples of bk_skel): after 2u.2eu a square of side 1 fills the valley of square 4, and one of
-- side 2 doesn't.
use Rattle.std.specs.List.{AllByRecursion, AllZip, concat}
use Rattle.std.specs.Prelude.{List, [], drop, length, map, slice_index_or, suc, sum, take, true, ℕ, ◌++◌, ◌+◌, ◌-◌, ◌<◌}
use Rattle.std.specs.Prelude.{◌≡◌, ◌≤◌, ◌⊎◌}
use Rattle.bk_tiling.specs.Column.{AreRuns, IsFilled, depth}
use Rattle.bk_tiling.specs.SquareGroups.{laid_group}
use Rattle.bk_tiling.specs.Tiling.{IsOneOf}
use Rattle.bk_tiling.specs.declared.Segment.{Segment}
use Rattle.bk_tiling.specs.declared.Square.{Square}
use Rattle.bk_word.specs.Outline.{Outline, start, valley_place}
use Rattle.bk_word.specs.Play.{parts}
use Rattle.bk_word.specs.Word.{Move}
use Rattle.bk_lay.specs.Depiction.{IsSegment, Span}
use Rattle.bk_lay.specs.TilingWord.{IsLeftmostValley, depth_before, depth_from, signs_between}

-- the laid square of a number
abbrev pub square_at : List Square → ℕ → Square
square_at laid n = slice_index_or laid (n - 1) (record { x = 0; y = 0; s = 0 })

-- the level of the bottom of the laid square of a number
abbrev pub bottom_at : List Square → ℕ → ℕ
bottom_at laid n = (square_at laid n).y + (square_at laid n).s

-- the number of a laid square
abbrev pub IsNumber : List Square → ℕ → Type 0
IsNumber laid n = (0 < n) × (n ≤ length laid)

-- the squares of these numbers stand side by side over the segment, with their bottoms at its level; where there are
-- none it is the top
abbrev pub StandsOver : ℕ → List Square → List ℕ → Segment → Type 0
StandsOver width laid numbers v = Span laid v.level v.x numbers (v.x + v.width)
    ⊎ ((numbers ≡ []) × (v ≡ record { x = 0; width = width; level = 0 }))

-- squares of these sides fill the leftmost valley, and their bottoms compare with each other and with those beside it
-- as the move's signs say
pub record FillsValley (width : ℕ) (laid : List Square) (m : Move) (new : List ℕ) (v : Segment) : Type 0 where
  pub found : IsLeftmostValley width laid v
  pub count : length new ≡ m.count
  pub some : 0 < m.count
  pub positive : AllByRecursion (λ s. 0 < s) new
  pub fills : sum new ≡ v.width
  pub signs : m.signs
      ≡ signs_between (depth_before laid v.x ++ map (λ q. q.y + q.s) (laid_group v.x v.level new)
      ++ depth_from width laid (v.x + v.width))

-- the outline shows what is laid in this width: its segments are the level runs of the columns, and its signs compare
-- them; what is laid fills the columns down to their depths
pub record ShowsLaid (width : ℕ) (laid : List Square) (o : Outline) : Type 0 where
  pub runs : List Segment
  pub cut : AreRuns width laid 0 runs
  pub segments : AllZip (IsSegment laid) runs o.segments
  pub signs : o.signs ≡ signs_between (map (λ v. v.level) runs)
  pub parted : AllByRecursion (λ sign. parts sign ≡ true) o.signs
  pub count : length laid ≡ length o.hung
  pub filled : IsFilled width laid
  pub inside : (q : Square) → IsOneOf q laid → (0 < q.s) × (q.x + q.s ≤ width)
  pub begun : ((laid ≡ []) × (o ≡ start)) ⊎ ((c : ℕ) → c < width → 0 < depth laid c)

-- the numbers of the open squares at the left of the valley, and at its right
abbrev pub front_of : Outline → List ℕ
front_of o = concat (take (valley_place o.signs) o.segments)

abbrev pub back_of : Outline → List ℕ
back_of o = concat (drop (suc (valley_place o.signs)) o.segments)
