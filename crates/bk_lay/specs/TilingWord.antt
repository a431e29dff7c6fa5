-- The word of a tiling: its squares laid valley by valley, always under the leftmost valley. (A code goes by the
-- highest free stretch; a valley is only less deep than what is beside it.)
-- Example (WordExamples): the words of the rectangles 65x47, 33x32 and 69x61, valley by valley.
use Rattle.std.specs.Prelude.{Bool, List, [], cond, filter, length, map, nat_eq, nat_le, nat_lt, suc, zero, ℕ, ◌&&◌}
use Rattle.std.specs.Prelude.{◌++◌, ◌+◌, ◌<◌, ◌∷◌, ◌≡◌, ◌≤◌}
use Rattle.bk_tiling.specs.Column.{IsLevel, depth}
use Rattle.bk_tiling.specs.declared.Segment.{Segment}
use Rattle.bk_tiling.specs.Tiling.{Tiling}
use Rattle.bk_tiling.specs.declared.Square.{Square}
use Rattle.bk_word.specs.Word.{Move, Word}
use Rattle.bk_word.specs.declared.Sign.{Sign}
use Rattle.bk_word.specs.declared.Sign.TheVariants.{Above, Even, Under}

-- a valley: a maximal run of columns of equal depth whose neighbouring columns are deeper or do not exist
pub record IsValley (width : ℕ) (laid : List Square) (v : Segment) : Type 0 where
  pub flat : IsLevel width laid v
  pub left : (c : ℕ) → suc c ≡ v.x → v.level < depth laid c
  pub right : v.x + v.width < width → v.level < depth laid (v.x + v.width)

-- the valley that no other stands at the left of
pub record IsLeftmostValley (width : ℕ) (laid : List Square) (v : Segment) : Type 0 where
  pub valley : IsValley width laid v
  pub leftmost : (u : Segment) → IsValley width laid u → v.x ≤ u.x

-- the square's top lies on the valley, and its columns lie in it
abbrev pub hangs_under : Segment → Square → Bool
hangs_under v q = nat_eq q.y v.level && (nat_le v.x q.x && nat_le (q.x + q.s) (v.x + v.width))

-- the squares of the tiling that hang under the valley, from left to right
abbrev pub squares_under : Tiling → Segment → List Square
squares_under t v = filter (hangs_under v) t.squares

-- the depth of the column before column c, where there is one
abbrev pub depth_before : List Square → ℕ → List ℕ
depth_before laid zero = []
depth_before laid (suc c) = depth laid c ∷ []

-- the depth of column c, where the rectangle has one
abbrev pub depth_from : ℕ → List Square → ℕ → List ℕ
depth_from width laid c = cond (nat_lt c width) (depth laid c ∷ []) []

-- the bottoms of the squares under the valley, from left to right, between the depths beside the valley
abbrev pub bottoms : Tiling → List Square → Segment → List ℕ
bottoms t laid v =
    depth_before laid v.x ++ map (λ q. q.y + q.s) (squares_under t v) ++ depth_from t.width laid (v.x + v.width)

-- above where the left level is the smaller number, even where both are one, under where it is the greater
abbrev pub sign_between : ℕ → ℕ → Sign
sign_between m n = cond (nat_lt m n) Above (cond (nat_eq m n) Even Under)

-- the signs between each two neighbours of a list of levels
abbrev pub signs_between : List ℕ → List Sign
signs_between [] = []
signs_between (m ∷ []) = []
signs_between (m ∷ n ∷ levels) = sign_between m n ∷ signs_between (n ∷ levels)

-- the move that lays the squares under the valley
abbrev pub move_under : Tiling → List Square → Segment → Move
move_under t laid v = record { count = length (squares_under t v); signs = signs_between (bottoms t laid v) }

-- Once these squares are laid, these moves follow. There are none more when each column is filled to the
-- height. Else the leftmost valley gives the next one, and its squares are laid.
abbrev pub MovesFollow : Tiling → List Square → Word → Type 0
MovesFollow t laid [] = (c : ℕ) → c < t.width → depth laid c ≡ t.height
MovesFollow t laid (m ∷ moves) = (v : Segment) × IsLeftmostValley t.width laid v × (v.level < t.height)
    × (m ≡ move_under t laid v) × MovesFollow t (laid ++ squares_under t v) moves

-- the word of the tiling: what follows while nothing is laid. A tiling has only one (`a_tiling_has_one_word`)
abbrev pub IsWordOf : Tiling → Word → Type 0
IsWordOf t w = MovesFollow t [] w
