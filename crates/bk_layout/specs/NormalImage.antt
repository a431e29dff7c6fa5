-- What a search that meets one image of eight has to meet: each simple tiling has an image that is normal, with a word
-- of which no beginning is barren. Statements alone; each is proved apart.
-- Examples (NormalImageExamples): the rectangle 33x32 has such an image. No sought word of five squares begins with
-- 2u.2ua.
use Rattle.std.specs.Prelude.{List, ℕ, ◌++◌, ◌≡◌, ◌≤◌}
use Rattle.bk_simple.specs.Simple.{IsSimple}
use Rattle.bk_tiling.specs.CodeOrder.{in_code_order}
use Rattle.bk_tiling.specs.Scale.{IsPrimitiveTiling}
use Rattle.bk_tiling.specs.Tiling.{IsTiling, Tiling, order}
use Rattle.bk_tiling.specs.declared.Square.{Square}
use Rattle.bk_sym.specs.Canonical.{IsCanonicalOf}
use Rattle.bk_sym.specs.Image.{image}
use Rattle.bk_sym.specs.declared.Turn.{Turn}
use Rattle.bk_layout.specs.Normal.{AreNormal, AreTiesSettled, Counts, IsHalf, IsNormal, is_in_bottom_corner}
use Rattle.bk_layout.specs.Normal.{is_in_left_corner, is_in_right_corner}
use Rattle.bk_layout.specs.Normal.{is_in_top_corner, longest}
use Rattle.bk_word.specs.Play.{IsComplete}
use Rattle.bk_word.specs.Word.{Word, order_of}
use Rattle.bk_word.specs.declared.Class.{Class}
use Rattle.bk_catalogue.specs.Catalogue.{IsMember, IsOfClass}
use Rattle.bk_layout.specs.NormalCuts.{IsNormalBarren, IsNormalWordOf}
use Rattle.bk_layout.specs.WordNumbers.{counts_of_word}

-- an image of a tiling is simple
abbrev pub ImagesAreSimple : Type 0
ImagesAreSimple = (t : Tiling) (turn : Turn) → IsTiling t → IsSimple t → IsSimple (image turn t)

-- a tiling that is simple and normal, with its ties settled, and a word of it by rule R of which no beginning is barren
pub record IsMetByNormalWord (u : Tiling) (w : Word) : Type 0 where
  pub tiling : IsTiling u
  pub simple : IsSimple u
  pub normal : IsNormal u
  pub ties : AreTiesSettled u
  pub is_word : IsNormalWordOf u w

-- what is asked of the counts of a normal word besides: where they are just half and as many squares stand at the right
-- as at the top, no more stand at the left than at the bottom
pub record AreSettledCounts (c : Counts) : Type 0 where
  pub normal : AreNormal c
  pub sides : IsHalf c → c.right ≡ c.top → c.left ≤ c.bottom

-- the counts of a normal word are settled, so a search may pass over whole words with other counts
abbrev pub ANormalWordHasSettledCounts : Type 0
ANormalWordHasSettledCounts = (u : Tiling) (w : Word) → IsMetByNormalWord u w → AreSettledCounts (counts_of_word w)

-- what is asked of the squares of a normal word, in any order: where the counts at two sides tie, of the longest
-- squares in the corners
pub record AreCornersSettled (c : Counts) (width height : ℕ) (squares : List Square) : Type 0 where
  pub size : IsHalf c → c.right ≡ c.top → c.left ≡ c.bottom → height ≤ width
  pub level : c.bottom ≡ c.top
      → longest (is_in_bottom_corner width height) squares ≤ longest (is_in_top_corner width) squares
  pub across : c.left ≡ c.right
      → longest (is_in_right_corner width height) squares ≤ longest (is_in_left_corner height) squares

-- the corners of a tiling with a normal word are settled, by its squares in any order, so a search may pass over
-- squares that a word places otherwise
abbrev pub ANormalWordHasSettledCorners : Type 0
ANormalWordHasSettledCorners = (u : Tiling) (w : Word) (squares : List Square) → IsMetByNormalWord u w
    → in_code_order squares ≡ u.squares
    → AreCornersSettled (counts_of_word w) u.width u.height squares

-- a turn by which the image is simple and normal, with its ties settled, and a normal word of this image
pub record HasNormalWord (t : Tiling) : Type 0 where
  pub turn : Turn
  pub word : Word
  pub met : IsMetByNormalWord (image turn t) word

-- each simple tiling of at least 3 squares has an image with a normal word
abbrev pub EachSimpleTilingHasANormalWord : Type 0
EachSimpleTilingHasANormalWord = (t : Tiling) → IsTiling t → IsSimple t → 3 ≤ order t → HasNormalWord t

-- what a search for normal words looks for: a complete word of the order, of which no beginning is barren; so it keeps
-- rule R
pub record IsNormalSought (n : ℕ) (w : Word) : Type 0 where
  pub complete : IsComplete w
  pub order : order_of w ≡ n
  pub fertile : (front rest : Word) → w ≡ front ++ rest → IsNormalBarren n front → ⊥

-- the normal words of a tiling are sought
abbrev pub ANormalWordIsSought : Type 0
ANormalWordIsSought = (t : Tiling) (w : Word) → IsNormalWordOf t w → IsNormalSought (order t) w

-- each image u of a member t is a primitive and simple tiling of the order and the class, and its canonical tiling is t
pub record IsMembersImage (n : ℕ) (class : Class) (t u : Tiling) : Type 0 where
  pub tiling : IsTiling u
  pub order_is : order u ≡ n
  pub simple : IsSimple u
  pub of_class : IsOfClass class u
  pub primitive : IsPrimitiveTiling u
  pub canonical : IsCanonicalOf u t

abbrev pub EachImageIsAMembers : Type 0
EachImageIsAMembers = (n : ℕ) (class : Class) (t : Tiling) (turn : Turn) → IsMember n class t
    → IsMembersImage n class t (image turn t)

-- a turn of a member, and a normal word of the image by it, which is sought
pub record IsMemberMet (n : ℕ) (class : Class) (t : Tiling) : Type 0 where
  pub turn : Turn
  pub word : Word
  pub met : IsMetByNormalWord (image turn t) word
  pub sought : IsNormalSought n word

-- each member of at least 3 squares is met: a search that finds of each sought word the tilings of which it is a signed
-- one, and takes their canonical tilings, misses no member
abbrev pub EachMemberIsMet : Type 0
EachMemberIsMet = (n : ℕ) (class : Class) (t : Tiling) → 3 ≤ n → IsMember n class t → IsMemberMet n class t
