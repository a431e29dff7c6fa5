-- What the corners of a canonical tiling show: no square there is longer than the top left one. A statement alone; it
-- is proved apart.
-- Example (BarrenExamples): the rectangle 69x61 has the square of side 36 at the top left. That of side 33 comes there
-- in its image with left and right exchanged, and not in that turned by a half.
use Rattle.std.specs.Prelude.{◌≡◌, ◌≤◌}
use Rattle.bk_tiling.specs.Tiling.{IsOneOf, IsTiling, Tiling}
use Rattle.bk_tiling.specs.declared.Square.{Square}
use Rattle.bk_sym.specs.Canonical.{IsCanonical, Lies}
use Rattle.bk_sym.specs.Image.{image, image_square}
use Rattle.bk_sym.specs.declared.Turn.{Turn}

-- the square is the tiling's top left one
pub record IsTopLeft (t : Tiling) (q : Square) : Type 0 where
  pub is : IsOneOf q t.squares
  pub x : q.x ≡ 0
  pub y : q.y ≡ 0

-- the square is the top left one in the image by a turn
pub record TurnsTopLeft (turn : Turn) (t : Tiling) (q : Square) : Type 0 where
  pub is : IsOneOf q t.squares
  pub x : (image_square turn t.width t.height q).x ≡ 0
  pub y : (image_square turn t.width t.height q).y ≡ 0

-- a square that comes to the top left corner in an image that lies is no longer than the top left one
abbrev pub CornersAreNoLonger : Type 0
CornersAreNoLonger = (t : Tiling) (turn : Turn) (q r : Square) → IsTiling t → IsCanonical t → IsTopLeft t q
    → Lies (image turn t) → TurnsTopLeft turn t r → r.s ≤ q.s
