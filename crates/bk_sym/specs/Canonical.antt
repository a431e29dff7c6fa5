-- The tiling in lowest terms, and the canonical tiling.
-- Example (ImageExamples): the rectangle 69x61 is canonical; of 33x32 enlarged twofold, with columns and levels
-- exchanged, it is 33x32.
use Rattle.std.specs.Cmp.Lexicographic.{slice_cmp}
use Rattle.std.specs.Ordering.{is_le, nat_cmp}
use Rattle.std.specs.Prelude.{HoldsAt, IsTrue, map, ℕ, ◌/◌, ◌≡◌, ◌≤◌}
use Rattle.bk_tiling.specs.Tiling.{Tiling}
use Rattle.bk_tiling.specs.declared.Square.{Square}
use Rattle.bk_code.specs.Code.{code_of, flat}
use Rattle.bk_frac.specs.Divisor.{gcd_of}
use Rattle.bk_sym.specs.Image.{image}
use Rattle.bk_sym.specs.declared.Turn.{Turn}

-- the tiling in lowest terms: its size, places and sides divided by the greatest common divisor of the sides. That
-- divides the size and the places too: enlarged by it, this is the tiling again (`whole_again` in
-- proofs/ScaledDown.antt)
abbrev pub scaled_down_tiling : Tiling → Tiling
scaled_down_tiling t =
    let g = gcd_of (map (λ q. q.s) t.squares) in record {
      width = t.width / g;
      height = t.height / g;
      squares = map (λ q. record { x = q.x / g; y = q.y / g; s = q.s / g }) t.squares;
    }

-- the flat list of sides of the first tiling is lexicographically at most that of the second
abbrev pub IsAtMost : Tiling → Tiling → Type 0
IsAtMost t u = IsTrue (is_le (slice_cmp nat_cmp (flat (code_of t)) (flat (code_of u))))

-- the tiling lies: it is at least as wide as high
abbrev pub Lies : Tiling → Type 0
Lies t = t.height ≤ t.width

-- no image of t that lies has a greater flat list than c
abbrev pub IsGreatestImage : Tiling → Tiling → Type 0
IsGreatestImage t c = (turn : Turn) → Lies (image turn t) → IsAtMost (image turn t) c

-- g is the greatest of the images of t that lie
pub record IsGreatestOf (t g : Tiling) : Type 0 where
  pub turn : Turn
  pub image_of : g ≡ image turn t
  pub lying : Lies g
  pub greatest : IsGreatestImage t g

-- the first square of t has this side
abbrev pub BeginsWith : Tiling → ℕ → Type 0
BeginsWith t side = HoldsAt (λ q. q.s ≡ side) t.squares 0

-- the square stands at the top left corner
abbrev pub IsAtCorner : Square → Type 0
IsAtCorner q = (q.x ≡ 0) × (q.y ≡ 0)

-- c is canonical for t: among the images of t in lowest terms that are at least as wide as high, it is
-- the one with the greatest flat list. A width and a flat list fix a tiling, so there is only
-- one (`a_canonical_tiling_is_one`)
pub record IsCanonicalOf (t c : Tiling) : Type 0 where
  pub turn : Turn
  pub image_of : c ≡ image turn (scaled_down_tiling t)
  pub lying : Lies c
  pub greatest : IsGreatestImage (scaled_down_tiling t) c

-- the tiling is its own canonical tiling
abbrev pub IsCanonical : Tiling → Type 0
IsCanonical t = IsCanonicalOf t t
