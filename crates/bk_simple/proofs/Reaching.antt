-- Where no part begins with a square, by how far a rectangle can reach from its top left corner without cutting a square.
use Rattle.std.specs.Prelude.{get_or, length, ℕ, ◌+◌, ◌<◌, ◌≡◌, ◌≢◌, ◌≤◌, ◌⊎◌}
use Rattle.std.proofs.Common.{arith, inl, inr, subst, sym}
use Rattle.std.proofs.lemmas.Bool.{cases_eq}
use Rattle.bk_tiling.specs.Tiling.{IsTiling, Rectangle, Tiling}
use Rattle.bk_tiling.proofs.OrderLaws.{before_level}
use Rattle.bk_tiling.proofs.Places.{later_place}
use Rattle.bk_tiling.specs.declared.Square.{Square}
use Rattle.bk_simple.proofs.Parts.{between_corners, bottom_right_below, uncut_part}
use Rattle.bk_simple.proofs.PartTrials.{NoneBelow}
use Rattle.bk_simple.proofs.UncutParts.{square_at_a_place_has_a_side, within_at}
use Rattle.bk_simple.specs.CornerSquares.{IsBetween}
use Rattle.bk_simple.specs.Simple.{IsPart, bottom_right, top_left}
use Rattle.bk_simple.specs.Reach.{NoneHigher, NoneWider}

module _ (t : Tiling) (tiling : IsTiling t) (i : ℕ) (d : Square) (right bottom : ℕ)
    (wider : NoneWider t.squares (get_or t.squares i d) t.width right) (higher : NoneHigher t.squares (get_or t.squares i d) t.height bottom) where
  abbrev at : ℕ → Square
  at k = get_or t.squares k d

  -- the corners of a part that begins with square i
  corners : (r : Rectangle) → IsPart t r → top_left t r ≡ i → IsBetween (at i) (at (bottom_right t r)) r
  corners r part first = subst (λ (k : ℕ). IsBetween (at k) (at (bottom_right t r)) r) first (between_corners t r tiling part d)

  -- it ends at both ends, or before them
  record Reaches (r : Rectangle) : Type 0 where
    pub across : r.x + r.width ≤ right
    pub down : r.y + r.height ≤ bottom

  reaches : (r : Rectangle) → IsPart t r → top_left t r ≡ i → Reaches r
  reaches r part first =
      let c = corners r part first in
      let uncut = uncut_part t r tiling part in
      let last = within_at t tiling (bottom_right t r) d (bottom_right_below t r tiling part) in
      record {
        across = wider r c.left c.top uncut (omega (arith, c.right, last.right));
        down = higher r c.left c.top uncut (omega (arith, c.bottom, last.bottom));
      }

  -- no part begins with square i where none ends before a square that begins at the level of the lower end, or below it: a later one
  -- ends still lower
  pub no_part_begins_where_squares_are_too_low : (j : ℕ) → NoneBelow t i j → j < length t.squares → bottom ≤ (at j).y → (r : Rectangle) → IsPart t r
      → top_left t r ≢ i
  no_part_begins_where_squares_are_too_low j below few low r part first = from (cases_eq (bottom_right t r) j)
    where
      far : Reaches r
      far = reaches r part first

      c : IsBetween (at i) (at (bottom_right t r)) r
      c = corners r part first

      under : bottom_right t r < length t.squares
      under = bottom_right_below t r tiling part

      side : 0 < (at (bottom_right t r)).s
      side = square_at_a_place_has_a_side t tiling (bottom_right t r) d under

      no_lower : (at j).y ≤ (at (bottom_right t r)).y → ⊥
      no_lower h = omega (arith, low, far.down, c.bottom, side)

      from : (bottom_right t r ≡ j) ⊎ (bottom_right t r ≡ j → ⊥) → ⊥
      from (inl e) = no_lower (subst (λ (k : ℕ). (at j).y ≤ (at k).y) (sym e) (omega arith))
      from (inr e) =
          let least : j ≤ bottom_right t r = below r part first in
          no_lower (before_level (at j) (at (bottom_right t r)) (later_place t.squares tiling.ordered j (bottom_right t r) d (omega (arith, e)) under))
