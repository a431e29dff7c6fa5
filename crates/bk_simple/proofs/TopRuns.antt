-- A part that begins with square i lies below a run of squares that stand side by side from there on. Its right edge is the end of one of them.
use Rattle.std.specs.Prelude.{get_or, length, refl, true, ℕ, ◌+◌, ◌-◌, ◌<◌, ◌≡◌, ◌≤◌}
use Rattle.std.proofs.Common.{arith, subst}
use Rattle.std.proofs.lemmas.Bool.Decides.{nat_tests}
use Rattle.bk_tiling.proofs.Places.{later_place}
use Rattle.bk_tiling.specs.CodeOrder.{comes_before}
use Rattle.bk_tiling.specs.Tiling.{IsTiling, IsWithin, Rectangle, Tiling}
use Rattle.bk_tiling.specs.declared.Square.{Square}
use Rattle.bk_simple.specs.CornerSquares.{IsBetween}
use Rattle.bk_simple.specs.Simple.{IsPart, bottom_right, top_left}
use Rattle.bk_simple.proofs.Parts.{between_corners, bottom_right_below, uncut_part}
use Rattle.bk_simple.proofs.Seams.{IsRunTo, none_wider}
use Rattle.bk_simple.proofs.SideWalks.{IsPlaced, IsUnder, lies, placed}
use Rattle.bk_simple.proofs.UncutParts.{square_at_a_place_has_a_side, within_at}

module _ (t : Tiling) (tiling : IsTiling t) (i : ℕ) (d : Square) where
  abbrev square : ℕ → Square
  square k = get_or t.squares k d

  -- if it goes past the end of the run, it goes at least to the end of the next square
  pub goes_past : (k end : ℕ) → IsRunTo t.squares i d k end → k < length t.squares → (square k).y ≡ (square i).y → (square k).x ≡ end
      → (p : Rectangle) → IsPart t p → top_left t p ≡ i → end < p.x + p.width → end + (square k).s ≤ p.x + p.width
  goes_past k end run few level begins p part first past = omega (arith, begins, w.right)
    where
      u : IsUnder t tiling d i (p.x + p.width) p
      u = record { part = part; first = first; ends = refl }

      here : IsPlaced t tiling d i (p.x + p.width) p u
      here = placed t tiling d i (p.x + p.width) p u

      s : 0 < (square k).s
      s = square_at_a_place_has_a_side t tiling k d few

      w : IsWithin p (square k)
      w = lies t tiling d i (p.x + p.width) p u k few (record {
        left = omega (arith, here.left, begins, run.right, run.ends, s);
        right = omega (arith, begins, past);
        top = omega (arith, here.top, level, s);
        bottom = omega (arith, here.top, level, here.high);
      })

  -- a later square at the level of square i begins at its right
  pub begins_right : (last : ℕ) → i < last → last < length t.squares → (square last).y ≡ (square i).y → (square i).x ≤ (square last).x
  begins_right last later few level =
      let before : comes_before (square i) (square last) ≡ true = later_place t.squares tiling.ordered i last d later few in
      grind (arith, nat_tests, before, level)

  -- the run of the squares from place i to a later one at its level
  pub squares_at_a_level_are_a_run : (last : ℕ) → i < last → last < length t.squares → (square last).y ≡ (square i).y
      → IsRunTo t.squares i d (last + 1) ((square last).x + (square last).s)
  squares_at_a_level_are_a_run last later few level =
      let e : last + 1 - 1 ≡ last = omega arith in
      let right : (square i).x ≤ (square last).x = begins_right last later few level in
      record { some = omega (arith, later); within = omega (arith, few); level = rw e level; right = rw e right; ends = rw e refl }

  -- a part that begins with square i has its left edge
  pub begins_left : (p : Rectangle) → IsPart t p → top_left t p ≡ i → p.x ≡ (square i).x
  begins_left p part first =
      let c : IsBetween (square i) (square (bottom_right t p)) p =
      subst (λ (k : ℕ). IsBetween (square k) (square (bottom_right t p)) p) first (between_corners t p tiling part d) in
      c.left

  -- where no more square stands beside a run, a part that begins with square i ends with the run or before
  pub none_beyond : (k end : ℕ) → IsRunTo t.squares i d k end → (k < length t.squares → (square k).y ≡ (square i).y → (square k).x ≡ end → ⊥)
      → (p : Rectangle) → IsPart t p → top_left t p ≡ i → p.x + p.width ≤ end
  none_beyond k end run none p part first =
      let c : IsBetween (square i) (square (bottom_right t p)) p =
      subst (λ (k : ℕ). IsBetween (square k) (square (bottom_right t p)) p) first (between_corners t p tiling part d) in
      let w = within_at t tiling (bottom_right t p) d (bottom_right_below t p tiling part) in
      none_wider t tiling i d k end run none p c.left c.top (uncut_part t p tiling part) (omega (arith, c.right, w.right))
