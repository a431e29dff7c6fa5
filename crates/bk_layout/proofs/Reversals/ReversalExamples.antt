-- A layout of five squares, in whose word the second move is of two squares and begins with even and above; and the layout
-- with the first of them reversed.
use Rattle.std.proofs.Common.{[], arith, false, nat_lt, refl, suc, true, zero, ℕ, ◌<◌, ◌∷◌, ◌≡◌}
use Rattle.std.proofs.lemmas.Bool.{ltb-true}
use Rattle.bk_laws.proofs.Tests.{each_below}
use Rattle.bk_layout.specs.Layout.{Fits, Layout}
use Rattle.bk_layout.specs.Reversal.{CanReverse, reversed}
use Rattle.bk_layout.proofs.Lists.LayoutTables.{Table, fits_by_test, layout_by}
use Rattle.bk_layout.proofs.Reversals.ReversedFits.{fits_then}

abbrev table_five : Table
table_five = record {
  above = 0 ∷ 0 ∷ 1 ∷ 1 ∷ 2 ∷ [];
  below = 2 ∷ 1 ∷ 2 ∷ 3 ∷ 3 ∷ [];
  left = 0 ∷ 2 ∷ 2 ∷ 3 ∷ 0 ∷ [];
  right = 2 ∷ 1 ∷ 3 ∷ 1 ∷ 3 ∷ [];
  goes_left = false ∷ true ∷ false ∷ false ∷ false ∷ [];
  goes_right = false ∷ false ∷ true ∷ false ∷ false ∷ [];
  hanging = (0 ∷ 1 ∷ []) ∷ (2 ∷ 3 ∷ []) ∷ (4 ∷ []) ∷ [];
  ending = [] ∷ (1 ∷ []) ∷ (0 ∷ 2 ∷ []) ∷ (4 ∷ 3 ∷ []) ∷ [];
}

-- the layout of five squares
abbrev layout_five : Layout
layout_five = layout_by table_five

fits_five : Fits layout_five
fits_five = fits_by_test table_five refl

-- square 2 may be reversed; square 0 stands before it at its left line, and 1 at that line's other side
can_reverse_five : CanReverse layout_five 2 0 1
can_reverse_five = record {
  known = omega arith;
  before = omega arith;
  later = omega arith;
  first = refl;
  two = omega arith;
  over = refl;
  beside = refl;
  even_at_left = refl;
  even_before = refl;
  above_at_right = refl;
  rank = λ v. v;
  rises = λ x h. ltb-true (layout_five.above x) (layout_five.below x)
      (each_below (λ x. nat_lt (layout_five.above x) (layout_five.below x)) 5 refl x h);
  hangs_beside = λ x h n e. hangs x h n e;
  ends_beside = λ x h n e. ends x h n e;
}
  where
    hangs : (x : ℕ) → x < 5 → (x ≡ 2 → ⊥) → layout_five.above x ≡ 1 → 2 < layout_five.below x
    hangs zero h n e = absurd (omega (arith, e))
    hangs (suc zero) h n e = absurd (omega (arith, e))
    hangs (suc (suc zero)) h n e = absurd (n refl)
    hangs (suc (suc (suc zero))) h n e = omega arith
    hangs (suc (suc (suc (suc zero)))) h n e = absurd (omega (arith, e))
    hangs (suc (suc (suc (suc (suc x))))) h n e = absurd (omega (arith, h))

    ends : (x : ℕ) → x < 5 → (x ≡ 2 → ⊥) → layout_five.below x ≡ 2 → layout_five.above x < 1
    ends zero h n e = omega arith
    ends (suc zero) h n e = omega arith
    ends (suc (suc zero)) h n e = absurd (n refl)
    ends (suc (suc (suc zero))) h n e = absurd (omega (arith, e))
    ends (suc (suc (suc (suc zero)))) h n e = absurd (omega (arith, e))
    ends (suc (suc (suc (suc (suc x))))) h n e = absurd (omega (arith, h))

-- reversed, it hangs last from node 2 and ends first on node 1
hanging_reversed : ((reversed layout_five 2 0 1).hanging 1 ≡ 3 ∷ []) × ((reversed layout_five 2 0 1).hanging 2 ≡ 4 ∷ 2 ∷ [])
hanging_reversed = (refl, refl)

ending_reversed : ((reversed layout_five 2 0 1).ending 1 ≡ 2 ∷ 1 ∷ []) × ((reversed layout_five 2 0 1).ending 2 ≡ 0 ∷ [])
ending_reversed = (refl, refl)

lines_reversed : ((reversed layout_five 2 0 1).left 2 ≡ 3) × ((reversed layout_five 2 0 1).right 2 ≡ 2)
lines_reversed = (refl, refl)

-- and it fits
fits_reversed : Fits (reversed layout_five 2 0 1)
fits_reversed = fits_then layout_five fits_five 2 0 1 can_reverse_five
