-- The corners of the rectangle 3x2 of the squares 2, 1, 1, and the ties of its counts.
use Rattle.std.specs.Prelude.{pos, slice_index_or, ℤ}
use Rattle.std.proofs.Common.{Bool, List, [], arith, false, lit<, lit≤, refl, suc, true, zero, ℕ, ◌*◌, ◌<◌, ◌^◌, ◌∷◌, ◌≡◌, ◌≤◌}
use Rattle.std.proofs.lemmas.Int.{ints}
use Rattle.bk_tiling.proofs.ExampleTilings.{rectangle_3x2}
use Rattle.bk_layout.specs.Normal.{Counts, counts_of}
use Rattle.bk_found.specs.KnownLines.{IsCandidate}
use Rattle.bk_found.specs.Placing.{AreSmallNumbers, EndWithin, IsSmallNumber}
use Rattle.bk_found.specs.Ties.{AreTiesOf}
use Rattle.bk_found.specs.ToldCorners.{AreLongest, AreLongestTold}
use Rattle.bk_found.proofs.PlacingExamples.{lefts_3x2, lines_3x2}
use Rattle.bk_found.specs.declared.corners.Longest.{Longest}
use Rattle.bk_found.specs.declared.ties.Ties.{Ties}

-- the levels of its nodes
abbrev levels : List ℤ
levels = pos 0 ∷ pos 1 ∷ pos 2 ∷ []

small : (most n : ℕ) → n ≤ most → IsSmallNumber most (pos n)
small most n h = (omega (arith, ints), omega (arith, ints, h))

-- so much is known of it before its squares are placed
known : IsCandidate lines_3x2 levels
known = record {
  few = lit≤ tt;
  wires = refl;
  currents = refl;
  rights = refl;
  lines = lefts_3x2;
  ends = ends;
  small_currents = currents;
  small_rights = rights;
  small_levels = at;
  small_total = small (2 ^ 34) 3 (lit≤ tt);
}
  where
    ends : EndWithin 17 lines_3x2.wires
    ends zero h = (lit< tt, lit< tt)
    ends (suc zero) h = (lit< tt, lit< tt)
    ends (suc (suc zero)) h = (lit< tt, lit< tt)
    ends (suc (suc (suc k))) h = absurd (omega (arith, h))

    currents : AreSmallNumbers (2 ^ 34) lines_3x2.currents
    currents zero h = small (2 ^ 34) 2 (lit≤ tt)
    currents (suc zero) h = small (2 ^ 34) 1 (lit≤ tt)
    currents (suc (suc zero)) h = small (2 ^ 34) 1 (lit≤ tt)
    currents (suc (suc (suc k))) h = absurd (omega (arith, h))

    rights : AreSmallNumbers (17 * 2 ^ 34) lines_3x2.rights
    rights zero h = small (17 * 2 ^ 34) 2 (lit≤ tt)
    rights (suc zero) h = small (17 * 2 ^ 34) 3 (lit≤ tt)
    rights (suc (suc zero)) h = small (17 * 2 ^ 34) 3 (lit≤ tt)
    rights (suc (suc (suc k))) h = absurd (omega (arith, h))

    at : (v : ℕ) → v < 17 → IsSmallNumber (16 * 2 ^ 34) (slice_index_or levels v (pos 0))
    at zero h = small (16 * 2 ^ 34) 0 (lit≤ tt)
    at (suc zero) h = small (16 * 2 ^ 34) 1 (lit≤ tt)
    at (suc (suc zero)) h = small (16 * 2 ^ 34) 2 (lit≤ tt)
    at (suc (suc (suc v))) h = small (16 * 2 ^ 34) 0 (lit≤ tt)

abbrev corners : Longest
corners = record { top = 2; bottom = 2; left = 2; right = 1 }

told_corners : AreLongestTold lines_3x2 3 corners
told_corners = record { top = refl; bottom = refl; left = refl; right = refl }

-- they are those of the squares as they are placed
placed_corners : AreLongest 3 2 (rectangle_3x2).squares corners
placed_corners = record { top = refl; bottom = refl; left = refl; right = refl }

-- its counts at the bottom and at the top tie, and those at the left and at the right don't
abbrev counts : Counts
counts = counts_of rectangle_3x2

abbrev told : Bool → Ties
told across = record { level = true; across = across; size = false }

level_ties : AreTiesOf counts (told false)
level_ties = record {
  level = λ h. refl;
  across = λ h. absurd (cc);
  half = λ h. absurd (cc);
  right = λ h. absurd (cc);
  left = λ h. absurd (cc);
}

not_across : AreTiesOf counts (told true) → ⊥
not_across ties = let same : 1 ≡ 2 = ties.across refl in omega (arith, same)
