-- A code is laid to the one tiling that has it, or no tiling has it.
use Rattle.std.specs.List.{AllByRecursion}
use Rattle.std.proofs.Common.{List, [], ap, arith, length, subst, sum, sym, ℕ, ◌*◌, ◌+◌, ◌<◌, ◌^◌, ◌∙◌, ◌∷◌, ◌≡◌, ◌≤◌}
use Rattle.std.proofs.lemmas.List.{length-append}
use Rattle.std.proofs.lemmas.List.Sums.{sum_by-cons}
use Rattle.bk_tiling.proofs.TilingLaws.{even_below, wide_enough}
use Rattle.bk_tiling.specs.Column.{depth}
use Rattle.bk_tiling.specs.KeptTiling.{IsKept, IsSide}
use Rattle.bk_tiling.specs.Tiling.{IsTiling, Tiling}
use Rattle.bk_tiling.specs.declared.Segment.{Segment}
use Rattle.bk_tiling.specs.declared.Square.{Square}
use Rattle.bk_code.specs.Code.{Code, flat}
use Rattle.bk_code.specs.KeptCode.{IsSideGroup}
use Rattle.bk_profile.proofs.CodeLaying.{a_code_is_laid}
use Rattle.bk_profile.proofs.LaidGroups.{AreGroups, IsLaid, laid_groups, laid_none, tiling_from_laid}
use Rattle.bk_profile.proofs.LayingOnce.{Halves, gap_of_none, gap_unique, lays_length, lays_sides, lays_split, lays_unique}
use Rattle.bk_profile.specs.Gap.{IsGap, LaysTo}
use Rattle.bk_profile.specs.Laid.{IsGreatestDepth, IsLaidOut, IsLeastDepth, Laid}
use Rattle.bk_profile.specs.Refused.{EndsOpen, HasCode, Misfits, first_sum}

-- a tiling's width is the sum of the first group of its code
pub width_is : (code : Code) (t : Tiling) → HasCode code t → 0 < length code → first_sum code ≡ t.width
width_is [] t has some = absurd (omega arith)
width_is (group ∷ code) t has some = from (subst (λ (c : Code). LaysTo t.width [] c t.squares) has.code_is (a_code_is_laid t has.tiling))
  where
    from : LaysTo t.width [] (group ∷ code) t.squares → sum group ≡ t.width
    from (gap, is, fits, lays) = fits
        ∙ ap (λ (g : Segment). g.width)
        (gap_unique t.width [] gap (record { x = 0; width = t.width; level = 0 }) is (gap_of_none t.width (wide_enough t has.tiling)))

-- a tiling's code is laid under the sum of its first group
pub lays_code : (code : Code) (t : Tiling) → HasCode code t → 0 < length code → LaysTo (first_sum code) [] code t.squares
lays_code code t has some =
    subst (λ n. LaysTo n [] code t.squares) (sym (width_is code t has some))
    (subst (λ (c : Code). LaysTo t.width [] c t.squares) has.code_is (a_code_is_laid t has.tiling))

-- where all groups fit, none is the first that doesn't
pub no_misfit : (w : ℕ) (code : Code) (end : List Square) (number gap_width total : ℕ) → LaysTo w [] code end → Misfits w code number gap_width total → ⊥
no_misfit w code end number gap_width total lays m = from halves.second
  where
    halves : Halves w [] m.before (m.group ∷ m.after) end
    halves = lays_split w [] m.before (m.group ∷ m.after) end (subst (λ (c : Code). LaysTo w [] c end) m.split lays)

    same : halves.middle ≡ m.laid
    same = lays_unique w [] m.before halves.middle m.laid halves.first m.lays

    from : LaysTo w halves.middle (m.group ∷ m.after) end → ⊥
    from (gap, is, fits, rest) =
        m.misfit (fits ∙ ap (λ (g : Segment). g.width) (gap_unique w m.laid gap m.gap (subst (λ (l : List Square). IsGap w l gap) same is) m.is_gap))

-- where the squares are laid to a tiling, the outline isn't uneven
pub not_open : (w : ℕ) (code : Code) (t : Tiling) (least greatest : ℕ) → IsTiling t → t.width ≡ w → LaysTo w [] code t.squares
    → EndsOpen w code least greatest → ⊥
not_open w code t least greatest tiling width lays o =
    let same : o.laid ≡ t.squares = lays_unique w [] code o.laid t.squares o.lays lays in
    let low = (o.uneven).least_is in
    let high = (o.uneven).greatest_is in
    let at_low : depth o.laid low.column ≡ t.height = ap (λ (l : List Square). depth l low.column) same
    ∙ even_below t tiling low.column (omega (arith, low.within, width)) in
    let at_high : depth o.laid high.column ≡ t.height = ap (λ (l : List Square). depth l high.column) same
    ∙ even_below t tiling high.column (omega (arith, high.within, width)) in
    omega (arith, low.there, high.there, at_low, at_high, (o.uneven).uneven)

positive : (sides : List ℕ) → AllByRecursion IsSide sides → AllByRecursion (λ s. 0 < s) sides
positive [] good = tt
positive (s ∷ sides) good = (good.0.0, positive sides good.1)

-- groups of sides that a square may have are groups of positive sides
are_groups : (code : Code) → AllByRecursion IsSideGroup code → AreGroups code
are_groups [] good = tt
are_groups (group ∷ code) good = ((good.0.0, positive group good.0.1), are_groups code good.1)

-- what is laid out, by its groups
pub laid_out : (p : Laid) (out : IsLaidOut p) → IsLaid p.width p.squares out.code
laid_out p out = laid_groups p.width [] [] out.code p.squares (laid_none p.width) (are_groups out.code (out.kept).groups) out.lays

flat_some : (code : Code) → AllByRecursion IsSideGroup code → 0 < length code → 0 < length (flat code)
flat_some [] good some = omega arith
flat_some (group ∷ code) good some = omega (arith, good.0.0, length-append group (flat code))

-- where the outline is even, what is laid out is a tiling
pub kept_even : (p : Laid) (least greatest : ℕ) → IsLaidOut p → IsLeastDepth p least → IsGreatestDepth p greatest → greatest ≤ least
    → p.width ≤ 200000000000000000 → greatest < 2 ^ 64 → IsKept (record { width = p.width; height = greatest; squares = p.squares })
kept_even p least greatest out low high even narrow small = record {
  tiling = tiling_from_laid p.width greatest p.squares out.code (laid_out p out) (omega (arith, count, flat_some out.code (out.kept).groups out.some))
      (λ c h. omega (arith, low.below c h, high.above c h, even));
  few = omega (arith, count, (out.kept).few);
  sides = lays_sides p.width [] out.code p.squares (out.kept).groups out.lays tt;
  width_fits = omega (arith, narrow);
  height_fits = small;
}
  where
    count : length p.squares ≡ 0 + length (flat out.code)
    count = lays_length p.width [] out.code p.squares out.lays

-- the sum of sides is at least their number, and at most that many times the longest side
pub sum_bounds : (sides : List ℕ) → AllByRecursion IsSide sides → (sum sides ≤ length sides * 999_999_999_999_999) × (length sides ≤ sum sides)
sum_bounds [] good = (omega arith, omega arith)
sum_bounds (s ∷ sides) good =
    let rest : (sum sides ≤ length sides * 999_999_999_999_999) × (length sides ≤ sum sides) = sum_bounds sides good.1 in
    let total : sum (s ∷ sides) ≡ s + sum sides = sum_by-cons (λ (n : ℕ). n) s sides in
    (omega (arith, good.0.1, rest.0), omega (arith, good.0.0, rest.1))
