-- There is one gap, so laying has one outcome; laying some groups and then others.
use Rattle.std.specs.List.{AllByRecursion}
use Rattle.std.proofs.Common.{List, [], ap, arith, inl, inr, length, refl, subst, sym, ℕ, ◌++◌, ◌+◌, ◌<◌, ◌∙◌, ◌∷◌, ◌≡◌, ◌≤◌, ◌⊎◌}
use Rattle.std.proofs.lemmas.Bool.{cases_lt}
use Rattle.std.proofs.lemmas.List.{length-append}
use Rattle.bk_laws.proofs.AllOfLists.{all_append}
use Rattle.bk_tiling.proofs.Group.{length_group}
use Rattle.bk_tiling.specs.Column.{depth}
use Rattle.bk_tiling.specs.KeptTiling.{IsSide}
use Rattle.bk_tiling.specs.SquareGroups.{laid_group}
use Rattle.bk_tiling.specs.declared.Segment.{Segment}
use Rattle.bk_tiling.specs.declared.Square.{Square}
use Rattle.bk_code.specs.Code.{Code, flat}
use Rattle.bk_code.specs.KeptCode.{IsSideGroup}
use Rattle.bk_profile.specs.Gap.{FitsGap, IsGap, LaysTo, laid_with_group}

same_level : (w : ℕ) (laid : List Square) (g h : Segment) → IsGap w laid g → IsGap w laid h → g.level ≤ h.level
same_level w laid g h a b =
    let at : depth laid h.x ≡ h.level = (b.flat).level h.x (omega arith) (omega (arith, (b.flat).some)) in
    let low : g.level ≤ depth laid h.x = a.least h.x (omega (arith, (b.flat).some, (b.flat).within)) in
    omega arith

not_before : (w : ℕ) (laid : List Square) (g h : Segment) → IsGap w laid g → IsGap w laid h → g.level ≡ h.level → h.x ≤ g.x
not_before w laid g h a b e = cases (cases_lt g.x h.x)
  where
    cases : (g.x < h.x) ⊎ (h.x ≤ g.x) → h.x ≤ g.x
    cases (inl c) = absurd (omega (arith, (a.flat).level g.x (omega arith) (omega (arith, (a.flat).some)), b.leftmost g.x c, e))
    cases (inr c) = c

not_shorter : (w : ℕ) (laid : List Square) (g h : Segment) → IsGap w laid g → IsGap w laid h → g.level ≡ h.level → g.x ≡ h.x → h.width ≤ g.width
not_shorter w laid g h a b e f = cases (cases_lt g.width h.width)
  where
    cases : (g.width < h.width) ⊎ (h.width ≤ g.width) → h.width ≤ g.width
    cases (inl c) =
        absurd (omega (arith, a.ends (omega (arith, (b.flat).within, c, f)), (b.flat).level (g.x + g.width) (omega (arith, f)) (omega (arith, f, c)), e))
    cases (inr c) = c

-- what is laid has at most one gap
pub gap_unique : (w : ℕ) (laid : List Square) (g h : Segment) → IsGap w laid g → IsGap w laid h → g ≡ h
gap_unique w laid g h a b = λ i. record { x = x i; width = width i; level = level i }
  where
    level : g.level ≡ h.level
    level = omega (arith, same_level w laid g h a b, same_level w laid h g b a)

    x : g.x ≡ h.x
    x = omega (arith, not_before w laid g h a b level, not_before w laid h g b a (sym level))

    width : g.width ≡ h.width
    width = omega (arith, not_shorter w laid g h a b level x, not_shorter w laid h g b a (sym level) (sym x))

-- with no square laid the gap is the whole width
pub gap_of_none : (w : ℕ) → 0 < w → IsGap w [] (record { x = 0; width = w; level = 0 })
gap_of_none w h = record {
  flat = record { some = h; within = omega arith; level = λ c a b. refl };
  least = λ c a. omega arith;
  leftmost = λ c a. absurd (omega arith);
  ends = λ a. absurd (omega arith);
}

-- laying the same groups leads to the same squares
pub lays_unique : (w : ℕ) (laid : List Square) (code : Code) (end other : List Square) → LaysTo w laid code end → LaysTo w laid code other → end ≡ other
lays_unique w laid [] end other a b = sym a ∙ b
lays_unique w laid (group ∷ code) end other (gap, is, fits, a) (gap2, is2, fits2, b) =
    lays_unique w (laid_with_group laid gap2 group) code end other
    (subst (λ (g : Segment). LaysTo w (laid_with_group laid g group) code end) (gap_unique w laid gap gap2 is is2) a) b

-- one more group
pub lays_push : (w : ℕ) (laid : List Square) (code : Code) (mid : List Square) (group : List ℕ) (gap : Segment) → LaysTo w laid code mid
    → IsGap w mid gap → FitsGap gap group → LaysTo w laid (code ++ group ∷ []) (laid_with_group mid gap group)
lays_push w laid [] mid group gap lays is fits =
    (gap, subst (λ (l : List Square). IsGap w l gap) (sym lays) is, fits, ap (λ (l : List Square). laid_with_group l gap group) lays)
lays_push w laid (first ∷ code) mid group gap (g, a, b, lays) is fits = (g, a, b, lays_push w (laid_with_group laid g first) code mid group gap lays is fits)

-- some groups and then others
pub record Halves (w : ℕ) (laid : List Square) (code more : Code) (end : List Square) : Type 0 where
  pub middle : List Square
  pub first : LaysTo w laid code middle
  pub second : LaysTo w middle more end

-- laying a code in two parts
pub lays_split : (w : ℕ) (laid : List Square) (code more : Code) (end : List Square) → LaysTo w laid (code ++ more) end → Halves w laid code more end
lays_split w laid [] more end lays = record { middle = laid; first = refl; second = lays }
lays_split w laid (group ∷ code) more end (gap, is, fits, lays) =
    let rest : Halves w (laid_with_group laid gap group) code more end = lays_split w (laid_with_group laid gap group) code more end lays in
    record { middle = rest.middle; first = (gap, is, fits, rest.first); second = rest.second }

-- laying a code lays a square for each of its sides
pub lays_length : (w : ℕ) (laid : List Square) (code : Code) (end : List Square) → LaysTo w laid code end → length end ≡ length laid + length (flat code)
lays_length w laid [] end lays = omega (arith, ap length lays)
lays_length w laid (group ∷ code) end (gap, is, fits, lays) =
    omega (
      arith,
      lays_length w (laid_with_group laid gap group) code end lays,
      length-append laid (laid_group gap.x gap.level group),
      length_group gap.x gap.level group,
      length-append group (flat code),
    )

group_good : (x y : ℕ) (sides : List ℕ) → AllByRecursion IsSide sides → AllByRecursion (λ q. IsSide q.s) (laid_group x y sides)
group_good x y [] good = tt
group_good x y (s ∷ sides) good = (good.0, group_good (x + s) y sides good.1)

-- where all sides are ones that a square may have, so are those of the squares
pub lays_sides : (w : ℕ) (laid : List Square) (code : Code) (end : List Square) → AllByRecursion IsSideGroup code → LaysTo w laid code end
    → AllByRecursion (λ q. IsSide q.s) laid → AllByRecursion (λ q. IsSide q.s) end
lays_sides w laid [] end good lays sides = subst (AllByRecursion (λ q. IsSide q.s)) lays sides
lays_sides w laid (group ∷ code) end good (gap, is, fits, lays) sides =
    lays_sides w (laid_with_group laid gap group) code end good.1 lays
    (all_append (λ q. IsSide q.s) laid (laid_group gap.x gap.level group) sides (group_good gap.x gap.level group good.0.1))
