-- How deep the columns of the rectangle 33x32 are filled by its first group, and a square that leaves free cells over it.
use Rattle.std.proofs.Common.{List, [], arith, count_by, lit<, lit≤, nat_eq, refl, ℕ, ◌∷◌, ◌≡◌}
use Rattle.std.proofs.lemmas.Bool.{eqb-true}
use Rattle.bk_laws.proofs.Tests.{all_below, each_below}
use Rattle.bk_tiling.proofs.ExampleTilings.{square_at}
use Rattle.bk_tiling.proofs.LevelTest.{level_from_tests}
use Rattle.bk_tiling.specs.Column.{AreRuns, IsFilled, IsLevel, depth}
use Rattle.bk_tiling.specs.Tiling.{covers}
use Rattle.bk_tiling.specs.declared.Segment.{Segment}
use Rattle.bk_tiling.specs.declared.Square.{Square}

-- the squares of sides 18 and 15 at the top
abbrev first_group : List Square
first_group = square_at 0 0 18 ∷ square_at 18 0 15 ∷ []

-- a segment by its first column, its width and its level
abbrev segment : ℕ → ℕ → ℕ → Segment
segment x width level = record { x = x; width = width; level = level }

-- column 17 is the last one of the square of side 18, and column 18 the first of that of side 15
depth_before : depth first_group 17 ≡ 18
depth_before = refl

depth_behind : depth first_group 18 ≡ 15
depth_behind = refl

-- the columns of each square are one level run, and no run goes over both
level_left : IsLevel 33 first_group (segment 0 18 18)
level_left = level_from_tests 33 first_group (segment 0 18 18) refl refl refl

level_right : IsLevel 33 first_group (segment 18 15 15)
level_right = level_from_tests 33 first_group (segment 18 15 15) refl refl refl

not_level : IsLevel 33 first_group (segment 17 2 18) → ⊥
not_level run = let same : 15 ≡ 18 = run.level 18 (lit≤ tt) (lit< tt) in omega (arith, same)

two_runs : AreRuns 33 first_group 0 (segment 0 18 18 ∷ segment 18 15 15 ∷ [])
two_runs = (refl, level_left, (refl, level_right, refl))

-- the squares fill each column down to its depth
all_filled : IsFilled 33 first_group
all_filled c j within high = eqb-true (count_by (covers c j) first_group) 1
    (each_below (λ j. nat_eq (count_by (covers c j) first_group) 1) (depth first_group c)
    (each_below (λ c. all_below (λ j. nat_eq (count_by (covers c j) first_group) 1) (depth first_group c)) 33 refl c within) j high)

-- a square under a free cell does not fill its column
not_filled : IsFilled 1 (square_at 0 1 1 ∷ []) → ⊥
not_filled filled = let one : 0 ≡ 1 = filled 0 0 (lit< tt) (lit< tt) in omega (arith, one)
