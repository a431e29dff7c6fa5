-- What the squares over one level of a rectangle cover.
-- Example (RefusalExamples): in a rectangle of width 3 the squares (0, 0, 2), (2, 0, 1) cover level 0, and not level 1,
-- where column 2 is the first one that is free.
use Rattle.std.specs.Prelude.{List, count_by, ℕ, ◌<◌, ◌≡◌, ◌≤◌}
use Rattle.bk_tiling.specs.Tiling.{covers}
use Rattle.bk_tiling.specs.declared.Square.{Square}
use Rattle.bk_tiling.specs.declared.checks.Row.TheVariants.{Covered, Free}
use Rattle.bk_tiling.specs.declared.checks.Row.{Row}

-- the squares cover each cell of the levels from y to a later one; or there is a first free cell at level y
abbrev pub IsRowAt : ℕ → List Square → ℕ → Row → Type 0
IsRowAt width squares y (Covered until) =
    (y < until) × ((i j : ℕ) → i < width → y ≤ j → j < until → 0 < count_by (covers i j) squares)
IsRowAt width squares y (Free x) =
    (x < width) × (count_by (covers x y) squares ≡ 0) × ((i : ℕ) → i < x → 0 < count_by (covers i y) squares)
