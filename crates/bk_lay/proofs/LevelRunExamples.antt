-- The outline under the first three squares of the 65 by 47 rectangle, 25, 17 and 23 from left to right: the valley is
-- the run under 17, with one run at either side.
use Rattle.std.proofs.Common.{List, [], ap, arith, nat_eq, refl, subst, sym, true, ℕ, ◌+◌, ◌-◌, ◌<◌, ◌∙◌, ◌∷◌, ◌≡◌}
use Rattle.std.proofs.lemmas.Bool.{eqb-true}
use Rattle.bk_laws.proofs.Tests.{all_below, each_below}
use Rattle.bk_tiling.specs.Column.{depth}
use Rattle.bk_tiling.specs.declared.Square.{Square}
use Rattle.bk_lay.specs.LevelRuns.{IsOutline, IsRun, last_level, runs_under}
use Rattle.bk_lay.specs.declared.outline.Outline.{Outline}
use Rattle.bk_lay.specs.declared.outline.LevelRun.{LevelRun}

abbrev square : ℕ → ℕ → ℕ → Square
square x y s = record { x = x; y = y; s = s }

abbrev run : ℕ → ℕ → ℕ → LevelRun
run x end level = record { x = x; end = end; level = level }

-- the squares 25, 17 and 23 side by side
abbrev pub three_squares : List Square
three_squares = square 0 0 25 ∷ square 25 0 17 ∷ square 42 0 23 ∷ []

-- the outline under them
abbrev pub the_outline : Outline
the_outline = record { left = record { items = run 0 25 25 ∷ [] }; valley = run 25 42 17; right = record { items = run 42 65 23 ∷ [] } }

run_by_test : (laid : List Square) (r : LevelRun) → r.x < r.end → all_below (λ k. nat_eq (depth laid (r.x + k)) r.level) (r.end - r.x) ≡ true → IsRun laid r
run_by_test laid r some e = record {
  some = some;
  level = λ c lo hi. let at : r.x + (c - r.x) ≡ c = omega arith in
      sym (ap (depth laid) at)
      ∙ eqb-true (depth laid (r.x + (c - r.x))) r.level (each_below (λ k. nat_eq (depth laid (r.x + k)) r.level) (r.end - r.x) e (c - r.x)
      (omega arith));
}

-- the outline of three squares in a rectangle of width 65
pub outline_of_three : IsOutline 65 three_squares the_outline
outline_of_three = record {
  runs = record {
    falls = (refl, record { run = run_by_test three_squares (run 0 25 25) (omega arith) refl; wall = λ c e. absurd (omega arith) }, refl);
    run = record { run = run_by_test three_squares (run 25 42 17) (omega arith) refl; wall = λ c e. wall c (omega arith) };
    rest = (refl, run_by_test three_squares (run 42 65 23) (omega arith) refl, refl);
  };
  rises = λ h. omega arith;
}
  where
    deep : 17 < depth three_squares 24
    deep = omega arith

    wall : (c : ℕ) → 24 ≡ c → 17 < depth three_squares c
    wall c e = subst (λ (k : ℕ). 17 < depth three_squares k) e deep

-- as the runs stand from right to left under squares, the last one comes first
pub runs_of_three : runs_under three_squares ≡ run 42 65 23 ∷ run 25 42 17 ∷ run 0 25 25 ∷ []
runs_of_three = refl

-- from right to left, the last run is at level 25
pub last_of_three : last_level (runs_under three_squares) ≡ 25 ∷ []
last_of_three = refl
