-- Whether two tilings are laid together, and whether they join to a perfect square, as tests.
-- Example (PairExamples): [2,1][1] can be laid together with itself, but not to a perfect square; the 2 by 2 squares of
-- side 1, which make a square, can't.
use Rattle.std.specs.List.{list_any}
use Rattle.std.specs.Prelude.{Bool, List, [], nat_eq, nat_le, not, true, ℕ, ◌&&◌, ◌+◌, ◌==◌, ◌∷◌, ◌↔◌, ◌≡◌}
use Rattle.bk_tiling.specs.Tiling.{Tiling, order}
use Rattle.bk_tiling.specs.declared.TheConstants.{LONGEST_SIDE, MOST_SQUARES}
use Rattle.bk_pair.specs.Pair.{ArePair, CanBeLaid, pair_sides}

-- no number stands twice
abbrev pub no_twice : List ℕ → Bool
no_twice [] = true
no_twice (x ∷ xs) = not (list_any (λ y. y == x) xs) && no_twice xs

-- the two can be laid together
abbrev pub can_be_laid : Tiling → Tiling → Bool
can_be_laid a b = (nat_eq a.width b.width && nat_eq a.height b.height)
    && (not (nat_eq a.width a.height)
    && (nat_le (order a + order b + 2) MOST_SQUARES
    && (nat_le a.width LONGEST_SIDE && nat_le a.height LONGEST_SIDE)))

-- the two join to a perfect square
abbrev pub are_pair : Tiling → Tiling → Bool
are_pair a b = can_be_laid a b && no_twice (pair_sides a b)

-- the tests decide: statements alone, which are proved apart
abbrev pub TheTestsDecide : Type 0
TheTestsDecide = (a b : Tiling) → ((can_be_laid a b ≡ true) ↔ CanBeLaid a b) × ((are_pair a b ≡ true) ↔ ArePair a b)
