-- A word and the sides of its tiling in the order of laying, which isn't the order of the code; and words that are refused.
use Rattle.std.proofs.Common.{List, None, Some, [], arith, lit<, refl, ℕ, ◌++◌, ◌∷◌, ◌≡◌}
use Rattle.bk_tiling.proofs.ExampleTilings.{rectangle_65x47}
use Rattle.bk_tiling.proofs.TilingTest.{tiling_from_test}
use Rattle.bk_tiling.specs.SquareGroups.{laid_group}
use Rattle.bk_tiling.specs.declared.Segment.{Segment}
use Rattle.bk_tiling.specs.declared.Square.{Square}
use Rattle.bk_word.proofs.WordExamples.{two, word_65x47}
use Rattle.bk_word.specs.Word.{Word}
use Rattle.bk_word.specs.declared.Sign.TheVariants.{Even, Under}
use Rattle.bk_lay.proofs.WordExamples.{the_word_65x47}
use Rattle.bk_lay.proofs.WordTest.{passes_as_valley, passes_as_valley_by_tests}
use Rattle.bk_word_net.specs.LaidTiling.{IsLaidWith}
use Rattle.bk_skel.specs.RealisedIn.{tiling_found}
use Rattle.bk_skel.specs.SolveRefusal.{IsFirstIllegal, IsSolveFault}
use Rattle.bk_skel.specs.declared.placing.Realised.TheVariants.{Found, Nothing}
use Rattle.bk_skel.specs.declared.realising.SolveFault.TheVariants.{Illegal, OpenEnd}

abbrev segment : ℕ → ℕ → ℕ → Segment
segment x width level = record { x = x; width = width; level = level }

abbrev laid_65x47 : List Square
laid_65x47 = laid_group 0 0 (25 ∷ 17 ∷ 23 ∷ []) ++ laid_group 25 17 (11 ∷ 6 ∷ []) ++ laid_group 0 25 (22 ∷ 3 ∷ [])
    ++ laid_group 36 23 (5 ∷ 24 ∷ []) ++ laid_group 22 28 (19 ∷ [])

laid-65x47 : IsLaidWith word_65x47 (25 ∷ 17 ∷ 23 ∷ 11 ∷ 6 ∷ 22 ∷ 3 ∷ 5 ∷ 24 ∷ 19 ∷ []) rectangle_65x47
laid-65x47 = record {
  tiling = tiling_from_test rectangle_65x47 refl;
  word = the_word_65x47;
  laid = laid_65x47;
  levels = 0 ∷ 17 ∷ 25 ∷ 23 ∷ 28 ∷ 47 ∷ [];
  along = (
    segment 0 65 0,
    passes_as_valley _ _ _ (passes_as_valley_by_tests _ _ _ refl refl refl refl refl refl),
    (
      segment 25 17 17,
      passes_as_valley _ _ _ (passes_as_valley_by_tests _ _ _ refl refl refl refl refl refl),
      (
        segment 0 25 25,
        passes_as_valley _ _ _ (passes_as_valley_by_tests _ _ _ refl refl refl refl refl refl),
        (
          segment 36 29 23,
          passes_as_valley _ _ _ (passes_as_valley_by_tests _ _ _ refl refl refl refl refl refl),
          (segment 22 19 28, passes_as_valley _ _ _ (passes_as_valley_by_tests _ _ _ refl refl refl refl refl refl), (refl, refl)),
        ),
      ),
    ),
  );
  sides = refl;
}

-- the second move of 2u.2e.1 wants a sign towards its left neighbour too
abbrev illegal_word : Word
illegal_word = record { count = 2; signs = Under ∷ [] } ∷ record { count = 2; signs = Even ∷ [] } ∷ record { count = 1; signs = [] } ∷ []

illegal-2 : IsFirstIllegal illegal_word 2
illegal-2 = record {
  some = omega arith;
  within = omega arith;
  before = (record { some = omega arith; signs = refl }, tt);
  here = λ legal. absurd (omega (arith, (legal.1).0.signs));
}

illegal : IsSolveFault illegal_word (Illegal 2)
illegal = illegal-2

-- 2u leaves two segments, and 2e one
open_end : IsSolveFault (two Under ∷ []) OpenEnd
open_end = ((record { some = omega arith; signs = refl }, tt), lit< tt)

not_open : IsSolveFault (two Even ∷ []) OpenEnd → ⊥
not_open fault = omega (arith, fault.1)

-- where nothing is found the room tells no tiling
nothing_found : tiling_found Nothing rectangle_65x47 ≡ None
nothing_found = refl

room_found : tiling_found Found rectangle_65x47 ≡ Some rectangle_65x47
room_found = refl
