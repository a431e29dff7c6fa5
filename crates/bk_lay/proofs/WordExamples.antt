-- The words of three rectangles.
use Rattle.std.proofs.Common.{List, [], refl, ℕ, ◌∷◌}
use Rattle.bk_tiling.proofs.ExampleTilings.{rectangle_33x32, rectangle_65x47, rectangle_69x61}
use Rattle.bk_tiling.specs.declared.Segment.{Segment}
use Rattle.bk_word.proofs.WordExamples.{word_33x32, word_65x47, word_69x61}
use Rattle.bk_lay.proofs.WordTest.{passing_by_test, word_by_valleys}
use Rattle.bk_lay.specs.TilingWord.{IsWordOf}

abbrev segment : ℕ → ℕ → ℕ → Segment
segment x width level = record { x = x; width = width; level = level }

abbrev valleys_65x47 : List Segment
valleys_65x47 = segment 0 65 0 ∷ segment 25 17 17 ∷ segment 0 25 25 ∷ segment 36 29 23 ∷ segment 22 19 28 ∷ []

-- the word of 65x47
pub the_word_65x47 : IsWordOf rectangle_65x47 word_65x47
the_word_65x47 = word_by_valleys rectangle_65x47 [] valleys_65x47 (passing_by_test rectangle_65x47 [] valleys_65x47 refl)

abbrev valleys_33x32 : List Segment
valleys_33x32 = segment 0 33 0 ∷ segment 18 15 15 ∷ segment 0 18 18 ∷ segment 14 11 22 ∷ segment 24 9 23 ∷ []

-- the word of 33x32
pub the_word_33x32 : IsWordOf rectangle_33x32 word_33x32
the_word_33x32 = word_by_valleys rectangle_33x32 [] valleys_33x32 (passing_by_test rectangle_33x32 [] valleys_33x32 refl)

abbrev valleys_69x61 : List Segment
valleys_69x61 = segment 0 69 0 ∷ segment 36 33 33 ∷ segment 0 36 36 ∷ segment 34 7 38 ∷ segment 25 16 45 ∷ []

-- the word of 69x61
pub the_word_69x61 : IsWordOf rectangle_69x61 word_69x61
the_word_69x61 = word_by_valleys rectangle_69x61 [] valleys_69x61 (passing_by_test rectangle_69x61 [] valleys_69x61 refl)
