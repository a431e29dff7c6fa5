-- The rectangle 33x32 has a normal image with a word of which no beginning is barren, and words that are not sought.
use Rattle.std.proofs.Common.{arith, refl, ◌++◌, ◌≡◌}
use Rattle.bk_tiling.proofs.ExampleTilings.{rectangle_33x32}
use Rattle.bk_tiling.proofs.TilingTest.{tiling_from_test}
use Rattle.bk_simple.proofs.SimpleTest.{simple_from_test}
use Rattle.bk_tiling.specs.Tiling.{IsTiling, order}
use Rattle.bk_word.specs.Word.{Word}
use Rattle.bk_layout.proofs.NormalImages.NormalExamples.{no_moves_left, two_under}
use Rattle.bk_layout.proofs.NormalImages.ImagesToMeet.{each_simple_tiling_has_a_normal_word}
use Rattle.bk_layout.specs.NormalImage.{HasNormalWord, IsNormalSought}

tiling_33x32 : IsTiling rectangle_33x32
tiling_33x32 = tiling_from_test rectangle_33x32 refl

word_33x32 : HasNormalWord rectangle_33x32
word_33x32 = each_simple_tiling_has_a_normal_word rectangle_33x32 tiling_33x32 (simple_from_test rectangle_33x32 tiling_33x32 refl) (omega (arith, nine))
  where
    nine : order rectangle_33x32 ≡ 9
    nine = refl

-- no sought word of five squares begins with 2u.2ua, since of its three moves one is left, and two segments must be closed
not_sought : (rest : Word) → IsNormalSought 5 (two_under ++ rest) → ⊥
not_sought rest sought = sought.fertile two_under rest refl no_moves_left
