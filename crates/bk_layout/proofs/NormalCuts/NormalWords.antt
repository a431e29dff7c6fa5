-- What no word of a normal layout begins with, and that a normal tiling has a word of which no beginning is so.
use Rattle.std.proofs.Common.{◌∙◌, ◌≡◌}
use Rattle.bk_tiling.specs.Tiling.{order}
use Rattle.bk_word.specs.Word.{Word}
use Rattle.bk_layout.specs.TilingLayout.{layout_of}
use Rattle.bk_layout.proofs.NormalImages.LayoutCounts.{the_layout_has_the_counts}
use Rattle.bk_layout.specs.Normal.{counts_of}
use Rattle.bk_layout.specs.NodeCorners.{HasSoundWordByRuleR}
use Rattle.bk_layout.proofs.FreeCuts.NetWords.{HasSignedWord, a_simple_tiling_has_a_signed_word}
use Rattle.bk_layout.proofs.Reversals.NumbersKept.{a_normal_tiling_has_a_normal_layout, reversals_keep_counts, reversals_keep_normal}
use Rattle.bk_layout.proofs.NormalCuts.NumbersShown.{a_word_shows_numbers}
use Rattle.bk_layout.specs.NormalCuts.{ANetBarrenWordIsNormalBarren, ANormalTilingHasANormalWord, IsNormalWordOf}
use Rattle.bk_layout.specs.NormalLayout.{IsNormalLayout}
use Rattle.bk_layout.specs.WordNumbers.{counts_of_word}

-- what no net word begins with, no word of a normal layout does
pub a_net_barren_word_is_normal_barren : ANetBarrenWordIsNormalBarren
a_net_barren_word_is_normal_barren n front barren l w rest sound normal word keeps is = barren l w rest sound word keeps is

-- a normal and simple tiling has such a word
pub a_normal_tiling_has_a_normal_word : ANormalTilingHasANormalWord
a_normal_tiling_has_a_normal_word t tiling simple many normal = from (a_simple_tiling_has_a_signed_word t tiling simple many)
  where
    from : HasSignedWord t → (w : Word) × IsNormalWordOf t w
    from s = (
      sound_word.by_rule.word,
      record {
        signed = s.signed;
        keeps = s.keeps;
        counts = counts;
        no_barren = λ front rest is barren. barren sound_word.by_rule.layout sound_word.by_rule.word rest sound_word.around.sound normal_layout
            sound_word.by_rule.is_word s.keeps is;
      },
    )
      where
        sound_word : HasSoundWordByRuleR (order t) (layout_of t)
        sound_word = s.sound_word

        normal_layout : IsNormalLayout sound_word.by_rule.layout
        normal_layout = reversals_keep_normal (layout_of t) sound_word.by_rule.layout s.around.sound.fits s.around.sound.walls
            sound_word.around.sound.fits sound_word.around.sound.walls sound_word.by_rule.same (a_normal_tiling_has_a_normal_layout t tiling normal)

        counts : counts_of_word sound_word.by_rule.word ≡ counts_of t
        counts = (a_word_shows_numbers sound_word.by_rule.layout sound_word.by_rule.word sound_word.around.sound.fits sound_word.around.sound.walls
            sound_word.by_rule.is_word).counts
            ∙ (reversals_keep_counts (layout_of t) sound_word.by_rule.layout s.around.sound.fits s.around.sound.walls sound_word.around.sound.fits
            sound_word.around.sound.walls sound_word.by_rule.same).counts ∙ the_layout_has_the_counts t tiling
