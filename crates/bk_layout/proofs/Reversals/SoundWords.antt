-- A sound layout has a sound word by rule R, and a simple tiling's layout is such a one.
use Rattle.bk_layout.proofs.FreeCuts.CutsOfTilings.{a_simple_tiling_has_a_sound_layout}
use Rattle.bk_layout.proofs.Reversals.RuleScan.{HasWordThatKeeps, a_word_that_keeps}
use Rattle.bk_layout.proofs.Reversals.SoundReversal.{a_reversed_layout_is_sound}
use Rattle.bk_layout.proofs.TilingLayouts.TilingCorners.{corners}
use Rattle.bk_layout.proofs.TilingLayouts.MeetingEnds.{ends_meet}
use Rattle.bk_layout.specs.NodeCorners.{ASimpleTilingIsSoundAround, ASoundLayoutHasASoundWordByRuleR, HasSoundWordByRuleR, IsSoundAround}

-- up to reversed squares a sound layout has a word by rule R whose layout is sound
pub a_sound_layout_has_a_sound_word_by_rule_r : ASoundLayoutHasASoundWordByRuleR
a_sound_layout_has_a_sound_word_by_rule_r n l around =
    from (a_word_that_keeps (IsSoundAround n) (λ l fits has q p r can. a_reversed_layout_is_sound n l q p r has can) l around.sound.fits around)
  where
    from : HasWordThatKeeps (IsSoundAround n) l → HasSoundWordByRuleR n l
    from h = record { by_rule = h.by_rule; around = h.kept }

-- the layout of a simple tiling of at least 3 squares is sound, also around its nodes
pub a_simple_tiling_is_sound_around : ASimpleTilingIsSoundAround
a_simple_tiling_is_sound_around t tiling simple many = record {
  sound = (a_simple_tiling_has_a_sound_layout t tiling simple many).0;
  corners = corners t tiling;
  ends_meet = ends_meet t tiling;
}
