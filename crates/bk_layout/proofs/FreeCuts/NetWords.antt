-- A simple tiling of at least 3 squares has a net word, and what no net word begins with.
use Rattle.std.specs.List.{AllByRecursion}
use Rattle.std.proofs.Common.{[], subst, ◌++◌, ◌∙◌, ◌∷◌, ◌≤◌}
use Rattle.std.proofs.lemmas.List.{append_assoc}
use Rattle.bk_simple.specs.Simple.{IsSimple}
use Rattle.bk_tiling.specs.Tiling.{IsTiling, Tiling, order}
use Rattle.bk_word.specs.Word.{Move, Word}
use Rattle.bk_layout.specs.TilingLayout.{layout_of}
use Rattle.bk_layout.specs.RuleR.{BeginsNoEvenAbove}
use Rattle.bk_layout.proofs.Reversals.SoundWords.{a_simple_tiling_is_sound_around, a_sound_layout_has_a_sound_word_by_rule_r}
use Rattle.bk_layout.specs.NodeCorners.{HasSoundWordByRuleR, IsSoundAround}
use Rattle.bk_layout.proofs.SignedWords.SignedTilingWords.{a_word_up_to_reversals_is_signed}
use Rattle.bk_layout.specs.NetWord.{AFreeBarrenWordIsNetBarren, ASimpleTilingHasANetWord, EvenThenAboveIsNetBarren}
use Rattle.bk_layout.specs.NetWord.{IsNetWordOf}
use Rattle.bk_layout.specs.SignedWord.{IsSignedWordOf}

-- what no word of a sound layout begins with, no net word begins with
pub a_free_barren_word_is_net_barren : AFreeBarrenWordIsNetBarren
a_free_barren_word_is_net_barren n front barren l w rest sound word keeps is = barren l w rest sound word is

-- the move after some moves
move_of : (P : Move → Type 0) (front : Word) (m : Move) (rest : Word) → AllByRecursion P (front ++ m ∷ rest) → P m
move_of P [] m rest all = all.0
move_of P (a ∷ front) m rest all = move_of P front m rest all.1

-- no net word has a move of two squares or more that begins with the signs even and above
pub even_then_above_is_net_barren : EvenThenAboveIsNetBarren
even_then_above_is_net_barren n front m begins l w rest sound word keeps is =
    begins (move_of BeginsNoEvenAbove front m rest (subst (λ (v : Word). AllByRecursion BeginsNoEvenAbove v) (is ∙ append_assoc front (m ∷ []) rest) keeps))

-- a word by rule R of a sound layout that is the tiling's up to reversed squares, signed for the tiling
pub record HasSignedWord (t : Tiling) : Type 0 where
  pub around : IsSoundAround (order t) (layout_of t)
  pub sound_word : HasSoundWordByRuleR (order t) (layout_of t)
  pub signed : IsSignedWordOf t sound_word.by_rule.word
  pub keeps : AllByRecursion BeginsNoEvenAbove sound_word.by_rule.word

-- a simple tiling of at least 3 squares has one
pub a_simple_tiling_has_a_signed_word : (t : Tiling) → IsTiling t → IsSimple t → 3 ≤ order t → HasSignedWord t
a_simple_tiling_has_a_signed_word t tiling simple many = from (a_sound_layout_has_a_sound_word_by_rule_r (order t) (layout_of t) around)
  where
    around : IsSoundAround (order t) (layout_of t)
    around = a_simple_tiling_is_sound_around t tiling simple many

    from : HasSoundWordByRuleR (order t) (layout_of t) → HasSignedWord t
    from h = record {
      around = around;
      sound_word = h;
      signed = (a_word_up_to_reversals_is_signed t h.by_rule.layout h.by_rule.word tiling h.by_rule.fits h.by_rule.same h.by_rule.is_word).0;
      keeps = h.by_rule.none around.sound.simple.twins;
    }

-- a simple tiling of at least 3 squares has a net word
pub a_simple_tiling_has_a_net_word : ASimpleTilingHasANetWord
a_simple_tiling_has_a_net_word t tiling simple many = from (a_simple_tiling_has_a_signed_word t tiling simple many)
  where
    from : HasSignedWord t → (w : Word) × IsNetWordOf t w
    from s = let h = s.sound_word in (
      h.by_rule.word,
      record {
        signed = s.signed;
        keeps = s.keeps;
        no_barren = λ front rest is barren. barren h.by_rule.layout h.by_rule.word rest h.around.sound h.by_rule.is_word s.keeps is;
      },
    )
