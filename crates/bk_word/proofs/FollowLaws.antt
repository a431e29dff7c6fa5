-- Which words follow others: none follows itself, and a word of some moves follows that of none.
use Rattle.std.specs.Cmp.{tied_itself}
use Rattle.std.specs.declared.cmp.Ordering.TheVariants.{Equal, Greater, Less}
use Rattle.std.proofs.Common.{[], ap, arith, length, refl, sym, ◌<◌, ◌∙◌, ◌∷◌, ◌≡◌}
use Rattle.std.specs.Ordering.{ordering_reverse}
use Rattle.bk_word.proofs.WordOrder.{word_total}
use Rattle.bk_word.specs.Word.{Follows, Word, word_cmp}

-- no word is greater than itself
pub not_itself : (w : Word) → Follows w w → ⊥
not_itself w f = impossible (sym (tied_itself word_total w) ∙ f)
  where
    impossible : Equal ≡ Less → ⊥
    impossible e = cc

-- a word of some moves follows that of none
pub after_none : (w : Word) → 0 < length w → Follows w []
after_none [] h = absurd (omega arith)
after_none (m ∷ w) h = refl

-- a word follows another where that one is greater
pub greater_follows : (v w : Word) → word_cmp v w ≡ Greater → Follows v w
greater_follows v w e = word_total.antisymm w v ∙ ap ordering_reverse e
