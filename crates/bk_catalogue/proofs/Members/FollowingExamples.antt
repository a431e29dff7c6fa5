-- What comes after a cursor in the catalogue of order 2 and the class imperfect, which has the word 2e alone.
use Rattle.std.proofs.Common.{None, [], refl, subst, sym, ◌∷◌}
use Rattle.bk_word.proofs.WordExamples.{two}
use Rattle.bk_word.specs.Word.{Follows, Word}
use Rattle.bk_word.specs.declared.Class.TheVariants.{Imperfect}
use Rattle.bk_word.specs.declared.Sign.TheVariants.{Under}
use Rattle.bk_catalogue.proofs.Members.CatalogueExamples.{entry_is, row_entry, row_word, row_word_of}
use Rattle.bk_catalogue.specs.Following.{HasNoneAfter, HasNoneBetween, start_cursor}

-- no word of the catalogue is after 2e
none_after : HasNoneAfter 2 Imperfect row_word
none_after e is after =
    let itself : Follows row_word row_word = subst (λ (w : Word). Follows w row_word) (sym (row_word_of e is)) after in cc

-- 2e is after the start
not_after_start : HasNoneAfter 2 Imperfect (start_cursor None) → ⊥
not_after_start none = none row_entry entry_is refl

-- no word is between the start and 2e
none_between : HasNoneBetween 2 Imperfect (start_cursor None) row_word
none_between e is after before =
    let itself : Follows row_word row_word = subst (λ (w : Word). Follows row_word w) (sym (row_word_of e is)) before in cc

-- 2e is between the start and 2u
not_between : HasNoneBetween 2 Imperfect (start_cursor None) (two Under ∷ []) → ⊥
not_between none = none row_entry entry_is refl refl
