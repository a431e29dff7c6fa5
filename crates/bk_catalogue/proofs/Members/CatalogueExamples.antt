-- The catalogues of order 2: of the class imperfect the row of two squares of side 1, with the word 2e; of the class perfect
-- none. What a walk gives from the start.
use Rattle.std.proofs.Common.{Contains, [], arith, lit<, lit≤, refl, subst, sym, ◌∷◌, ◌≡◌}
use Rattle.bk_sym.proofs.CanonicalTests.{canonical_by_test}
use Rattle.bk_tiling.proofs.TilingTest.{tiling_from_test}
use Rattle.bk_tiling.specs.Tiling.{IsTiling, Tiling}
use Rattle.bk_simple.specs.Simple.{IsPerfect, IsSimple}
use Rattle.bk_sym.specs.Canonical.{IsCanonical}
use Rattle.bk_sym.specs.declared.Turn.TheVariants.{Same}
use Rattle.bk_word.proofs.WordExamples.{two}
use Rattle.bk_word.specs.Word.{Word}
use Rattle.bk_word.specs.declared.Class.TheVariants.{Imperfect, Perfect}
use Rattle.bk_word.specs.declared.Sign.TheVariants.{Even}
use Rattle.bk_lay.proofs.Valleys.{a_tiling_has_one_word}
use Rattle.bk_lay.proofs.WordTest.{passes_as_valley_by_tests, word_by_valleys}
use Rattle.bk_lay.specs.TilingWord.{IsWordOf}
use Rattle.bk_catalogue.proofs.Members.TwoSquares.{only_row_of_two, row_of_two}
use Rattle.bk_catalogue.specs.Catalogue.{Entry, IsCatalogue, IsEntry}

-- the word 2e of the row of two squares
abbrev pub row_word : Word
row_word = two Even ∷ []

-- the row with its word
abbrev pub row_entry : Entry
row_entry = record { tiling = row_of_two; word = row_word }

row_is : IsTiling row_of_two
row_is = tiling_from_test row_of_two refl

-- the row of two squares has the word 2e
pub has_word : IsWordOf row_of_two row_word
has_word = word_by_valleys row_of_two [] (record { x = 0; width = 2; level = 0 } ∷ [])
    (passes_as_valley_by_tests _ _ _ refl refl refl refl refl refl, refl, refl)

simple : IsSimple row_of_two
simple (r, part) = omega (arith, part.several, part.not_all)

imperfect : IsPerfect row_of_two → ⊥
imperfect perfect = perfect 0 1 (record { x = 0; y = 0; s = 0 }) (lit< tt) (lit< tt) refl

canonical : IsCanonical row_of_two
canonical = canonical_by_test row_of_two row_of_two Same refl (lit≤ tt) refl

-- the row of two squares with its word is an entry of order 2 of the class imperfect
pub entry_is : IsEntry 2 Imperfect row_entry
entry_is = record { member = record { tiling = row_is; order = refl; simple = simple; class = imperfect; canonical = canonical }; word = has_word }

-- each imperfect member of order 2 is this one
row_of : (e : Entry) → IsEntry 2 Imperfect e → e.tiling ≡ row_of_two
row_of e is = only_row_of_two e.tiling (is.member).tiling (is.member).order (is.member).canonical

-- each such entry has this word
pub row_word_of : (e : Entry) → IsEntry 2 Imperfect e → row_word ≡ e.word
row_word_of e is = a_tiling_has_one_word row_of_two row_word e.word has_word (subst (λ (t : Tiling). IsWordOf t e.word) (row_of e is) is.word)

-- the row of two squares with its word is the only entry of order 2 of the class imperfect
pub only : (e : Entry) → IsEntry 2 Imperfect e → Contains (row_entry ∷ []) e
only e is = (0, lit< tt, λ i. record { tiling = sym (row_of e is) i; word = row_word_of e is i })

-- no member of order 2 is perfect
pub no_perfect : (e : Entry) → IsEntry 2 Perfect e → ⊥
no_perfect e is = imperfect (subst IsPerfect (only_row_of_two e.tiling (is.member).tiling (is.member).order (is.member).canonical) (is.member).class)

-- the whole catalogue of the class imperfect, and that of the class perfect
imperfect_catalogue : IsCatalogue 2 Imperfect (row_entry ∷ [])
imperfect_catalogue = record { each = (entry_is, tt); ascending = (tt, tt); all = only }

perfect_catalogue : IsCatalogue 2 Perfect []
perfect_catalogue = record { each = tt; ascending = tt; all = λ e is. absurd (no_perfect e is) }
