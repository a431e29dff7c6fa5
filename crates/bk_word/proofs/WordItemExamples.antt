-- The item of a line of words, and a text of too many squares.
use Rattle.std.specs.Prelude.{List, [], codes, length, refl, replicate, ℕ, ◌++◌, ◌∷◌, ◌≡◌}
use Rattle.std.proofs.Common.{ap, arith, inl, inr, lit<, lit≤}
use Rattle.std.proofs.lemmas.List.{length-append}
use Rattle.bk_grammar.specs.Grammar.{IsBlank}
use Rattle.bk_word.specs.ReadWord.{IsWordFaultOf}
use Rattle.bk_word.specs.Word.{Word}
use Rattle.bk_word.specs.WordItem.{IsItemAt, IsItemOf}
use Rattle.bk_word.specs.WordText.{IsWrittenMove, word_text}
use Rattle.bk_word.specs.declared.Sign.TheVariants.{Even}
use Rattle.bk_word.specs.declared.reading.WordFault.TheVariants.{Many}

no_blank : (b : ℕ) → b ≡ 49 → IsBlank b → ⊥
no_blank b e (inl h) = omega (arith, e, h)
no_blank b e (inr (inl h)) = omega (arith, e, h)
no_blank b e (inr (inr h)) = omega (arith, e, h)

ends_bare : (front : List ℕ) (b : ℕ) → 49 ∷ [] ≡ front ++ b ∷ [] → IsBlank b → ⊥
ends_bare [] b e = no_blank b cc
ends_bare (c ∷ front) b e = λ h. omega (arith, ap (λ (z : List ℕ). length z) e, length-append front (b ∷ []))

begins_bare : (b : ℕ) (back : List ℕ) → 49 ∷ [] ≡ b ∷ back → IsBlank b → ⊥
begins_bare b back e = no_blank b cc

-- the item 1 between two blanks, before a comment
one_square : IsItemOf (codes " 1 ;x") (codes " ") (codes "1") (codes " ") (codes ";x")
one_square = record {
  some = lit< tt;
  whole = refl;
  blanks_before = (inl refl, tt);
  blanks_after = (inl refl, tt);
  no_comment = ((λ e. omega (arith, e)), tt);
  ends_bare = ends_bare;
  begins_bare = begins_bare;
  rest = inr (codes "x", refl);
}

-- it begins at byte 1 and ends at byte 2
one_square_at : IsItemAt (codes " 1 ;x") 1 2
one_square_at = record { order = lit≤ tt; within = lit≤ tt; after = codes " "; comment = codes ";x"; item = one_square }

-- two moves of 101 squares each
abbrev of_202 : Word
of_202 = record { count = 101; signs = replicate 100 Even } ∷ record { count = 101; signs = replicate 100 Even } ∷ []

too_many : IsWordFaultOf Many (word_text of_202)
too_many = (of_202, record { some = lit< tt; moves = (written, (written, tt)); text = refl }, lit< tt)
  where
    written : IsWrittenMove (record { count = 101; signs = replicate 100 Even })
    written = record { stands = record { some = lit< tt; least = lit≤ tt; most = lit≤ tt }; digits = lit≤ tt }
