-- What `solve` answers to the word 2u.1e of the rectangle 3x2, to its first move alone, and to a word with an illegal move.
use Rattle.std.specs.Fmt.{digits}
use Rattle.std.specs.Prelude.{codes}
use Rattle.std.proofs.Common.{[], arith, false, inl, inr, lit<, lit≤, refl, true, ℕ, ◌∷◌, ◌≤◌}
use Rattle.bk_sym.proofs.CanonicalTests.{canonical_by_test}
use Rattle.bk_grammar.specs.Grammar.{IsBlank}
use Rattle.bk_tiling.proofs.ExampleTilings.{rectangle_3x2}
use Rattle.bk_tiling.proofs.TilingTest.{tiling_from_test}
use Rattle.bk_tiling.specs.Scale.{IsPrimitiveTiling}
use Rattle.bk_tiling.specs.Tiling.{IsTiling}
use Rattle.bk_sym.proofs.CanonicalPrimitive.{canonical_primitive}
use Rattle.bk_sym.specs.declared.Turn.TheVariants.{Same}
use Rattle.bk_word.proofs.ItemParts.{item_found}
use Rattle.bk_word.proofs.WordExamples.{two}
use Rattle.bk_word.specs.Play.{IsComplete}
use Rattle.bk_word.specs.declared.Sign.TheVariants.{Even, Under}
use Rattle.bk_lay.proofs.WordTest.{passes_as_valley_by_tests, word_by_valleys}
use Rattle.bk_lay.specs.TilingWord.{IsWordOf}
use Rattle.bk_skel.proofs.NarrowWords.{no_small_word_is_wide}
use Rattle.bk_word_net.proofs.PlacedSquares.PrimitiveTiling.{a_word_has_one_primitive_tiling}
use Rattle.bk_word_net.proofs.WordFlows.WordNetExamples.{word_3x2}
use Rattle.bk_word_net.specs.Realised.{IsTilingOf}
use Rattle.bk_answer.specs.WordAnswer.{AnswersWord, AnswersWordLine, HasWord, illegal, no_word_item, of_word, realised, unfinished}

tiling-3x2 : IsTiling rectangle_3x2
tiling-3x2 = tiling_from_test rectangle_3x2 refl

primitive-3x2 : IsPrimitiveTiling rectangle_3x2
primitive-3x2 = canonical_primitive rectangle_3x2 tiling-3x2 (canonical_by_test rectangle_3x2 rectangle_3x2 Same refl (lit≤ tt) refl)

-- two squares under the top, and one under the second of them
has_word_3x2 : IsWordOf rectangle_3x2 word_3x2
has_word_3x2 = word_by_valleys rectangle_3x2 []
    (record { x = 0; width = 3; level = 0 } ∷ record { x = 2; width = 1; level = 1 } ∷ []) (
      passes_as_valley_by_tests _ _ _ refl refl refl refl refl refl,
      refl,
      (passes_as_valley_by_tests _ _ _ refl refl refl refl refl refl, refl, refl),
    )

-- the rectangle is the one primitive tiling of the word
tiling_of_word : IsTilingOf word_3x2 rectangle_3x2
tiling_of_word = record {
  tiling = tiling-3x2;
  primitive = primitive-3x2;
  word = has_word_3x2;
  only = λ u tiling primitive is. a_word_has_one_primitive_tiling u rectangle_3x2 word_3x2 tiling tiling-3x2 primitive primitive-3x2 is has_word_3x2;
}

complete : IsComplete word_3x2
complete = record {
  legal = (record { some = omega arith; signs = refl }, (record { some = omega arith; signs = refl }, tt));
  some = lit< tt;
  one = refl;
}

no_blank : (b : ℕ) → 33 ≤ b → IsBlank b → ⊥
no_blank b h (inl e) = omega (arith, h, e)
no_blank b h (inr (inl e)) = omega (arith, h, e)
no_blank b h (inr (inr e)) = omega (arith, h, e)

stands_there : HasWord (codes "2u.1e") word_3x2
unfolding digits
stands_there = record {
  start = 0;
  text = codes "2u.1e";
  item = record {
    short = lit≤ tt;
    stop = 5;
    item = item_found (codes "2u.1e") (codes "2u.1e") 5 0 5 refl (lit≤ tt)
        ((λ e. omega (arith, e)), ((λ e. omega (arith, e)), ((λ e. omega (arith, e)), ((λ e. omega (arith, e)), ((λ e. omega (arith, e)), tt)))))
        (inl refl) (lit< tt) (lit≤ tt) tt (no_blank 50 (lit≤ tt)) tt (no_blank 101 (lit≤ tt));
    text_is = refl;
  };
  word = record {
    some = lit< tt;
    moves = (
      record { stands = record { some = lit< tt; least = lit≤ tt; most = lit≤ tt }; digits = lit≤ tt },
      (record { stands = record { some = lit< tt; least = lit≤ tt; most = lit≤ tt }; digits = lit≤ tt }, tt),
    );
    text = refl;
  };
  few = lit≤ tt;
}

-- so that is what is answered to it
solved_3x2 : AnswersWordLine (codes "2u.1e") (codes "3x2 [2,1][1]\n" ∷ []) false
unfolding digits
solved_3x2 = of_word word_3x2 _ false stands_there
    (realised rectangle_3x2 complete (no_small_word_is_wide word_3x2 complete (lit≤ tt)) tiling_of_word)

-- the first move alone leaves two segments
two_left : AnswersWord (two Under ∷ []) (codes "unfinished\n" ∷ []) true
two_left = unfinished (record { some = omega arith; signs = refl }, tt) (lit< tt)

-- two squares under the second would have a sign towards the first too
sign_wanting : AnswersWord (two Under ∷ two Even ∷ []) (codes "illegal 2\n" ∷ []) true
unfolding digits
sign_wanting = illegal 2 (record {
  some = omega arith;
  within = omega arith;
  before = (record { some = omega arith; signs = refl }, tt);
  here = λ legal. absurd (omega (arith, (legal.1).0.signs));
})

-- a line of blanks has no answer
blanks_alone : AnswersWordLine (codes "  ") [] false
blanks_alone = no_word_item (lit≤ tt) (codes "  ", [], refl, (inl refl, (inl refl, tt)), inl refl)
