-- The word, the entry and the last lines of a catalogue as they are written.
use Rattle.std.specs.Fmt.{digits}
use Rattle.std.specs.Prelude.{Some, [], codes, refl, ◌++◌, ◌∷◌, ◌≡◌}
use Rattle.bk_tiling.proofs.ExampleTilings.{rectangle_33x32}
use Rattle.bk_code.specs.Code.{code_of}
use Rattle.bk_text.proofs.WhatWasRead.{read_is_line}
use Rattle.bk_text.specs.CodeLine.{IsLine, Item}
use Rattle.bk_word.proofs.WordExamples.{word_33x32}
use Rattle.bk_word.specs.declared.Class.TheVariants.{Imperfect, Perfect}
use Rattle.bk_report.specs.Answers.{line}
use Rattle.bk_report.specs.Listings.{entry_text, last_line, word_line}
use Rattle.bk_report.specs.declared.listing_lines.Last.TheVariants.{End, Limit, Wide}

pub the_word : word_line word_33x32 ≡ codes "2u.2aa.2ue.2eue.1e" ++ 10 ∷ []
unfolding digits
the_word = refl

pub the_entry : line (entry_text rectangle_33x32 word_33x32 ∷ []) ≡ codes "9 33x32 [18,15][7,8][14,4][10,1][9] ; 2u.2aa.2ue.2eue.1e" ++ 10 ∷ []
unfolding digits
the_entry = refl

-- without its line feed that is a line of codes, which stands for the order, the size and the code
pub the_entry_is_read : IsLine (Item (Some 9) (Some (33, 32)) (code_of rectangle_33x32)) (entry_text rectangle_33x32 word_33x32)
unfolding digits
the_entry_is_read = read_is_line (entry_text rectangle_33x32 word_33x32) (Item (Some 9) (Some (33, 32)) (code_of rectangle_33x32)) refl

pub at_the_end : last_line End 9 Perfect 2 [] ≡ codes "; end order 9 listed 2" ++ 10 ∷ []
unfolding digits
at_the_end = refl

pub at_the_limit : last_line Limit 9 Perfect 1 [] ≡ codes "; limit order 9 listed 1" ++ 10 ∷ []
unfolding digits
at_the_limit = refl

pub imperfect : last_line End 2 Imperfect 1 [] ≡ codes "; end order 2 class imperfect listed 1" ++ 10 ∷ []
unfolding digits
imperfect = refl

pub at_a_wide_word : last_line Wide 9 Perfect 0 word_33x32 ≡ codes "; wide order 9 listed 0 at 2u.2aa.2ue.2eue.1e" ++ 10 ∷ []
unfolding digits
at_a_wide_word = refl
