-- An entry that is written is in the grammar of lines of codes, with its word as a comment.
use Rattle.std.specs.Prelude.{codes, refl, ℕ, ◌++◌}
use Rattle.std.proofs.Common.{List, [], arith, inl, inr, ◌∷◌}
use Rattle.bk_grammar.specs.Grammar.{LineEnd}
use Rattle.bk_tiling.proofs.Sizes.{high_enough, most_height, most_width}
use Rattle.bk_tiling.proofs.TilingLaws.{wide_enough}
use Rattle.bk_tiling.specs.Tiling.{order}
use Rattle.bk_code.proofs.CodeOfTiling.{code_kept, code_some}
use Rattle.bk_code.specs.Code.{code_of}
use Rattle.bk_text.proofs.WrittenLines.{written_item}
use Rattle.bk_word.specs.WordText.{word_text}
use Rattle.bk_report.specs.EntryLaws.{AWrittenEntryIsRead}

-- a blank, and the word behind a semicolon
comment : (word : List ℕ) → LineEnd (32 ∷ (codes ";" ++ 32 ∷ word))
comment word = (32 ∷ [], codes ";" ++ 32 ∷ word, refl, (inl refl, tt), inr (32 ∷ word, refl))

-- the entry of a tiling is a line that stands for its order, size and code, its word as a comment
pub a_written_entry_is_read : AWrittenEntryIsRead
a_written_entry_is_read t w kept =
    written_item (order t) t.width t.height (code_of t) (32 ∷ (codes ";" ++ 32 ∷ word_text w))
    (((kept.tiling).tiles).some, omega (arith, kept.few))
    (wide_enough t kept.tiling, omega (arith, most_width t kept))
    (high_enough t kept.tiling, omega (arith, most_height t kept))
    (code_kept t kept) (code_some t kept.tiling) (comment (word_text w))
