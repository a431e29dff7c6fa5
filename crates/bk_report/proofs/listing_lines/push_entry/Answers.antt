use Rattle.std.specs.Prelude.{decimal}
use Rattle.bk_code.specs.Code.{code_of}
use Rattle.bk_text.specs.CodeText.{code_text, size_text}
use Rattle.bk_tiling.specs.Tiling.{order}
use Rattle.bk_word.specs.WordText.{word_text}
use Rattle.bk_report.proofs.ListingPieces.{entry_pieces}
use Rattle.bk_report.proofs.listing_lines.push_entry.Goals as goal

pub returns-clause-text : goal.returns-clause-text
returns-clause-text c =
    rw (
      c.write_word.ensures.text,
      c.push_bytes.ensures,
      c.push_tiling.ensures.text,
      c.push_filled.ensures.text,
      c.order.ensures.value,
    )
    (entry_pieces c.args.out.now.items (decimal (order c.args.tiling.now)) (size_text c.args.tiling.now.width c.args.tiling.now.height)
    (code_text (code_of c.args.tiling.now)) (word_text c.args.word.now))

pub push_tiling-requires-clause-code : goal.push_tiling-requires-clause-code
push_tiling-requires-clause-code c = c.requires.code

pub write_word-requires-clause-some : goal.write_word-requires-clause-some
write_word-requires-clause-some c = c.requires.some
