use Rattle.bk_code.specs.Code.{code_of}
use Rattle.bk_text.specs.CodeText.{code_text, size_text}
use Rattle.bk_code.proofs.CodeOfTiling.{code_some}
use Rattle.bk_report.proofs.Spaces.{tiling_words}
use Rattle.bk_report.proofs.answer.push_tiling.Goals as goal

pub returns-clause-text : goal.returns-clause-text
returns-clause-text c =
    rw (
      c.write_code.ensures.text,
      c.requires.code,
      c.push.ensures.items,
      c.write_size.ensures.text,
      c.width.ensures.value,
      c.height.ensures.value,
    )
    (tiling_words c.args.out.now.items (size_text c.args.tiling.now.width c.args.tiling.now.height) (code_text (code_of c.args.tiling.now)))

pub write_code-requires-clause-some : goal.write_code-requires-clause-some
write_code-requires-clause-some c = rw c.requires.code (code_some c.args.tiling.now c.width.ensures.kept.tiling)
