use Rattle.std.specs.Prelude.{take, ◌++◌, ◌≡◌}
use Rattle.bk_text.specs.CodeText.{code_text}
use Rattle.bk_text.proofs.writer.write_code.Given as goal

abbrev pub invariant-loop-g : goal.invariant-loop-g
invariant-loop-g l = l.line.items ≡ l.fn.line.items ++ code_text (take l.g l.code)
