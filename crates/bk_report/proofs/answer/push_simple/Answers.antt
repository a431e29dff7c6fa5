use Rattle.std.proofs.lemmas.List.{length-append}
use Rattle.bk_simple.specs.Border.{rectangle_of}
use Rattle.bk_report.specs.Answers.{simple_text}
use Rattle.std.proofs.Common.{ap, arith, length, sym, ℕ, ◌++◌, ◌∙◌}
use Rattle.std.specs.Prelude.{decimal, option_map}
use Rattle.bk_text.specs.CodeText.{size_text}
use Rattle.bk_report.proofs.Spaces.{compound_pieces}
use Rattle.bk_report.proofs.answer.push_simple.Goals as goal

pub returns-in-Some-clause-text : goal.returns-in-Some-clause-text
returns-in-Some-clause-text c =
    rw (c.in-Some.is, c.write_size.ensures.text, c.push_filled.ensures.text)
    (compound_pieces c.args.out.now.items (decimal c.in-Some.r.x) (decimal c.in-Some.r.y) (size_text c.in-Some.r.width c.in-Some.r.height))

pub returns-in-None-clause-text : goal.returns-in-None-clause-text
returns-in-None-clause-text c = c.push_bytes.ensures ∙ ap (λ r. c.args.out.now.items ++ simple_text (option_map rectangle_of r)) (sym c.in-None.is)

pub returns-in-None-clause-short : goal.returns-in-None-clause-short
returns-in-None-clause-short c = omega (arith, length-append {A = ℕ}, ap length c.push_bytes.ensures)
