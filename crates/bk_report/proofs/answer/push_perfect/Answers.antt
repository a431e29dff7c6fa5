use Rattle.std.proofs.lemmas.List.{length-append}
use Rattle.bk_report.specs.Answers.{perfect_text}
use Rattle.std.proofs.Common.{ap, arith, length, sym, ℕ, ◌++◌, ◌∙◌}
use Rattle.bk_report.proofs.answer.push_perfect.Goals as goal

pub returns-in-None-clause-text : goal.returns-in-None-clause-text
returns-in-None-clause-text c = c.push_bytes.ensures ∙ ap (λ r. c.args.out.now.items ++ perfect_text r) (sym c.in-None.is)

pub returns-in-None-clause-short : goal.returns-in-None-clause-short
returns-in-None-clause-short c = omega (arith, length-append {A = ℕ}, ap length c.push_bytes.ensures)

pub returns-in-Some-clause-text : goal.returns-in-Some-clause-text
returns-in-Some-clause-text c =
    c.push_filled.ensures.text ∙ ap (λ r. c.args.out.now.items ++ perfect_text r) (sym c.in-Some.is)
