use Rattle.std.specs.Prelude.{codes, decimal}
use Rattle.std.proofs.Common.{List, [], ap, sym, ℕ, ◌∙◌, ◌∷◌}
use Rattle.bk_report.proofs.TemplateLaws.{ended, line-ended}
use Rattle.bk_report.proofs.trial.write_trial.Goals as goal

pub returns : goal.returns
returns c =
    let words : ℕ → List (List ℕ) = λ count. codes "trial" ∷ codes "seed" ∷ decimal c.args.seed ∷ codes "count" ∷ decimal count ∷ codes "ok"
    ∷ decimal c.args.ok ∷ codes "perfect" ∷ decimal c.args.perfect ∷ codes "simple" ∷ decimal c.args.simple ∷ codes "squares"
    ∷ decimal c.args.squares ∷ [] in
    rw (c.push_filled.ensures.text, c.clear.ensures) (ap (λ count. ended (words count)) c.from.ensures ∙ sym (line-ended (words c.args.count)))
