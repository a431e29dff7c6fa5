-- The text of a line about trial codes.
-- Example (AnswerExamples): `trial seed 0 count 2 ok 2 perfect 1 simple 0 squares 272`.
use Rattle.std.specs.Prelude.{List, [], codes, decimal, ℕ, ◌∷◌}
use Rattle.bk_report.specs.AnswerWords.{ok_word, perfect_word, simple_word}
use Rattle.bk_report.specs.Answers.{line}
use Rattle.bk_report.specs.declared.trial.TrialCounts.{TrialCounts}

-- the seed, how many codes there were, how many of them were accepted, how many were perfect and how many simple, and
-- how many squares they had together
abbrev pub trial_line : ℕ → ℕ → TrialCounts → List ℕ
trial_line seed count counts = line (codes "trial"
    ∷ codes "seed" ∷ decimal seed
    ∷ codes "count" ∷ decimal count
    ∷ ok_word ∷ decimal counts.accepted
    ∷ perfect_word ∷ decimal counts.perfect
    ∷ simple_word ∷ decimal counts.simple
    ∷ codes "squares" ∷ decimal counts.squares ∷ [])
