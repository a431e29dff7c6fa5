-- The texts of answers to refused items.
-- Example (AnswerExamples): `no gap 2 15 16`.
use Rattle.std.specs.Prelude.{List, [], codes, decimal, ℕ, ◌∷◌}
use Rattle.bk_text.specs.CodeText.{size_text}
use Rattle.bk_report.specs.AnswerWords.{order_word, wide_word}
use Rattle.bk_report.specs.Answers.{line, spaced}
use Rattle.bk_report.specs.declared.refusal.Refused.{Refused}
use Rattle.bk_report.specs.declared.refusal.Refused.TheVariants.{Gap, Illegal, Large, Long, Loose, Many, More, Nodes}
use Rattle.bk_report.specs.declared.refusal.Refused.TheVariants.{Nothing, Open, Order, Size}
use Rattle.bk_report.specs.declared.refusal.Refused.TheVariants.{Text, Unfinished, Wide, Wire}

-- 'no', and then what is refused, with its numbers
abbrev pub no_text : List (List ℕ) → List ℕ
no_text pieces = spaced (codes "no" ∷ pieces)

-- the text of a refusal
abbrev pub refusal_text : Refused → List ℕ
refusal_text Long = no_text (codes "long" ∷ [])
refusal_text (Text at) = no_text (codes "text" ∷ decimal at ∷ [])
refusal_text Many = no_text (codes "many" ∷ [])
refusal_text (Order sides) = no_text (order_word ∷ decimal sides ∷ [])
refusal_text (Gap group width sum) = no_text (codes "gap" ∷ decimal group ∷ decimal width ∷ decimal sum ∷ [])
refusal_text (Open least greatest) = no_text (codes "open" ∷ decimal least ∷ decimal greatest ∷ [])
refusal_text (Size width height) = no_text (codes "size" ∷ size_text width height ∷ [])
refusal_text Large = no_text (codes "large" ∷ [])
refusal_text (Nodes count) = no_text (codes "nodes" ∷ decimal count ∷ [])
refusal_text (Wire place) = no_text (codes "wire" ∷ decimal place ∷ [])
refusal_text (Loose node) = no_text (codes "loose" ∷ decimal node ∷ [])
refusal_text Wide = wide_word
refusal_text Nothing = codes "none"
refusal_text (Illegal place) = spaced (codes "illegal" ∷ decimal place ∷ [])
refusal_text Unfinished = codes "unfinished"
refusal_text More = no_text (codes "more" ∷ [])

-- the refusal as a line
abbrev pub refusal_line : Refused → List ℕ
refusal_line refused = line (refusal_text refused ∷ [])
