-- The pieces of the lines about a list, one after another.
use Rattle.std.proofs.Common.{List, [], append_assoc, ℕ, ◌++◌, ◌∷◌, ◌≡◌}
use Rattle.std.specs.Prelude.{codes}
use Rattle.bk_report.specs.Answers.{line, spaced}

-- the pieces of a refusal, put together, are the line of its number and its text
pub refused_pieces : (number text : List ℕ) → ((codes "line " ++ (number ++ codes " ")) ++ text) ++ 10 ∷ [] ≡ line (codes "line" ∷ number ∷ text ∷ [])
refused_pieces number text = simp append_assoc

-- a number and a text with a blank between and a line feed behind make a line of two
pub two_pieces : (number text : List ℕ) → ((number ++ codes " ") ++ text) ++ 10 ∷ [] ≡ line (number ∷ text ∷ [])
two_pieces number text = simp append_assoc

-- two numbers, a size and a code with blanks between make a line of the four
pub pair_pieces : (first second size code : List ℕ)
    → ((first ++ 32 ∷ (second ++ codes " ")) ++ spaced (size ∷ code ∷ [])) ++ 10 ∷ [] ≡ line (first ∷ second ∷ size ∷ code ∷ [])
pair_pieces first second size code = simp append_assoc
