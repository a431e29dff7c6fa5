-- Texts whose marks are replaced by numbers, and lines of pieces, read from the left.
use Rattle.std.specs.Fmt.{digits}
use Rattle.std.specs.Prelude.{codes, cond, decimal, nat_eq, slice_index_or, ◌⊎◌}
use Rattle.std.proofs.Common.{Bool, List, [], ap, append_assoc, arith, drop, false, inl, inr, length, refl, sym, ℕ, ◌++◌, ◌+◌, ◌<◌, ◌∙◌, ◌∷◌, ◌≡◌, ◌≤◌}
use Rattle.std.proofs.lemmas.Bool.Decides.{nat_tests}
use Rattle.std.proofs.lemmas.List.{append-nil, drop_more, length-drop}
use Rattle.bk_report.specs.Answers.{line, spaced}
use Rattle.bk_report.specs.Templates.{before, filled}

-- a text before another one is the two, one after the other
pub before-append : (text rest : List ℕ) → before text rest ≡ text ++ rest
before-append text [] = sym (append-nil text)
before-append text (byte ∷ rest) = refl

-- the digits of the next number stand for a mark, if there is a number
pub filled-number : (text numbers : List ℕ) (i k : ℕ) → i < length text → slice_index_or text i 0 ≡ 35 → k < length numbers
    → filled (drop i text) (drop k numbers) ≡ decimal (slice_index_or numbers k 0) ++ filled (drop (i + 1) text) (drop (k + 1) numbers)
filled-number text numbers i k inside mark more =
    (λ j. filled (drop_more text i 0 inside j) (drop_more numbers k 0 more j))
    ∙ ap (λ (byte : ℕ). filled (byte ∷ drop (i + 1) text) (slice_index_or numbers k 0 ∷ drop (k + 1) numbers)) mark
    ∙ before-append (decimal (slice_index_or numbers k 0)) (filled (drop (i + 1) text) (drop (k + 1) numbers))

stays : (byte : ℕ) (text numbers : List ℕ) → ((byte ≡ 35) × (length numbers ≤ 0)) ⊎ (byte ≡ 35 → ⊥) → filled (byte ∷ text) numbers ≡ byte ∷ filled text numbers
stays byte text [] h = refl
stays byte text (number ∷ numbers) (inl (e, few)) = absurd (omega (arith, few))
stays byte text (number ∷ numbers) (inr other) =
    let no : nat_eq byte 35 ≡ false = grind (arith, nat_tests) in
    ap (λ (b : Bool). cond b (before (decimal number) (filled text numbers)) (byte ∷ filled text (number ∷ numbers))) no

-- a byte stays that is no mark, and a mark behind the last number
pub filled-byte : (text numbers : List ℕ) (i k : ℕ) → i < length text
    → ((slice_index_or text i 0 ≡ 35) × (length numbers ≤ k)) ⊎ (slice_index_or text i 0 ≡ 35 → ⊥)
    → filled (drop i text) (drop k numbers) ≡ slice_index_or text i 0 ∷ filled (drop (i + 1) text) (drop k numbers)
filled-byte text numbers i k inside h =
    ap (λ (l : List ℕ). filled l (drop k numbers)) (drop_more text i 0 inside)
    ∙ stays (slice_index_or text i 0) (drop (i + 1) text) (drop k numbers) (left h)
  where
    left : ((slice_index_or text i 0 ≡ 35) × (length numbers ≤ k)) ⊎ (slice_index_or text i 0 ≡ 35 → ⊥)
        → ((slice_index_or text i 0 ≡ 35) × (length (drop k numbers) ≤ 0)) ⊎ (slice_index_or text i 0 ≡ 35 → ⊥)
    left (inl (e, few)) = inl (e, omega (arith, length-drop k numbers))
    left (inr other) = inr other

-- pieces with one blank between each two, and a line feed behind the last one
abbrev pub ended : List (List ℕ) → List ℕ
ended [] = 10 ∷ []
ended (piece ∷ []) = piece ++ 10 ∷ []
ended (piece ∷ next ∷ pieces) = piece ++ 32 ∷ ended (next ∷ pieces)

-- the pieces as a line are that
pub line-ended : (pieces : List (List ℕ)) → line pieces ≡ ended pieces
line-ended [] = refl
line-ended (piece ∷ []) = refl
line-ended (piece ∷ next ∷ pieces) =
    append_assoc piece (32 ∷ spaced (next ∷ pieces)) (10 ∷ []) ∙ ap (λ (l : List ℕ). piece ++ 32 ∷ l) (line-ended (next ∷ pieces))

-- the template of the line about a repeat, filled with its two numbers
pub filled_example : filled (codes "line # repeats #") (7 ∷ 2 ∷ []) ≡ codes "line 7 repeats 2"
unfolding digits
filled_example = refl
