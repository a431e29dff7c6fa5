-- Worked examples: the end of a line, numbers, and where bytes leave a grammar.
use Rattle.std.specs.Prelude.{codes, decimal, refl, slice_index, suc, take, zero, ℕ, ◌≡◌, ◌≤◌}
use Rattle.std.proofs.Common.{ap, arith, inl, inr}
use Rattle.bk_grammar.proofs.NumberLaws.{number_from_decimal}
use Rattle.bk_grammar.specs.Grammar.{Is, LineEnd, Number}
use Rattle.bk_grammar.specs.Longest.{Begins, LeavesAt}

-- a blank and a comment end a line
line_end : LineEnd (codes " ;x")
line_end = (codes " ", codes ";x", refl, (inl refl, tt), inr (codes "x", refl))

-- the digits 12 are the number 12
twelve : Number 2 12 (decimal 12)
twelve = number_from_decimal 2 12 (omega arith) (omega arith) (omega arith) (omega arith) (omega arith)

-- no number begins with 0
leading_zero : (n : ℕ) → Number 3 n (codes "012") → ⊥
leading_zero n h = h.2 refl

-- `ac` leaves the grammar of the one text `ab` at place 1: `a` begins that text, and `ac` doesn't
leaves_at : LeavesAt (Is (codes "ab")) (codes "ac") 1
leaves_at = (other, record { inside = omega arith; begins = (codes "b", refl); longest = longest })
  where
    other : codes "ac" ≡ codes "ab" → ⊥
    other e = let second : 99 ≡ 98 = ap (λ bytes. slice_index bytes 1) e in omega (arith, second)

    longest : (longer : ℕ) → longer ≤ 2 → Begins (Is (codes "ab")) (take longer (codes "ac")) → longer ≤ 1
    longest zero within b = omega arith
    longest (suc zero) within b = omega arith
    longest (suc (suc longer)) within (rest, e) = let second : 99 ≡ 98 = ap (λ bytes. slice_index bytes 1) e in absurd (omega (arith, second))
