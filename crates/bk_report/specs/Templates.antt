-- Texts with marks that stand for numbers.
-- Example (TemplateLaws): `line # repeats #` with 7 and 2 gives `line 7 repeats 2`.
use Rattle.std.specs.Prelude.{List, [], cond, decimal, nat_eq, ℕ, ◌++◌, ◌∷◌}

-- a text before another one
abbrev pub before : List ℕ → List ℕ → List ℕ
before text [] = text
before text (byte ∷ bytes) = text ++ byte ∷ bytes

-- the text with the digits of a number in place of each mark `#` (35), one after another; a mark without a number stays
abbrev pub filled : List ℕ → List ℕ → List ℕ
filled [] numbers = []
filled (byte ∷ text) [] = byte ∷ filled text []
filled (byte ∷ text) (number ∷ numbers) =
    cond (nat_eq byte 35) (before (decimal number) (filled text numbers)) (byte ∷ filled text (number ∷ numbers))
