-- The bytes that a test finds to be blanks.
use Rattle.std.proofs.Common.{arith}
use Rattle.std.proofs.lemmas.Bool.Decides.{nat_tests}
use Rattle.std.specs.Prelude.{true, ℕ, ◌==◌, ◌||◌, ◌≡◌}
use Rattle.bk_grammar.specs.Grammar.{IsBlank}

-- a byte that is a space, a tab or a carriage return is a blank
pub blank_means : (b : ℕ) → (b == 32) || ((b == 9) || (b == 13)) ≡ true → IsBlank b
blank_means b h = grind (arith, nat_tests, h)
