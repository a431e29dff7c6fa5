-- The digits of a number, and words that begin alike.
use Rattle.std.proofs.Common.{[], ap, arith, refl, suc, zero, ℕ, ◌∷◌, ◌≡◌, ◌++◌}
use Rattle.bk_word.specs.Word.{Word}
use Rattle.bk_word.specs.declared.Sign.TheVariants.{Above, Under}
use Rattle.bk_packed.specs.Packed.{packed}
use Rattle.bk_packed.specs.ReadMoves.{HasDigits, IsSharedFront}

abbrev row : Word
row = record { count = 2; signs = Under ∷ [] } ∷ record { count = 1; signs = [] } ∷ []

-- those of 2u
first_digits : HasDigits (packed row) 0 (0 ∷ 1 ∷ 2 ∷ [])
first_digits zero low = refl
first_digits (suc zero) low = refl
first_digits (suc (suc zero)) low = refl
first_digits (suc (suc (suc k))) low = absurd (omega arith)

-- and those of 1
last_digits : HasDigits (packed row) 3 (0 ∷ 0 ∷ [])
last_digits zero low = refl
last_digits (suc zero) low = refl
last_digits (suc (suc k)) low = absurd (omega arith)

abbrev other : Word
other = record { count = 2; signs = Under ∷ [] } ∷ record { count = 2; signs = Above ∷ Above ∷ [] } ∷ []

-- 2u.1 and 2u.2aa begin with one move alike
shared_one : IsSharedFront row other 1
shared_one = record { rest = record { count = 2; signs = Above ∷ Above ∷ [] } ∷ []; is = refl; most = λ low more e. apart more e }
  where
    second : Word → ℕ
    second [] = 0
    second (m ∷ []) = 0
    second (m ∷ n ∷ w) = n.count

    apart : (more : Word) → other ≡ row ++ more → ⊥
    apart more e = omega (arith, ap second e)
