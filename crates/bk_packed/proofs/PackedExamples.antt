-- A packed word, by its digits.
use Rattle.std.proofs.Common.{[], refl, ◌*◌, ◌+◌, ◌^◌, ◌∷◌, ◌≡◌}
use Rattle.bk_word.specs.Word.{Word, word_cmp}
use Rattle.bk_word.specs.declared.Sign.TheVariants.{Under}
use Rattle.std.specs.declared.cmp.Ordering.TheVariants.{Less}
use Rattle.bk_packed.specs.Packed.{digit_at, packed, word_digits}

abbrev row : Word
row = record { count = 2; signs = Under ∷ [] } ∷ record { count = 1; signs = [] } ∷ []

digits : word_digits row ≡ 0 ∷ 1 ∷ 2 ∷ 0 ∷ 0 ∷ []
digits = refl

number : packed row ≡ 1 * 4 ^ 62 + 2 * 4 ^ 61
number = refl

-- its digit at the place 2 is that of the sign
digit : digit_at (packed row) 2 ≡ 2
digit = refl

-- a word that goes on by a move of one square has the same number, and follows
abbrev longer : Word
longer = record { count = 2; signs = Under ∷ [] } ∷ record { count = 1; signs = [] } ∷ record { count = 1; signs = [] } ∷ []

same_number : packed longer ≡ packed row
same_number = refl

follows : word_cmp row longer ≡ Less
follows = refl
