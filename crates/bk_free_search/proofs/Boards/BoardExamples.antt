-- What the board of 3aa.2ue.1ea keeps, and what is kept to take its last move back.
use Rattle.std.proofs.Common.{List, [], refl, ℕ, ◌∷◌, ◌≡◌}
use Rattle.bk_word.specs.Word.{Move, Word}
use Rattle.bk_word.specs.declared.Sign.{Sign}
use Rattle.bk_word.specs.declared.Sign.TheVariants.{Above, Even, Under}
use Rattle.bk_layout.specs.LineNumbers.{lefts_of}
use Rattle.bk_layout.specs.WordNumbers.{first_count, left_squares, right_squares}
use Rattle.bk_free_search.specs.Rights.{rights_of}

abbrev move : ℕ → List Sign → Move
move count signs = record { count = count; signs = signs }

-- the word 3aa.2ue.1ea
abbrev pub front : Word
front = move 3 (Above ∷ Above ∷ []) ∷ move 2 (Under ∷ Even ∷ []) ∷ move 1 (Even ∷ Above ∷ []) ∷ []

lefts : lefts_of front ≡ 0 ∷ 2 ∷ 3 ∷ 0 ∷ 5 ∷ 5 ∷ []
lefts = refl

rights : rights_of front ≡ 2 ∷ 3 ∷ 1 ∷ 5 ∷ 2 ∷ 3 ∷ []
rights = refl

abbrev counts_of : Word → List ℕ
counts_of w = first_count w ∷ left_squares w ∷ right_squares w ∷ []

counts : counts_of front ≡ 3 ∷ 2 ∷ 1 ∷ []
counts = refl

abbrev before : Word
before = move 3 (Above ∷ Above ∷ []) ∷ move 2 (Under ∷ Even ∷ []) ∷ []

counts_before : counts_of before ≡ 3 ∷ 2 ∷ 1 ∷ []
counts_before = refl
