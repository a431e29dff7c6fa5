-- What is sought, and how words go on: 2u.1e, and 2u.2aa, the first two moves of the word of the rectangle 33x32.
use Rattle.std.proofs.Common.{List, [], ap, arith, refl, ℕ, ◌∙◌, ◌∷◌, ◌≡◌}
use Rattle.bk_word.specs.Word.{Move, Word}
use Rattle.bk_word.specs.declared.Sign.{Sign}
use Rattle.bk_word.specs.declared.Sign.TheVariants.{Above, Even, Under}
use Rattle.bk_word.proofs.WordExamples.{move, two}
use Rattle.bk_layout.specs.NormalImage.{IsNormalSought}
use Rattle.bk_free_search.proofs.NextWords.Cutting.{lone_is_barren, normal}
use Rattle.bk_free_search.specs.Sought.{BeginsEvenThenAbove, GoesOn, GoesOnBy}

-- 1e hangs one square under square 2 alone
not_sought : (n : ℕ) → IsNormalSought n (two Under ∷ move 1 (Even ∷ []) ∷ []) → ⊥
not_sought n sought = sought.fertile (two Under ∷ move 1 (Even ∷ []) ∷ []) [] refl
    (normal n (two Under ∷ move 1 (Even ∷ []) ∷ [])
    (lone_is_barren (two Under ∷ []) 1 1 refl refl n (move 1 (Even ∷ [])) (omega arith) (omega arith)))

-- two squares, and two under the right one
abbrev two_moves : Word
two_moves = two Under ∷ move 2 (Above ∷ Above ∷ []) ∷ []

-- 2u.2aa goes on from 2u
goes_on : GoesOn (two Under ∷ []) two_moves
goes_on = record { rest = move 2 (Above ∷ Above ∷ []) ∷ []; is = refl }

-- by a move of two squares whose signs begin with above
goes_on_by : GoesOnBy (two Under ∷ []) 2 (Above ∷ []) two_moves
goes_on_by = record {
  move = move 2 (Above ∷ Above ∷ []);
  rest = [];
  is = refl;
  count_is = refl;
  more = Above ∷ [];
  signs_are = refl;
}

-- and by none whose signs begin with under
not_by_under : GoesOnBy (two Under ∷ []) 2 (Under ∷ []) two_moves → ⊥
not_by_under on = from on.move on.rest on.is on.more on.signs_are
  where
    from : (m : Move) (rest : Word) → two_moves ≡ two Under ∷ m ∷ rest → (more : List Sign) → m.signs ≡ Under ∷ more → ⊥
    from m rest is more signs =
        let same : move 2 (Above ∷ Above ∷ []) ≡ m = cc in
        let same_signs : Above ∷ Above ∷ [] ≡ Under ∷ more = ap (λ (n : Move). n.signs) same ∙ signs in cc

-- even and then above begins a move of two squares that breaks rule R, and none of one square
begins_even_then_above : BeginsEvenThenAbove (move 2 (Even ∷ [])) Above
begins_even_then_above = record { two = omega arith; one = refl; even = refl; above = refl }

one_square_keeps_it : BeginsEvenThenAbove (move 1 (Even ∷ [])) Above → ⊥
one_square_keeps_it begins = omega (arith, begins.two)
