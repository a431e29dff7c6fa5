-- Segments that a move of one square joins: after 3aa.2ue the valley is that of the squares 5 and 2.
use Rattle.std.proofs.Common.{List, [], inl, inr, lit<, refl, ℕ, ◌∷◌}
use Rattle.bk_word.specs.Outline.{Outline}
use Rattle.bk_word.specs.Play.{outline_of}
use Rattle.bk_word.specs.Word.{Move, Word}
use Rattle.bk_word.specs.declared.Sign.{Sign}
use Rattle.bk_word.specs.declared.Sign.TheVariants.{Above, Even, Under}
use Rattle.bk_layout.specs.LineNumbers.{lefts_of}
use Rattle.bk_free_search.specs.Joining.{JoinsLeft, JoinsRight}
use Rattle.bk_free_search.specs.NodeLines.{IsLineOfOne}
use Rattle.bk_free_search.specs.Rights.{rights_of}
use Rattle.bk_play.specs.SmallSkeleton.{IsValleyPlace}

abbrev move : ℕ → List Sign → Move
move count signs = record { count = count; signs = signs }

abbrev word : Word
word = move 3 (Above ∷ Above ∷ []) ∷ move 2 (Under ∷ Even ∷ []) ∷ []

abbrev front : Outline
front = outline_of word

-- the valley is the second open segment, and takes the second and the third of the open squares 4, 5, 2, 3
valley : IsValleyPlace word (record { place = 1; start = 1; end = 3 })
valley = record { stands = record { place_is = refl; first_is = refl }; end_is = refl }

-- at the left of the square 4 stands the left wall, and at the right of the square 3 the right one
left_of_joined : IsLineOfOne (lefts_of word) (4 ∷ []) 0 0
left_of_joined = record { place = 0; number = 4; at = refl; is = refl }

right_of_joined : IsLineOfOne (rights_of word) (3 ∷ []) 1 1
right_of_joined = record { place = 0; number = 3; at = refl; is = refl }

-- the move 1ea joins its square with the square 4, and with none at the right
joined_left : JoinsLeft front (move 1 (Even ∷ Above ∷ [])) (4 ∷ [])
joined_left = inr (lit< tt, refl, refl)

none_right : JoinsRight front (move 1 (Even ∷ Above ∷ [])) []
none_right = inl refl

-- the move 1ee joins it with the square 3 too
joined_right : JoinsRight front (move 1 (Even ∷ Even ∷ [])) (3 ∷ [])
joined_right = inr (refl, refl)
