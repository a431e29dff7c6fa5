-- What stands after 2u, and after 2a.2uu, the first two moves of the free word of the rectangle 33x32.
use Rattle.std.specs.List.{AllByRecursion}
use Rattle.std.proofs.Common.{[], refl, ◌++◌, ◌∷◌, ◌≡◌}
use Rattle.bk_word.specs.Play.{outline_of}
use Rattle.bk_word.specs.Word.{Word}
use Rattle.bk_word.specs.declared.Sign.TheVariants.{Above, Under}
use Rattle.bk_word.proofs.WordExamples.{move}
use Rattle.bk_free_search.proofs.NextWords.UnderSigns.{under_then}
use Rattle.bk_free_search.specs.AllUnder.{StandsAfter}

stair_stands : StandsAfter [] (move 2 (Under ∷ [])) (record { top = 2; left = 1; right = 1; signs = 1 })
stair_stands = record { top_is = refl; left_is = refl; right_is = refl; signs_are = refl }

-- one square more at the left wall, and one sign more: all are under then, though the first move has one that is above
abbrev two_moves : Word
two_moves = move 2 (Above ∷ []) ∷ []

next_stands : StandsAfter two_moves (move 2 (Under ∷ Under ∷ [])) (record { top = 2; left = 2; right = 1; signs = 2 })
next_stands = record { top_is = refl; left_is = refl; right_is = refl; signs_are = refl }

next_under : AllByRecursion (λ s. s ≡ Under) (outline_of (two_moves ++ move 2 (Under ∷ Under ∷ []) ∷ [])).signs
next_under = under_then two_moves (move 2 (Under ∷ Under ∷ [])) refl refl
