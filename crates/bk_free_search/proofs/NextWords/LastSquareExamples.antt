-- The last square of the free word of the rectangle 33x32.
use Rattle.std.proofs.Common.{[], length, refl, slice_index_or, ◌++◌, ◌∷◌, ◌≡◌}
use Rattle.bk_word.specs.Outline.{open_sides}
use Rattle.bk_word.specs.Play.{outline_of}
use Rattle.bk_word.specs.Word.{Word, order_of}
use Rattle.bk_word.specs.declared.Sign.TheVariants.{Above, Even, Under}
use Rattle.bk_word.proofs.WordExamples.{move}
use Rattle.bk_free_search.specs.LastSquare.{with_last}

-- 2a.2uu.2ea.2eue
abbrev eight : Word
eight = move 2 (Above ∷ []) ∷ move 2 (Under ∷ Under ∷ []) ∷ move 2 (Even ∷ Above ∷ []) ∷ move 2 (Even ∷ Under ∷ Even ∷ []) ∷ []

-- eight squares hang, and the valley, of two squares, has a neighbour at its left alone
hung : order_of eight ≡ 8
hung = refl

beside : open_sides (outline_of eight) ≡ 1
beside = refl

-- so 1e comes last
last : with_last eight ≡ eight ++ move 1 (Even ∷ []) ∷ []
last = refl

-- and leaves one segment of three squares
one : length (outline_of (with_last eight)).segments ≡ 1
one = refl

at_bottom : length (slice_index_or (outline_of (with_last eight)).segments 0 []) ≡ 3
at_bottom = refl
