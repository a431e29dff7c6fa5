-- A pass over the segments of 2u.2ua, which hangs two squares and then two under the right one: the squares 1, 3 and 4 are open, and the first two of
-- these segments end beside the line between the squares 1 and 2.
use Rattle.std.proofs.Common.{[], false, refl, true, ◌∷◌, ◌≡◌}
use Rattle.bk_word.specs.declared.Sign.TheVariants.{Above, Under}
use Rattle.bk_layout.specs.StrongPass.{none_passed, pass_along}
use Rattle.bk_free_search.specs.Strong.{marks_by_lists}
use Rattle.bk_free_search.specs.TopLines.{on_top_lines}

-- the left lines of the four squares, of which the line 2 comes from the top
lines : on_top_lines 2 (0 ∷ 2 ∷ 2 ∷ 4 ∷ []) ≡ false ∷ true ∷ true ∷ false ∷ []
lines = refl

marks : marks_by_lists 2 (false ∷ true ∷ true ∷ false ∷ []) (1 ∷ 1 ∷ 1 ∷ []) (1 ∷ 3 ∷ 4 ∷ []) ≡ true ∷ true ∷ false ∷ []
marks = refl

counted : pass_along none_passed (Under ∷ Above ∷ []) (1 ∷ 1 ∷ 1 ∷ []) (true ∷ true ∷ false ∷ []) ≡ record { most = 3; aboves = 1; more = 1; low = false }
counted = refl
