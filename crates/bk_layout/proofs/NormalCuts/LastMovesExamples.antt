-- Near the end of words of normal layouts, and a pass over two segments.
use Rattle.std.proofs.Common.{[], arith, false, inl, refl, ◌∷◌, ◌≡◌}
use Rattle.bk_word.proofs.WordExamples.{move, two}
use Rattle.bk_word.specs.Play.{outline_of}
use Rattle.bk_word.specs.Word.{Word}
use Rattle.bk_word.specs.declared.Sign.TheVariants.{Above, Even, Under}
use Rattle.bk_layout.proofs.NormalCuts.LastMoves.{all_under_is_normal_barren}
use Rattle.bk_layout.specs.LastMoves.{AreAllUnder, even_square}
use Rattle.bk_layout.specs.NormalCuts.{IsNormalBarren}
use Rattle.bk_layout.specs.StrongPass.{none_passed, pass_along}

-- two squares, the right one the shorter
abbrev stair : Word
stair = two Under ∷ []

-- of three squares one is left, and at most two moves, as many as segments: they go on by 1e
goes_on : AreAllUnder 3 2 stair
goes_on = record { many = omega arith; some = omega arith; left = omega arith; most_moves = inl (omega arith); few = omega arith; under = (refl, tt) }

-- of four squares two would be left, and still at most two moves
no_two_left : IsNormalBarren 4 stair
no_two_left = all_under_is_normal_barren 4 2 stair
    (record { many = omega arith; some = omega arith; left = omega arith; most_moves = inl (omega arith); few = omega arith; under = (refl, tt) })
    (λ e. omega (arith, e))

-- over the segments of one square each, with the sign above between them: the first is a valley of one square
one_pass : pass_along none_passed (Above ∷ []) (1 ∷ 1 ∷ []) (false ∷ false ∷ []) ≡ record { most = 2; aboves = 1; more = 1; low = false }
one_pass = refl

-- the move 1e
goes_on_by : even_square (outline_of stair) ≡ move 1 (Even ∷ [])
goes_on_by = refl
