-- The next move after 2u.
use Rattle.std.proofs.Common.{[], arith, count_by, inl, refl, ◌++◌, ◌∷◌, ◌≡◌, ◌≤◌}
use Rattle.bk_word.proofs.WordExamples.{two}
use Rattle.bk_word.specs.Signs.{is_even}
use Rattle.bk_word.specs.Word.{Move, Word}
use Rattle.bk_word.specs.declared.Sign.TheVariants.{Under}
use Rattle.bk_layout.proofs.NormalCuts.NextMove.{next_is_last_is_normal_barren, too_few_evens_is_normal_barren}
use Rattle.bk_layout.specs.BeforeNextMove.{left_squares_then, right_squares_then}
use Rattle.bk_layout.specs.NormalCuts.{IsNormalBarren}

abbrev stair : Word
stair = two Under ∷ []

-- it stands at the right wall
walls_then : (left_squares_then stair ≡ 1) × (right_squares_then stair ≡ 2)
walls_then = (refl, refl)

-- of four squares, in two moves, at least two signs would be even
few_even : (m : Move) → count_by is_even m.signs ≤ 1 → IsNormalBarren 4 (stair ++ m ∷ [])
few_even m few = too_few_evens_is_normal_barren 4 2 stair m (inl (omega arith)) (omega (arith, few, walls_then.0, walls_then.1))

-- and the next move would be the last, with two squares
next_is_last : IsNormalBarren 4 stair
next_is_last = next_is_last_is_normal_barren 4 2 stair (inl (omega arith)) (omega arith) (omega arith)
