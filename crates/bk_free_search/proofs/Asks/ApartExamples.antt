-- The segments of 2u.1e before the sign even joins them, counted in a pass; and what the segment behind the valley of 2u.2ua asks for.
use Rattle.std.proofs.Common.{[], arith, false, lit≤, refl, true, ◌++◌, ◌∷◌, ◌≡◌, ◌≤◌}
use Rattle.bk_word.proofs.WordExamples.{move, two}
use Rattle.bk_word.specs.Play.{outline_of, segments_apart, signs_apart}
use Rattle.bk_word.specs.Word.{Move, Word}
use Rattle.bk_word.specs.declared.Sign.TheVariants.{Above, Even, Under}
use Rattle.bk_layout.proofs.NormalImages.NormalExamples.{two_under}
use Rattle.bk_layout.specs.StrongPass.{none_passed}
use Rattle.bk_free_search.specs.Apart.{AreAskedBehind, IsCountedTo, behind_marks, behind_signs, behind_sizes, joined_marks, marks_apart, marks_of_word}
use Rattle.bk_free_search.specs.Apart.{shared, sizes_apart}

-- ---- before segments are joined

-- 2u, after which the squares 1 and 2 are open
abbrev front : Word
front = two Under ∷ []

-- 1e, which hangs square 3 under square 2 so that it ends as low as square 1
abbrev level_move : Move
level_move = move 1 (Even ∷ [])

-- after 2u.1e, still apart, there are two segments, of the squares 1 and 3, with the sign even between them
apart : (segments_apart (outline_of front) level_move ≡ (1 ∷ []) ∷ (3 ∷ []) ∷ []) × (signs_apart (outline_of front) level_move ≡ Even ∷ [])
    × (sizes_apart front level_move ≡ 1 ∷ 1 ∷ [])
apart = (refl, refl, refl)

-- joined these are one segment, which is marked since a line from the top ends on it; apart both have its mark
marks : (marks_of_word (front ++ level_move ∷ []) ≡ true ∷ []) × (marks_apart front level_move ≡ true ∷ true ∷ [])
marks = (refl, refl)

-- of three segments the first two are joined and marked: their mark stands twice, and that of the third once
shared_by_two : shared (Even ∷ Above ∷ []) (true ∷ false ∷ []) ≡ true ∷ true ∷ false ∷ []
shared_by_two = refl

-- a pass that has counted nothing in front of the first segment comes to one move, and as many are asked for after 2u.1e
counted_first : IsCountedTo front level_move 0 none_passed
counted_first = record { most = lit≤ tt; more = lit≤ tt }

-- a pass that has counted one move in front of the second segment comes to no more
counted_second : IsCountedTo front level_move 1 (record { most = 1; aboves = 0; more = 0; low = false })
counted_second = record { most = lit≤ tt; more = lit≤ tt }

-- a pass that has counted two moves in front of the second segment comes to more than are asked for
not_counted : IsCountedTo front level_move 1 (record { most = 2; aboves = 0; more = 0; low = false }) → ⊥
not_counted counted = let most : 2 ≤ 1 = counted.most in omega (arith, most)

-- ---- behind the leftmost valley

-- after 2u.2ua the squares 1, 3, 4 are open, and the leftmost valley is that of square 3: behind it stands the one segment of square 4
behind : (behind_signs (outline_of two_under) ≡ []) × (behind_sizes (outline_of two_under) ≡ 1 ∷ [])
behind = (refl, refl)

-- the segment of square 4 isn't marked; but where a new square joins it, it has two squares, as many as hang from the top, and is marked
marks_behind : (behind_marks two_under ≡ false ∷ []) × (joined_marks two_under ≡ true ∷ [])
marks_behind = (refl, refl)

-- after 2u the leftmost valley stands at the right wall, and the last new square, which isn't marked, stands for the segments behind it
at_right_wall : (behind_sizes (outline_of front) ≡ 1 ∷ []) × (behind_marks front ≡ false ∷ [])
at_right_wall = (refl, refl)

-- with the sign above before it, the segment of square 4 asks for nothing
asked_above : AreAskedBehind false (behind_marks two_under) two_under (record { add = 0; most = 0; more = 0 })
asked_above = record { add_is = refl; most_is = lit≤ tt; more_is = refl }

-- with the sign even before it, where a new square joins it, the segment of square 4 asks for one move
asked_even : AreAskedBehind false (joined_marks two_under) two_under (record { add = 0; most = 1; more = 0 })
asked_even = record { add_is = refl; most_is = lit≤ tt; more_is = refl }

-- with the sign under before it, square 4 is a valley of one square, which asks for three moves, and for two squares more
asked_under : AreAskedBehind true (behind_marks two_under) two_under (record { add = 2; most = 3; more = 2 })
asked_under = record { add_is = refl; most_is = lit≤ tt; more_is = refl }

-- with the sign under before it, square 4 doesn't ask for four moves
not_asked : AreAskedBehind true (behind_marks two_under) two_under (record { add = 2; most = 4; more = 2 }) → ⊥
not_asked asked = let most : 4 ≤ 3 = asked.most_is in omega (arith, most)
