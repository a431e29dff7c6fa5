-- What a search of order 5 knows after 2u: what the first signs of a next move ask for, what stands beside the valley, and which moves are barred.
use Rattle.std.proofs.Common.{[], arith, false, inl, inr, lit<, lit≤, refl, suc, true, zero, ℕ, ◌++◌, ◌+◌, ◌<◌, ◌∷◌, ◌≡◌, ◌≤◌, ◌⊎◌}
use Rattle.bk_laws.proofs.Bits.{bit_at-between}
use Rattle.bk_word.proofs.WordExamples.{two}
use Rattle.bk_word.specs.Word.{Word}
use Rattle.bk_word.specs.declared.Sign.TheVariants.{Above, Even, Under}
use Rattle.bk_layout.proofs.NormalCuts.NextMove.{too_few_evens_is_normal_barren}
use Rattle.bk_layout.proofs.NormalImages.NormalExamples.{two_under}
use Rattle.bk_layout.specs.BeforeNextMove.{left_squares_then, right_squares_then}
use Rattle.bk_play.specs.SmallSkeleton.{IsValleyPlace}
use Rattle.bk_free_search.proofs.Asks.AskedNext.{asked_even, asked_none, asked_under}
use Rattle.bk_free_search.proofs.Asks.CountedSigns.{counted_none}
use Rattle.bk_free_search.proofs.NextWords.Cutting.{above_is_barred, normal}
use Rattle.bk_free_search.specs.AskedSigns.{AreAskedBefore, AreBehind, AreEvensNeeded, AreFewAsks, AreFewBefore, AreMarks, AreMovesLeft, AreNeeds, BarsSigns}
use Rattle.bk_free_search.specs.AskedSigns.{IsAsked, IsNextCount, NeedsLeft, StandBeside}
use Rattle.bk_free_search.specs.Strong.{IsFewPassed}
use Rattle.bk_free_search.specs.declared.asking.Before.{Before}
use Rattle.bk_free_search.specs.declared.behind.Asks.{Asks}
use Rattle.bk_free_search.specs.declared.behind.Behind.{Behind}
use Rattle.bk_free_search.specs.declared.counts.TheConstants.{FEW, MANY}
use Rattle.bk_free_search.specs.declared.strong.Passed.{Passed}

-- after 2u the leftmost valley is that of square 2, with the segment of square 1 at its left, and the right wall
abbrev after_2u : Word
after_2u = two Under ∷ []

-- after 2a the leftmost valley is that of square 1, with the left wall, and the segment of square 2 at its right
abbrev after_2a : Word
after_2a = two Above ∷ []

-- ---- what stands before the valley asks for

-- what a pass has counted in front of the first segment
abbrev nothing : Passed
nothing = record { most = 0; aboves = 0; more = 0; low = true }

-- what a pass has counted behind the segment of square 1, beside which a line from the top stands, with the sign even behind it: one move
abbrev behind_even : Passed
behind_even = record { most = 1; aboves = 0; more = 0; low = false }

-- what a pass has counted behind the segment of square 1 with the sign under behind it: two moves
abbrev behind_under : Passed
behind_under = record { most = 2; aboves = 0; more = 0; low = true }

-- what is asked for after 2u before a next move's first sign, and with this sign even or under
abbrev before_2u : Before
before_2u = record {
  none = record { passed = nothing; evens = 0 };
  even = record { passed = behind_even; evens = 1 };
  under = record { passed = behind_under; evens = 0 };
}

-- where nothing is counted, the numbers are small
nothing_few : IsFewPassed nothing FEW
nothing_few = record { most = lit≤ tt; aboves = lit≤ tt; more = lit≤ tt }

-- with the sign even behind one segment more the numbers are small
even_few : (k : ℕ) → IsFewPassed nothing k → IsFewPassed behind_even (k + 1)
even_few k few = record { most = omega arith; aboves = omega arith; more = omega arith }

-- with the sign under behind one segment more the numbers are small
under_few : (k : ℕ) → IsFewPassed nothing k → IsFewPassed behind_under (k + 1)
under_few k few = record { most = omega arith; aboves = omega arith; more = omega arith }

-- after 2u nothing is asked for before a next move's first sign; with this sign even one move is, and with this sign under two are
asked_before : AreAskedBefore after_2u before_2u
asked_before = record {
  none = asked_none after_2u nothing 0 refl (lit≤ tt) (λ m legal. counted_none after_2u m legal)
      (record { most = lit≤ tt; aboves = lit≤ tt; more = lit≤ tt });
  even = λ e. asked_even after_2u 0 refl nothing behind_even nothing_few (λ m legal. counted_none after_2u m legal) even_few true refl (λ t. inl refl);
  under = λ e. asked_under after_2u 0 refl nothing behind_under nothing_few (λ m legal. counted_none after_2u m legal) under_few true refl (λ t. refl);
}

-- where the first sign is even, it isn't said that none of the signs is
not_asked : IsAsked after_2u (Even ∷ []) (record { passed = behind_even; evens = 0 }) → ⊥
not_asked asked = let same : 0 ≡ 1 = asked.evens_are in omega (arith, same)

-- of the segments of 2u.2ua the first two are marked, which are those at the places 0 and 1
marked_two : AreMarks two_under (record { bits = 3 })
marked_two zero has = refl
marked_two (suc zero) has = refl
marked_two (suc (suc i)) has = let below : suc (suc i) < 2 = (bit_at-between 0 2 (suc (suc i)) (lit≤ tt) (lit< tt) has).1 in absurd (omega (arith, below))

-- the segment of 2u.2ua at place 2 isn't marked
not_marked : AreMarks two_under (record { bits = 4 }) → ⊥
not_marked marks = let same : false ≡ true = marks 2 refl in cc

-- ---- what stands behind the valley asks for

-- segments that ask for nothing
abbrev no_asks : Asks
no_asks = record { add = 0; most = 0; more = 0 }

-- a last segment of one square, with the sign under before it: it asks for three moves, and for two squares more
abbrev single : Asks
single = record { add = 2; most = 3; more = 2 }

-- nothing behind the valley of 2u asks for a move, but the last new square does where the sign before it is under
abbrev behind_2u : Behind
behind_2u = record { above = no_asks; even = no_asks; under = single }

-- the numbers of a last segment of one square are small
few_single : AreFewAsks single 1
few_single = record { add = lit≤ tt; most = lit≤ tt; more = lit≤ tt }

-- two moves asked for besides are more than the least bound allows
not_so_few : AreFewAsks single 0 → ⊥
not_so_few few = let add : 2 ≤ 1 = few.add in omega (arith, add)

-- what the last new square asks for, which stands for the segments behind the valley of 2u
asked_behind : AreBehind after_2u behind_2u
asked_behind = record {
  above = record { add_is = refl; most_is = lit≤ tt; more_is = refl };
  even = record { add_is = refl; most_is = lit≤ tt; more_is = refl };
  under = record { add_is = refl; most_is = lit≤ tt; more_is = refl };
  few_above = record { add = lit≤ tt; most = lit≤ tt; more = lit≤ tt };
  few_even = record { add = lit≤ tt; most = lit≤ tt; more = lit≤ tt };
  few_under = record { add = lit≤ tt; most = lit≤ tt; more = lit≤ tt };
}

-- ---- how many squares must be left

-- where nothing is asked for before such a last segment, and three moves are left, five squares must be left
five_needed : NeedsLeft nothing single 3 5
five_needed left less few = inr less

-- where nothing is asked for before such a last segment, and three moves are left, six squares needn't be left
not_six : NeedsLeft nothing single 3 6 → ⊥
not_six needs = from (needs 5 (lit< tt) (lit< tt))
  where
    from : (3 < 3) ⊎ (5 < 5) → ⊥
    from (inl h) = omega (arith, h)
    from (inr h) = omega (arith, h)

-- after 2u, with one move left: with the first sign even one square must be left, and with that sign under no number is enough
needs_2u : AreNeeds before_2u behind_2u 1 (record { none = 0; even = 1; under = MANY })
needs_2u = record { none = λ left less few. absurd (omega (arith, less)); even = λ left less few. inr less; under = λ left less few. inl (lit< tt) }

-- ---- how many moves are left, and which are barred

-- a word of five squares has at most three moves: after 2u and the next move one is left
moves_left : AreMovesLeft 5 after_2u 1
moves_left = record { most = 3; most_is = inl (lit≤ tt); left_is = refl }

-- a word of four squares has at most two, so that the move after 2u is the last one: at least two of its signs are even
two_evens : AreEvensNeeded 4 after_2u 2
two_evens m few = too_few_evens_is_normal_barren 4 2 after_2u m (inl (omega arith)) (omega (arith, few, walls.0, walls.1))
  where
    walls : (left_squares_then after_2u ≡ 1) × (right_squares_then after_2u ≡ 2)
    walls = (refl, refl)

-- no word of a normal layout goes on from 2u by a move whose first sign is above, since the valley has a left neighbour
above_barred : (n count : ℕ) → BarsSigns n after_2u count (Above ∷ [])
above_barred n count = record {
  barren = λ other more same are. normal n (after_2u ++ other ∷ []) (above_is_barred n after_2u [] Above other more refl refl refl are);
}

-- after 2a two new squares have one sign between them, and one at the right neighbour; of five squares one is left then
signs_after_2a : IsNextCount 5 after_2a 2 (record { wanted = 2; own = 1; left = 1 })
signs_after_2a = record { own_is = refl; wanted_is = refl; left_is = refl }

-- after 2u two new squares have one sign at the left neighbour and one between them, and none at the wall
signs_after_2u : IsNextCount 5 after_2u 2 (record { wanted = 2; own = 2; left = 1 })
signs_after_2u = record { own_is = refl; wanted_is = refl; left_is = refl }

-- ---- what stands beside the valley

-- the valley of 2u is the segment at place 1, and takes the second of the two open squares
valley_2u : IsValleyPlace after_2u (record { place = 1; start = 1; end = 2 })
valley_2u = record { stands = record { place_is = refl; first_is = refl }; end_is = refl }

-- what is asked for before the valley of 2u is small
few_before : AreFewBefore before_2u
few_before = record {
  none = record { most = lit≤ tt; aboves = lit≤ tt; more = lit≤ tt };
  even = record { most = lit≤ tt; aboves = lit≤ tt; more = lit≤ tt };
  under = record { most = lit≤ tt; aboves = lit≤ tt; more = lit≤ tt };
}

-- all that a search of order 5 knows beside the valley of 2u: the right wall, what is asked for before it and behind it, and one move left
beside_2u : StandBeside 5 after_2u (record {
  left_wall = false;
  right_wall = true;
  before = before_2u;
  behind = behind_2u;
  ahead = record { moves = 1; evens = 0 };
  needs = record { none = 0; even = 1; under = MANY };
  valley = record { place = 1; start = 1; end = 2 };
})
beside_2u = record {
  left_is = refl;
  right_is = refl;
  before_is = asked_before;
  few_before = few_before;
  behind_is = asked_behind;
  moves_are = moves_left;
  evens_are = λ m few. absurd (omega (arith, few));
  needs_are = needs_2u;
  valley_is = valley_2u;
}
