-- Cuts at the start of a word, which move comes next after those that are passed over, and signs up to an even one.
use Rattle.std.proofs.Common.{Some, [], arith, lit<, lit≤, refl, ℕ, ◌∷◌, ◌≡◌, ◌≤◌}
use Rattle.bk_word.proofs.WordExamples.{move, two}
use Rattle.bk_word.specs.declared.Class.{Class}
use Rattle.bk_word.specs.declared.Class.TheVariants.{Imperfect}
use Rattle.bk_word.specs.declared.Sign.TheVariants.{Above, Even, Under}
use Rattle.bk_catalogue.proofs.Members.CatalogueExamples.{entry_is, row_entry}
use Rattle.bk_walk_cuts.proofs.CutLaws.{first_cut}
use Rattle.bk_walk_cuts.specs.MoveCuts.{GrowsByAtMostOne, IsCut, IsFrontEndingEven, front_signs, passed}

-- ---- cuts

-- at the start the moves from 2a on and before 2e may be passed over: 2a alone, whose left square is the shorter one
shorter_is_cut : (n : ℕ) (class : Class) → IsCut n class [] (two Above) (two Even)
shorter_is_cut n class = first_cut n class (two Above) refl refl (record { some = lit< tt; signs = refl })

-- at the start 2e may not be passed over, of order 2 and the class imperfect, since it is a member's word
row_is_not_cut : IsCut 2 Imperfect [] (two Even) (two Under) → ⊥
row_is_not_cut cut = cut.barren (two Even) (record { some = lit< tt; signs = refl }) (λ before. cc) refl row_entry [] entry_is refl

-- ---- which move is next

-- 3ue with its first sign alone is 3u
one_sign_of_3ue : front_signs 1 (move 3 (Under ∷ Even ∷ [])) ≡ move 3 (Under ∷ [])
one_sign_of_3ue = refl

-- after all moves of three squares that begin as 3au with a comes 3e
passed_3a : passed 1 (move 3 (Above ∷ Under ∷ [])) ≡ move 3 (Even ∷ [])
passed_3a = refl

-- from 2u to 3 the count grows by one
grows_by_one : GrowsByAtMostOne (two Under) (move 3 [])
grows_by_one = record { least = lit≤ tt; most = lit≤ tt; signs = lit≤ tt }

-- from 2u to 4 the count grows by two
grows_by_two : GrowsByAtMostOne (two Under) (move 4 []) → ⊥
grows_by_two grows = let most : 4 ≤ 3 = grows.most in omega (arith, most)

-- ---- signs up to an even one

-- between two walls the first two signs of 3ue end with an even one between two of its squares
two_end_even : IsFrontEndingEven 0 3 (Under ∷ Even ∷ []) 2
two_end_even = record { low = lit< tt; high = lit< tt; even = refl }

-- the first sign of 3ue isn't even
one_ends_under : IsFrontEndingEven 0 3 (Under ∷ Even ∷ []) 1 → ⊥
one_ends_under ends = let even : Some Under ≡ Some Even = ends.even in cc
