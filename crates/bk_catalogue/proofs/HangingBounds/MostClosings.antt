-- The closing bound is the greatest number of closings.
use Rattle.std.proofs.Common.{List, [], arith, cond, inl, inr, length, refl, suc, take, zero, ℕ, ◌+◌, ◌<◌, ◌∷◌, ◌≡◌, ◌≤◌, ◌⊎◌}
use Rattle.std.proofs.lemmas.Bool.{cases_lt}
use Rattle.bk_word.specs.Signs.{is_above}
use Rattle.bk_word.specs.declared.Sign.{Sign}
use Rattle.bk_word.specs.declared.Sign.TheVariants.{Above, Even, Under}
use Rattle.bk_catalogue.specs.ClosingBound.{IsMostClosings, TheClosingBoundIsMost, closing_bound, closings}
use Rattle.bk_catalogue.proofs.HangingBounds.ClosingLaws.{aboves-cons, bound_unders, unders, unders-cons}

-- ---- it is the greatest number of closings

-- the closings of the first segment
pub closings-first : (signs : List Sign) → closings signs 0 ≡ unders signs
closings-first [] = refl
closings-first (s ∷ signs) = omega arith

-- the closings of each segment but the first
pub closings-next : (s : Sign) (signs : List Sign) (i : ℕ) → closings (s ∷ signs) (suc i) ≡ cond (is_above s) 1 0 + closings signs i
closings-next s signs i = omega (arith, aboves-cons s (take i signs))

most_closings : (signs : List Sign) (i : ℕ) → i ≤ length signs → closings signs i ≤ closing_bound signs
most_closings signs zero h = omega (arith, closings-first signs, bound_unders signs)
most_closings [] (suc i) h = absurd (omega arith)
most_closings (Above ∷ signs) (suc i) h = omega (arith, closings-next Above signs i, most_closings signs i (omega arith))
most_closings (Even ∷ signs) (suc i) h = omega (arith, closings-next Even signs i, most_closings signs i (omega arith))
most_closings (Under ∷ signs) (suc i) h = omega (arith, closings-next Under signs i, most_closings signs i (omega arith))

-- where the first sign adds what it counts for, the place with most closings is that behind it
closings_behind : (g : Sign) (signs : List Sign) (number : ℕ) → ((i : ℕ) → i ≤ length (g ∷ signs) → closings (g ∷ signs) i ≤ number)
    → number ≡ cond {A = ℕ} (is_above g) 1 0 + closing_bound signs → IsMostClosings signs (closing_bound signs) → IsMostClosings (g ∷ signs) number
closings_behind g signs number most is m = record {
  most = most;
  place = suc m.place;
  within = omega (arith, m.within);
  met = omega (arith, closings-next g signs m.place, m.met, is);
}

-- the law: by the signs from the second on
pub the_closing_bound_is_most : TheClosingBoundIsMost
the_closing_bound_is_most [] = record { most = most_closings []; place = 0; within = omega arith; met = refl }
the_closing_bound_is_most (Above ∷ signs) = closings_behind Above signs (suc (closing_bound signs)) (most_closings (Above ∷ signs))
    (omega arith) (the_closing_bound_is_most signs)
the_closing_bound_is_most (Even ∷ signs) = closings_behind Even signs (closing_bound signs) (most_closings (Even ∷ signs))
    (omega arith) (the_closing_bound_is_most signs)
the_closing_bound_is_most (Under ∷ signs) = onto (the_closing_bound_is_most signs) (cases_lt (closing_bound signs) (suc (unders signs)))
  where
    onto : IsMostClosings signs (closing_bound signs) → (closing_bound signs < suc (unders signs))
        ⊎ (suc (unders signs) ≤ closing_bound signs) → IsMostClosings (Under ∷ signs) (closing_bound (Under ∷ signs))
    onto m (inl h) = record {
      most = most_closings (Under ∷ signs);
      place = 0;
      within = omega arith;
      met =
          omega (arith, closings-first (Under ∷ signs), unders-cons Under signs, h);
    }
    onto m (inr h) = record {
      most = most_closings (Under ∷ signs);
      place = suc m.place;
      within = omega (arith, m.within);
      met =
          omega (arith, closings-next Under signs m.place, m.met, h);
    }
