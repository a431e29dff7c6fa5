-- Tallies of signs, sign by sign, and what the first signs of a list ask for.
use Rattle.std.proofs.Common.{List, [], ap, append_assoc, arith, drop, length, max, refl, slice_index_or, subst, suc, sym, take, zero, ℕ}
use Rattle.std.proofs.Common.{◌++◌, ◌+◌, ◌<◌, ◌∙◌, ◌∷◌, ◌≡◌, ◌≤◌}
use Rattle.std.proofs.lemmas.List.{take-append-drop, take_all}
use Rattle.bk_word.specs.declared.Sign.{Sign}
use Rattle.bk_word.specs.declared.Sign.TheVariants.{Above, Even, Under}
use Rattle.bk_catalogue.proofs.HangingBounds.ClosingLaws.{aboves-append, aboves-cons, bound-append, unders, unders-cons}
use Rattle.bk_catalogue.specs.ClosingBound.{closing_bound}
use Rattle.bk_catalogue.specs.Tally.{IsTally}

-- the first signs ask for no less than all do
pub front_owes : (before front rest behind : List Sign) → closing_bound (before ++ front) + unders behind ≤ closing_bound (before ++ (front ++ rest) ++ behind)
front_owes before front rest behind = omega (
  arith,
  bound-append (before ++ (front ++ rest)) behind,
  ap closing_bound (append_assoc before front rest),
  bound-append (before ++ front) rest,
)

-- one sign more
pub tally_above : (signs : List Sign) (bound more : ℕ) (above now : ℕ) → IsTally signs bound above → more ≡ max bound (above + 1) → now ≡ above + 1
    → IsTally (signs ++ Above ∷ []) more now
tally_above signs bound more above now t e f = let b = t.bound_is in let a = t.aboves_is in record {
  bound_is = omega (arith, bound-append signs (Above ∷ []), unders-cons Above []);
  aboves_is = omega (arith, aboves-append signs (Above ∷ []), aboves-cons Above []);
}

-- an even sign more leaves the closing bound and the signs above as they are
pub tally_even : (signs : List Sign) (bound above : ℕ) → above ≤ bound → IsTally signs bound above → IsTally (signs ++ Even ∷ []) bound above
tally_even signs bound above low t = let b = t.bound_is in let a = t.aboves_is in record {
  bound_is = omega (arith, bound-append signs (Even ∷ []), unders-cons Even []);
  aboves_is = omega (arith, aboves-append signs (Even ∷ []), aboves-cons Even []);
}

-- a sign under more adds one to the closing bound and none to the signs above
pub tally_under : (signs : List Sign) (bound more above : ℕ) → above ≤ bound → IsTally signs bound above → more ≡ bound + 1
    → IsTally (signs ++ Under ∷ []) more above
tally_under signs bound more above low t e = let b = t.bound_is in let a = t.aboves_is in record {
  bound_is = omega (arith, bound-append signs (Under ∷ []), unders-cons Under []);
  aboves_is = omega (arith, aboves-append signs (Under ∷ []), aboves-cons Under []);
}

-- the bound of more signs is no smaller
pub bound_more : (xs ys : List Sign) → closing_bound xs ≤ closing_bound (xs ++ ys)
bound_more xs ys = omega (arith, bound-append xs ys)

-- ---- passes over lists of signs

take_here : (signs : List Sign) (i : ℕ) → i < length signs → take (i + 1) signs ≡ take i signs ++ slice_index_or signs i Above ∷ []
take_here [] i h = absurd (omega arith)
take_here (s ∷ signs) zero h = refl
take_here (s ∷ signs) (suc i) h = ap (λ k. take k (s ∷ signs)) next ∙ ap (λ l. s ∷ l) (take_here signs i (omega arith))
  where
    next : suc i + 1 ≡ suc (i + 1)
    next = omega arith

-- a bound that passes the room at a place
pub tally_over : (signs : List Sign) (i bound above room : ℕ) → i < length signs → room < bound
    → IsTally (take i signs ++ slice_index_or signs i Above ∷ []) bound above → room < closing_bound signs
tally_over signs i bound above room h over t = omega (
  arith,
  over,
  t.bound_is,
  ap closing_bound (sym (take_here signs i h)),
  bound_more (take (i + 1) signs) (drop (i + 1) signs),
  ap closing_bound (sym (take-append-drop (i + 1) signs)),
)

-- where the signs up to a place and one more are tallied, so are those up to the next place
pub tally_next : (before signs : List Sign) (i bound above : ℕ) → i < length signs
    → IsTally ((before ++ take i signs) ++ slice_index_or signs i Above ∷ []) bound above → IsTally (before ++ take (i + 1) signs) bound above
tally_next before signs i bound above h t = subst (λ (l : List Sign). IsTally l bound above)
    (append_assoc before (take i signs) (slice_index_or signs i Above ∷ []) ∙ ap (λ l. before ++ l) (sym (take_here signs i h))) t

-- where the place is behind all signs, all of them are tallied
pub tally_all : (before signs : List Sign) (i bound above : ℕ) → length signs ≤ i → IsTally (before ++ take i signs) bound above
    → IsTally (before ++ signs) bound above
tally_all before signs i bound above h t = subst (λ (l : List Sign). IsTally (before ++ l) bound above) (take_all i signs h) t
