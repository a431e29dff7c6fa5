-- The first of ascending numbers that isn't below a bound.
use Rattle.std.proofs.Common.{List, arith, drop, length, slice_index, subst, take, ℕ}
use Rattle.std.proofs.Common.{◌<◌, ◌≡◌, ◌≤◌}
use Rattle.std.proofs.lemmas.List.{drop_more}
use Rattle.bk_laws.proofs.Membership.{contains-slice_index}
use Rattle.bk_packed.specs.KeptNumbers.{AreAscendingNumbers, IsFirstFrom, IsPlaceOf}
use Rattle.bk_packed.proofs.AscendingNumbers.{All, all_again, all_map, no_less_from}

-- the number at the place of the bound is the first
pub number_at_the_bound_is_the_first : (xs : List ℕ) (bound place x : ℕ) → AreAscendingNumbers xs → IsPlaceOf xs bound place → place < length xs
    → slice_index xs place ≡ x
    → IsFirstFrom xs bound x
number_at_the_bound_is_the_first xs bound place x asc is few at = record { has = contains-slice_index xs place x few at; from = from; least = least }
  where
    from : bound ≤ x
    from = subst (λ y. bound ≤ y) at (subst (All (λ y. bound ≤ y)) (drop_more xs place 0 few) is.from).0

    least : All (λ y. bound ≤ y → x ≤ y) xs
    least = all_again (λ y. bound ≤ y → x ≤ y) place xs
        (all_map (λ y. y < bound) (λ y. bound ≤ y → x ≤ y) (take place xs) (λ y h k. absurd (omega arith)) is.before)
        (all_map (λ y. x ≤ y) (λ y. bound ≤ y → x ≤ y) (drop place xs) (λ y h k. h) (no_less_from x place xs asc few (omega (arith, at))))
