-- What is counted is one number, and no more than the places.
use Rattle.std.proofs.Common.{arith, inl, inr, subst, suc, sym, zero, ℕ, ◌+◌, ◌∙◌, ◌≡◌, ◌≤◌}
use Rattle.bk_gen.specs.Counting.{CountsOn, HoldsAtSoMany}

on_at_most_one : (Holds : Type 0) (before after : ℕ) → CountsOn Holds before after → after ≤ before + 1
on_at_most_one Holds before after (inl (h, e)) = omega (arith, e)
on_at_most_one Holds before after (inr (h, e)) = omega (arith, e)

-- at most n of the places below n are counted
pub no_more_than : (Holds : ℕ → Type 0) (n count : ℕ) → HoldsAtSoMany Holds n count → count ≤ n
no_more_than Holds zero count none = omega (arith, none)
no_more_than Holds (suc n) count (before, rest, on) = omega (arith, no_more_than Holds n before rest, on_at_most_one (Holds n) before count on)

on_once : (Holds : Type 0) (before a b : ℕ) → CountsOn Holds before a → CountsOn Holds before b → a ≡ b
on_once Holds before a b (inl (h, e)) (inl (k, f)) = e ∙ sym f
on_once Holds before a b (inl (h, e)) (inr (k, f)) = absurd (k h)
on_once Holds before a b (inr (h, e)) (inl (k, f)) = absurd (h k)
on_once Holds before a b (inr (h, e)) (inr (k, f)) = e ∙ sym f

-- a property holds at one number of places below n
pub property_holds_at_one_number_of_places : (Holds : ℕ → Type 0) (n a b : ℕ) → HoldsAtSoMany Holds n a → HoldsAtSoMany Holds n b → a ≡ b
property_holds_at_one_number_of_places Holds zero a b none none' = none ∙ sym none'
property_holds_at_one_number_of_places Holds (suc n) a b (before, rest, on) (before', rest', on') =
    on_once (Holds n) before a b on (subst (λ (m : ℕ). CountsOn (Holds n) m b)
    (sym (property_holds_at_one_number_of_places Holds n before before' rest rest')) on')
