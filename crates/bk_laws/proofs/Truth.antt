-- Tests that pass or fail, one or two of them; and facts that are decided.
use Rattle.std.proofs.Common.{Bool, IsTrue, ap, false, inl, inr, refl, sym, true, ◌&&◌, ◌||◌, ◌↔◌, ◌≡◌, ◌⊎◌}
use Rattle.std.proofs.lemmas.Bool.{false_from_ne_true, false≢true, or_left, or_right, true≢false}

-- of two facts that are decided, it is decided whether both hold
pub decided-and : {P Q : Type 0} → P ⊎ (P → ⊥) → Q ⊎ (Q → ⊥) → (P × Q) ⊎ (P × Q → ⊥)
decided-and (inl p) (inl q) = inl (p, q)
decided-and (inl p) (inr never) = inr (λ h. never h.1)
decided-and (inr never) q = inr (λ h. never h.0)

-- if a fact is decided, so is its opposite
pub decided-not : {P : Type 0} → P ⊎ (P → ⊥) → (P → ⊥) ⊎ ((P → ⊥) → ⊥)
decided-not (inl p) = inr (λ never. never p)
decided-not (inr never) = inl never

-- one of two facts holds, in the other order
pub either-swap : {A B : Type 0} → A ⊎ B → B ⊎ A
either-swap (inl a) = inr a
either-swap (inr b) = inl b

-- where one of two tests passes, and each says another, one of those passes
pub or-monotone : (a b c d : Bool) → (a ≡ true → c ≡ true) → (b ≡ true → d ≡ true) → (a || b) ≡ true → (c || d) ≡ true
or-monotone true b c d f g e = or_left c d (f refl)
or-monotone false b c d f g e = or_right c d (g e)

-- where the first of two tests fails, both together say what the second says
pub or-right_of_not_left : (a b c : Bool) → a || b ≡ c → (IsTrue a → ⊥) → b ≡ c
or-right_of_not_left true b c e h = absurd (h refl)
or-right_of_not_left false b c e h = e

-- where the first of two tests passes, both together pass
pub or-true_of_left : (a b c : Bool) → a || b ≡ c → IsTrue a → IsTrue c
or-true_of_left true b c e h = sym e
or-true_of_left false b c e h = absurd (false≢true h)

-- of two tests that pass together, the second passes
pub and-right_true : (a b : Bool) → a && b ≡ true → b ≡ true
and-right_true true b e = e
and-right_true false b e = absurd (false≢true e)

-- of two tests that pass together, the first passes
pub and-left_true : (a b : Bool) → a && b ≡ true → a ≡ true
and-left_true true b e = refl
and-left_true false b e = e

-- a test that doesn't hold adds nothing before another
pub or-drop_left : (a b : Bool) → (IsTrue a → ⊥) → a || b ≡ b
or-drop_left a b h = ap (λ (c : Bool). c || b) (false_from_ne_true a h)

-- where neither of two tests holds, not one of them does
pub neither-or : (a b : Bool) → (IsTrue a → ⊥) → (IsTrue b → ⊥) → IsTrue (a || b) → ⊥
neither-or true b no_a no_b e = no_a refl
neither-or false b no_a no_b e = no_b e

-- what follows from each of two tests follows where one passes
pub or-elim : {P : Type 0} (a b : Bool) → (a ≡ true → P) → (b ≡ true → P) → (a || b) ≡ true → P
or-elim true b f g e = f refl
or-elim false b f g e = g e

-- a test doesn't both pass and fail
pub absurd-of_true_and_false : {A : Type 0} (b : Bool) → b ≡ true → b ≡ false → A
absurd-of_true_and_false b e f = absurd (cc)

-- a test from which something false follows fails
pub false-of_refuted : (b : Bool) (P : Type 0) → (b ≡ true → P) → (P → ⊥) → b ≡ false
false-of_refuted true P to never = absurd (never (to refl))
false-of_refuted false P to never = refl

-- where something doesn't hold, false is its test
pub false_test-of_none : (P : Type 0) → (P → ⊥) → (false ≡ true) ↔ P
false_test-of_none P never = ((λ e. absurd (true≢false (sym e))), (λ p. absurd (never p)))

-- where the first of two tests fails and one passes, the second does
pub or-right_of_false : (p q : Bool) → p ≡ false → (p || q) ≡ true → q ≡ true
or-right_of_false true q e h = absurd (true≢false e)
or-right_of_false false q e h = h

-- two tests of which each holds where the other does are one
pub same_test-of_implications : (a b : Bool) → (IsTrue a → IsTrue b) → (IsTrue b → IsTrue a) → a ≡ b
same_test-of_implications true b f g = sym (f refl)
same_test-of_implications false true f g = g refl
same_test-of_implications false false f g = refl
