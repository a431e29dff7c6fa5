-- Lists without their first or last, or with one more at an end, and functions changed at one number.
use Rattle.std.proofs.Common.{Bool, List, Some, [], ap, arith, cond, length, nat_eq, refl, slice_get, suc, zero, ℕ}
use Rattle.std.proofs.Common.{◌+◌, ◌<◌, ◌∙◌, ◌∷◌, ◌≡◌}
use Rattle.std.proofs.lemmas.Bool.{eq-eqb, ne_eqb}
use Rattle.std.proofs.lemmas.Option.{same_Some, slice_get_within}
use Rattle.bk_laws.proofs.Occurrences.{times}
use Rattle.bk_layout.specs.Layout.{IsFirst}
use Rattle.bk_layout.specs.Reversal.{put, without_first, without_last}

-- ---- functions changed at one number

-- a function that is changed at a number, there
pub put_at : {A : Type 0} (k : ℕ) (x : A) (f : ℕ → A) (n : ℕ) → n ≡ k → put k x f n ≡ x
put_at {A} k x f n e = ap (λ (b : Bool). cond {A = A} b x (f n)) (eq-eqb n k e)

-- a function that is changed at a number keeps its values at all others
pub put_other : {A : Type 0} (k : ℕ) (x : A) (f : ℕ → A) (n : ℕ) → (n ≡ k → ⊥) → put k x f n ≡ f n
put_other {A} k x f n e = ap (λ (b : Bool). cond {A = A} b x (f n)) (ne_eqb n k e)

-- ---- lists

-- a list of length 0 is empty
pub empty-of_length_zero : {A : Type 0} (xs : List A) → length xs ≡ 0 → xs ≡ []
empty-of_length_zero [] e = refl
empty-of_length_zero (x ∷ xs) e = absurd (omega arith)

-- a list without its first, by places
pub tail_got : (xs : List ℕ) (k : ℕ) → slice_get (without_first xs) k ≡ slice_get xs (suc k)
tail_got [] k = refl
tail_got (x ∷ xs) k = refl

-- a list without its first item is one shorter
pub tail_length : (xs : List ℕ) → 0 < length xs → suc (length (without_first xs)) ≡ length xs
tail_length [] h = absurd (omega arith)
tail_length (x ∷ xs) h = refl

-- a list without its last is one shorter
pub init_length : (xs : List ℕ) → 0 < length xs → suc (length (without_last xs)) ≡ length xs
init_length [] h = absurd (omega arith)
init_length (x ∷ []) h = refl
init_length (x ∷ y ∷ xs) h = ap suc (init_length (y ∷ xs) (omega arith))

-- by places it is the list
pub init_got : (xs : List ℕ) (k : ℕ) → suc k < length xs → slice_get (without_last xs) k ≡ slice_get xs k
init_got [] k h = absurd (omega arith)
init_got (x ∷ []) k h = absurd (omega arith)
init_got (x ∷ y ∷ xs) zero h = refl
init_got (x ∷ y ∷ xs) (suc k) h = init_got (y ∷ xs) k (omega (arith, h))

-- what stands in a list without its last one stands before the last place
pub init_below : (xs : List ℕ) (k x : ℕ) → slice_get (without_last xs) k ≡ Some x → suc k < length xs
init_below [] k x e = absurd (cc)
init_below (y ∷ []) k x e = absurd (cc)
init_below (y ∷ z ∷ xs) k x e = omega (arith, slice_get_within (without_last (y ∷ z ∷ xs)) k x e, init_length (y ∷ z ∷ xs) (omega arith))

-- ---- counts

-- how often a number stands in a list without its first
pub times_tail : (xs : List ℕ) (q x : ℕ) → IsFirst xs q → times x xs ≡ cond {A = ℕ} (nat_eq x q) 1 0 + times x (without_first xs)
times_tail [] q x e = absurd (cc)
times_tail (y ∷ xs) q x e = ap (λ (z : ℕ). cond {A = ℕ} (nat_eq x z) 1 0 + times x xs) (same_Some y q e)

-- without its last
pub times_init : (xs : List ℕ) (q k x : ℕ) → suc k ≡ length xs → slice_get xs k ≡ Some q
    → times x xs ≡ times x (without_last xs) + cond {A = ℕ} (nat_eq x q) 1 0
times_init [] q k x h e = absurd (cc)
times_init (y ∷ []) q zero x h e = ap (λ (z : ℕ). cond {A = ℕ} (nat_eq x z) 1 0 + 0) (same_Some y q e) ∙ omega arith
times_init (y ∷ []) q (suc k) x h e = absurd (omega (arith, h))
times_init (y ∷ z ∷ xs) q zero x h e = absurd (omega (arith, h))
times_init (y ∷ z ∷ xs) q (suc k) x h e = omega (arith, times_init (z ∷ xs) q k x (omega (arith, h)) e)
