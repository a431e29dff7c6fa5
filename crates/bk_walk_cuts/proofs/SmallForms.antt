-- Forms whose coefficients are small stay small by one more side.
use Rattle.std.specs.Prelude.{nat_abs, pos, ℤ, ◌+ℤ◌}
use Rattle.std.proofs.Common.{List, Some, [], arith, get_or, inl, inr, length, map, replicate, set, slice_get, subst, suc, sym, zero, ℕ, ◌++◌, ◌+◌}
use Rattle.std.proofs.Common.{◌-◌, ◌<◌, ◌∷◌, ◌≡◌, ◌≤◌, ◌⊎◌}
use Rattle.std.proofs.lemmas.Bool.{cases_lt}
use Rattle.bk_forms.specs.Form.{Form, coefficient, with_column}
use Rattle.bk_walk_cuts.specs.SideForms.{level_of, zero_form}
use Rattle.bk_walk_cuts.specs.Trace.{AreFewSmall, AreSmall, IsSmall, IsTraceOf, Trace}
use Rattle.bk_word.specs.Word.{Word}
use Rattle.bk_laws.proofs.ListPlaces.{get_either}
use Rattle.bk_laws.proofs.Magnitudes.{abs_successor-le}

-- a form whose coefficients are at most j has them at most k, where k is no less
pub small_form_by_a_greater_bound : (j k : ℕ) (form : Form) → j ≤ k → IsSmall j form → IsSmall k form
small_form_by_a_greater_bound j k [] h all = tt
small_form_by_a_greater_bound j k (a ∷ form) h all = (omega (arith, all.0), small_form_by_a_greater_bound j k form h all.1)

small_nought : (n k : ℕ) → IsSmall k (replicate n (pos 0))
small_nought zero k = tt
small_nought (suc n) k = (omega arith, small_nought n k)

-- the form 0 is small
pub zero_is_a_small_form : (k : ℕ) → IsSmall k zero_form
zero_is_a_small_form k = small_nought 16 k

-- each coefficient of a small form is small
pub small_at : (k : ℕ) (form : Form) (c : ℕ) → IsSmall k form → nat_abs (coefficient form c) ≤ k
small_at k [] c all = omega arith
small_at k (a ∷ form) zero all = all.0
small_at k (a ∷ form) (suc c) all = small_at k form c all.1

small_set : (k : ℕ) (form : Form) (c : ℕ) (a : ℤ) → nat_abs a ≤ k → IsSmall k form → IsSmall k (set form c a)
small_set k [] c a h all = tt
small_set k (b ∷ form) zero a h all = (h, all.1)
small_set k (b ∷ form) (suc c) a h all = (all.0, small_set k form c a h all.1)

-- with one more side a form is small by one more
pub small_with_side : (k : ℕ) (form : Form) (c : ℕ) → IsSmall k form → IsSmall (suc k) (with_column form c)
small_with_side k form c all = small_set (suc k) form c (coefficient form c +ℤ pos 1) (abs_successor-le (coefficient form c) k (small_at k form c all))
    (small_form_by_a_greater_bound k (suc k) form (omega arith) all)

-- ---- levels

read : (forms : List Form) (k : ℕ) → k < length forms → slice_get forms k ≡ Some (get_or forms k zero_form)
read [] k h = absurd (omega arith)
read (f ∷ forms) zero h = λ i. Some f
read (f ∷ forms) (suc k) h = read forms k (omega arith)

past : (forms : List Form) (k : ℕ) → length forms ≤ k → get_or forms k zero_form ≡ zero_form
past [] k h = λ i. zero_form
past (f ∷ forms) zero h = absurd (omega arith)
past (f ∷ forms) (suc k) h = past forms k (omega arith)

-- the level of a segment is as small as the bottoms
pub small_level : (bottoms : List Form) (numbers : List ℕ) → AreSmall bottoms → IsSmall (length bottoms) (level_of bottoms numbers)
small_level bottoms [] small = zero_is_a_small_form (length bottoms)
small_level bottoms (n ∷ numbers) small = cases (cases_lt (n - 1) (length bottoms))
  where
    cases : ((n - 1) < length bottoms) ⊎ (length bottoms ≤ (n - 1)) → IsSmall (length bottoms) (get_or bottoms (n - 1) zero_form)
    cases (inl h) = small_form_by_a_greater_bound (suc (n - 1)) (length bottoms) (get_or bottoms (n - 1) zero_form) (omega arith)
        (small (n - 1) (get_or bottoms (n - 1) zero_form) (read bottoms (n - 1) h))
    cases (inr h) = subst (IsSmall (length bottoms)) (sym (past bottoms (n - 1) h)) (zero_is_a_small_form (length bottoms))

-- the bottoms that a trace keeps are few and small, as they are read
pub few_small : {w : Word} {trace : Trace} {bottoms : List Form} → IsTraceOf w trace → bottoms ≡ trace.bottoms → AreFewSmall bottoms
few_small is e = subst AreFewSmall (sym e) (record { few = is.few; small = is.small })

-- the level of a segment of such is small
pub few_small_level : (bottoms : List Form) (numbers : List ℕ) → AreFewSmall bottoms → IsSmall 5 (level_of bottoms numbers)
few_small_level bottoms numbers are = small_form_by_a_greater_bound (length bottoms) 5 (level_of bottoms numbers) are.few
    (small_level bottoms numbers are.small)

-- the bottoms of new squares
new_small : (numbers : List ℕ) (level : Form) (k i : ℕ) (form : Form) → IsSmall k level
    → slice_get (map (λ n. with_column level (n - 1)) numbers) i ≡ Some form → IsSmall (suc k) form
new_small [] level k i form small e = absurd (cc)
new_small (n ∷ numbers) level k zero form small e = subst (IsSmall (suc k)) same (small_with_side k level (n - 1) small)
  where
    same : with_column level (n - 1) ≡ form
    same = cc
new_small (n ∷ numbers) level k (suc i) form small e = new_small numbers level k i form small e

-- after a move all bottoms are small
pub small_new : (bottoms : List Form) (level : Form) (numbers : List ℕ) → AreSmall bottoms → IsSmall (length bottoms) level
    → AreSmall (bottoms ++ map (λ n. with_column level (n - 1)) numbers)
small_new bottoms level numbers small low i form e = cases (get_either bottoms (map (λ n. with_column level (n - 1)) numbers) i form e)
  where
    cases : (slice_get bottoms i ≡ Some form) ⊎ ((j : ℕ) × (i ≡ length bottoms + j)
        × (slice_get (map (λ n. with_column level (n - 1)) numbers) j ≡ Some form)) → IsSmall (suc i) form
    cases (inl f) = small i form f
    cases (inr (j, is, f)) = small_form_by_a_greater_bound (suc (length bottoms)) (suc i) form (omega (arith, is))
        (new_small numbers level (length bottoms) j form low f)
