-- What a call that failed or not leaves to show, where the result is passed on.
use Rattle.std.specs.Prelude.{Result}
use Rattle.std.proofs.Common.{Err, Ok, le_of_eq, refl, subst, sym, ℕ, ◌≡◌, ◌≤◌}
use Rattle.std.specs.Result.{IsErrAnd}
use Rattle.bk_ports.specs.Causes.{HasCause, Rose}

-- a call that fails after others that didn't is the cause of the failure that is passed on
pub cause-of_error_later : {T U E F : Type 0} {before between now : ℕ} {e : E} (Q : F → Type 0) (r : Result U F) → IsErrAnd r Q → between ≡ before
    → HasCause {T = T} {E = E} between now (Err e) → HasCause before now r
cause-of_error_later Q (Ok x) h same cause = absurd h
cause-of_error_later {now = now} Q (Err f) h same cause = record {
  later = subst (λ (n : ℕ). n ≤ now) same cause.later;
  ok = tt;
  failed = subst (λ (n : ℕ). Rose n now) same cause.failed;
}

-- a call that fails is the cause of the failure that is passed on
pub cause-of_error : {T U E F : Type 0} {before now : ℕ} {e : E} (Q : F → Type 0) (r : Result U F) → IsErrAnd r Q
    → HasCause {T = T} {E = E} before now (Err e) → HasCause before now r
cause-of_error Q r h cause = cause-of_error_later Q r h refl cause

-- where the count is as it was, a success needs no cause
pub cause-of_same : {T E : Type 0} {before now : ℕ} {x : T} → now ≡ before → HasCause {T = T} {E = E} before now (Ok x)
cause-of_same same = record { later = le_of_eq (sym same); ok = same; failed = tt }
