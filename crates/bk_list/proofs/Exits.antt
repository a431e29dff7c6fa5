-- What is told of a result at the exit of a call that failed, and the cause of what came before it.
use Rattle.std.proofs.Common.{Err, Ok, Result, le_of_eq, subst, sym, ℕ, ◌≡◌}
use Rattle.std.specs.Result.{IsErrAnd}
use Rattle.bk_ports.specs.Causes.{HasCause}

-- the failed call has the cause
module _ {A F T E : Type 0} (Q : E → Type 0) (a b c : ℕ) (x : F) where
  -- an error that is handed on has the cause that the failed call had
  pub cause_of_exit : (r : Result T E) → IsErrAnd r Q → b ≡ a → HasCause {T = A} {E = F} b c (Err x) → HasCause a c r
  cause_of_exit (Ok y) failed e h = absurd failed
  cause_of_exit (Err y) failed e h =
      subst (λ (k : ℕ). HasCause {T = T} {E = E} k c (Err y)) e (record { later = h.later; ok = tt; failed = h.failed })

-- nothing failed
pub no_cause : {T E : Type 0} (a b : ℕ) (x : T) → b ≡ a → HasCause {T = T} {E = E} a b (Ok x)
no_cause a b x e = record { later = le_of_eq (sym e); ok = e; failed = tt }
