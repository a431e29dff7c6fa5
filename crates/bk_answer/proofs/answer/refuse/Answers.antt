-- The line of the refusal is written, and a failure is handed on.
use Rattle.std.proofs.Common.{Err, IsErr, Ok, Result, lit<, refl, subst, ℕ, ◌∙◌, ◌≤◌}
use Rattle.std.specs.Io.KnownBytes.{Appends}
use Rattle.std.proofs.lemmas.Result.{IfOk-from_err}
use Rattle.bk_laws.proofs.Outcomes.{on_err-intro}
use Rattle.bk_ports.specs.Causes.{AppendsPrefix, HasCause, Rose}
use Rattle.bk_ports.specs.declared.Failed.{Failed}
use Rattle.bk_answer.proofs.answer.refuse.Goals as goal

pub returns-clause-outcome : goal.returns-clause-outcome
returns-clause-outcome g c = (
  refl,
  subst (Appends (g.O.Sink.written c.args.out.now) (g.O.Sink.written c.write_all.new.self)) (c.as_slice.ensures.value ∙ c.write_refused.ensures)
      c.in_ok-write_all.ensures.ok,
)

pub as_slice-requires : goal.as_slice-requires
as_slice-requires g c = lit< tt

pub returns-in_err-write_all-clause-outcome : goal.returns-in_err-write_all-clause-outcome
returns-in_err-write_all-clause-outcome g c = IfOk-from_err c.from_residual.result _ c.from_residual.ensures.0

pub returns-in_err-write_all-clause-failed : goal.returns-in_err-write_all-clause-failed
returns-in_err-write_all-clause-failed g c =
    on_err-intro c.from_residual.result
    (subst (AppendsPrefix (g.O.Sink.written c.args.out.now) (g.O.Sink.written c.write_all.new.self)) (c.as_slice.ensures.value ∙ c.write_refused.ensures)
    c.in_err-write_all.ensures.err)

pub returns-clause-cause : goal.returns-clause-cause
returns-clause-cause g c = record { later = c.write_all.ensures.cause.later; ok = c.in_ok-write_all.ensures.cause.ok; failed = tt }

-- a failure that is handed on has the cause that it had
failed_cause : {T : Type 0} (before now : ℕ) (r : Result T Failed) → IsErr r → before ≤ now → Rose before now → HasCause before now r
failed_cause before now (Ok a) failed later rose = absurd (cc)
failed_cause before now (Err f) failed later rose = record { later = later; ok = tt; failed = rose }

pub returns-in_err-write_all-clause-cause : goal.returns-in_err-write_all-clause-cause
returns-in_err-write_all-clause-cause g c =
    failed_cause (g.O.Sink.faults c.args.out.now) (g.O.Sink.faults c.write_all.new.self) c.from_residual.result c.from_residual.ensures.0
    c.write_all.ensures.cause.later c.in_err-write_all.ensures.cause.failed
