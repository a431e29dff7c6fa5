use Rattle.std.proofs.Common.{List, refl, rules, subst, ℕ, ◌∙◌}
use Rattle.std.specs.Io.KnownBytes.{Appends}
use Rattle.bk_ports.specs.Causes.{AppendsPrefix}
use Rattle.bk_answer.proofs.Failing.{cause-of_error, cause-of_same}
use Rattle.bk_laws.proofs.Outcomes.{if_ok-of_error, on_err-intro}
use Rattle.bk_alike.proofs.listed.ItemList.refuse.Goals as goal

pub returns-in_err-write_all-clause-state : goal.returns-in_err-write_all-clause-state
returns-in_err-write_all-clause-state g c = search rules

pub returns-clause-state : goal.returns-clause-state
returns-clause-state g c = search rules

pub returns-in_err-write_all-clause-outcome : goal.returns-in_err-write_all-clause-outcome
returns-in_err-write_all-clause-outcome g c =
    if_ok-of_error _ c.from_residual.result _ c.from_residual.ensures.1

pub returns-in_err-write_all-clause-failed : goal.returns-in_err-write_all-clause-failed
returns-in_err-write_all-clause-failed g c =
    on_err-intro c.from_residual.result
    (subst (λ (l : List ℕ). AppendsPrefix (g.O.Sink.written c.args.out.now) (g.O.Sink.written c.write_all.new.self) l)
    (c.as_slice.ensures.value ∙ c.write_line_refused.ensures) c.in_err-write_all.ensures.err)

pub returns-in_err-write_all-clause-cause : goal.returns-in_err-write_all-clause-cause
returns-in_err-write_all-clause-cause g c =
    cause-of_error _ c.from_residual.result c.from_residual.ensures.1 c.in_err-write_all.ensures.cause

pub returns-clause-outcome : goal.returns-clause-outcome
returns-clause-outcome g c = (
  refl,
  subst (λ (l : List ℕ). Appends (g.O.Sink.written c.args.out.now) (g.O.Sink.written c.write_all.new.self) l)
      (c.as_slice.ensures.value ∙ c.write_line_refused.ensures) c.in_ok-write_all.ensures.ok,
)

pub returns-clause-cause : goal.returns-clause-cause
returns-clause-cause g c = cause-of_same c.in_ok-write_all.ensures.cause.ok
