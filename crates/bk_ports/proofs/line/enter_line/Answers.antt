use Rattle.std.proofs.Common.{[], List, ℕ, false, length, refl, subst, sym}
use Rattle.std.proofs.lemmas.Bool.{eqb-true}
use Rattle.std.proofs.lemmas.List.{nil_from_length}
use Rattle.bk_laws.proofs.Bytes.{appends-nothing}
use Rattle.bk_ports.proofs.line.enter_line.Goals as goal

pub returns-in-Err-clause-entered : goal.returns-in-Err-clause-entered
returns-in-Err-clause-entered g c = tt

pub returns-in-Err-clause-count : goal.returns-in-Err-clause-count
returns-in-Err-clause-count g c = c.in-Err.ensures.cause.failed

pub returns-in-Err-clause-ready : goal.returns-in-Err-clause-ready
returns-in-Err-clause-ready g c = tt

pub returns-then-is_empty-clause-count : goal.returns-then-is_empty-clause-count
returns-then-is_empty-clause-count g c = refl

pub enter-requires-clause-short : goal.enter-requires-clause-short
enter-requires-clause-short g c = c.requires.short

pub enter-requires-clause-early : goal.enter-requires-clause-early
enter-requires-clause-early g c = c.requires.early

pub enter-requires-clause-ready : goal.enter-requires-clause-ready
enter-requires-clause-ready g c = c.requires.ready

pub returns-in-Ok-Accepted-clause-count : goal.returns-in-Ok-Accepted-clause-count
returns-in-Ok-Accepted-clause-count g c = c.in-Ok-Accepted.ensures.cause.ok

pub returns-in-Ok-Accepted-clause-ready : goal.returns-in-Ok-Accepted-clause-ready
returns-in-Ok-Accepted-clause-ready g c = c.in-Ok-Accepted.ensures.ready

pub returns-in-Ok-Refused-clause-count : goal.returns-in-Ok-Refused-clause-count
returns-in-Ok-Refused-clause-count g c = c.in-Ok-Refused.ensures.cause.ok

pub returns-in-Ok-Refused-clause-ready : goal.returns-in-Ok-Refused-clause-ready
returns-in-Ok-Refused-clause-ready g c = c.in-Ok-Refused.ensures.ready

pub returns-in-Ok-NoMemory-clause-count : goal.returns-in-Ok-NoMemory-clause-count
returns-in-Ok-NoMemory-clause-count g c = c.in-Ok-NoMemory.ensures.cause.ok

pub returns-in-Ok-Accepted-clause-entered : goal.returns-in-Ok-Accepted-clause-entered
returns-in-Ok-Accepted-clause-entered g c = rw c.in-Ok-Accepted.field-0-is at c.in-Ok-Accepted.ensures.outcome

pub returns-in-Ok-Refused-clause-entered : goal.returns-in-Ok-Refused-clause-entered
returns-in-Ok-Refused-clause-entered g c = rw c.in-Ok-Refused.field-0-is at c.in-Ok-Refused.ensures.outcome

pub returns-in-Ok-NoMemory-clause-stopped : goal.returns-in-Ok-NoMemory-clause-stopped
returns-in-Ok-NoMemory-clause-stopped g c = rw c.in-Ok-NoMemory.field-0-is at c.in-Ok-NoMemory.ensures.outcome

pub returns-in-Err-clause-stopped : goal.returns-in-Err-clause-stopped
returns-in-Err-clause-stopped g c = c.in-Err.ensures.failed

pub returns-then-is_empty-clause-entered : goal.returns-then-is_empty-clause-entered
returns-then-is_empty-clause-entered g c =
    let none = nil_from_length c.args.line.now (eqb-true (length c.args.line.now) 0 (sym c.if-is_empty.ensures)) in
    record {
      pieces = [];
      answer =
          subst (λ (l : List ℕ). g.R.Register.enters c.args.register.now c.args.number l [] false c.args.register.now)
          (sym none) (g.met.R.Register.empty_line c.args.register.now c.args.number);
      written = appends-nothing (g.O.Sink.written c.args.out.now);
    }

pub returns-then-is_empty-clause-stopped : goal.returns-then-is_empty-clause-stopped
returns-then-is_empty-clause-stopped g c = tt

pub returns-then-is_empty-clause-ready : goal.returns-then-is_empty-clause-ready
returns-then-is_empty-clause-ready g c = g.met.R.Register.still_ready c.args.register.now c.args.number c.requires.ready

pub returns-in-Ok-Accepted-clause-stopped : goal.returns-in-Ok-Accepted-clause-stopped
returns-in-Ok-Accepted-clause-stopped g c = tt

pub returns-in-Ok-Refused-clause-stopped : goal.returns-in-Ok-Refused-clause-stopped
returns-in-Ok-Refused-clause-stopped g c = tt

pub returns-in-Ok-NoMemory-clause-entered : goal.returns-in-Ok-NoMemory-clause-entered
returns-in-Ok-NoMemory-clause-entered g c = tt

pub returns-in-Ok-NoMemory-clause-ready : goal.returns-in-Ok-NoMemory-clause-ready
returns-in-Ok-NoMemory-clause-ready g c = tt
