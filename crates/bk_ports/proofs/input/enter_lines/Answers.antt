use Rattle.std.proofs.Common.{Bool, Err, List, None, Option, Some, [], arith, false, inl, le_refl, lit<, refl, subst, sym, take, true, zero-le, ℕ, ◌||◌, ◌∙◌}
use Rattle.std.proofs.Common.{◌≡◌}
use Rattle.std.proofs.lemmas.List.{length-take-le}
use Rattle.std.specs.Io.KnownBytes.{Consumes}
use Rattle.bk_laws.proofs.Bytes.{appends-nothing, consumes-nothing}
use Rattle.bk_ports.specs.Causes.{Rose}
use Rattle.bk_ports.specs.Answered.{CountFits}
use Rattle.bk_ports.specs.Ending.{ended_of, streams_between, verdict_of}
use Rattle.bk_ports.specs.Entering.{entering_from, entries_of}
use Rattle.bk_ports.specs.Faults.{CountsTell, Faults, faults_told}
use Rattle.bk_ports.specs.declared.Ended.{Ended}
use Rattle.bk_ports.specs.declared.Ended.TheVariants.{TooMany}
use Rattle.bk_ports.specs.declared.line.Stop.{Stop}
use Rattle.bk_ports.specs.declared.line.Stop.TheVariants.{NoMemory, WriteFailed}
use Rattle.bk_ports.proofs.CountedFaults.{calm_is_done}
use Rattle.bk_ports.proofs.Taking.{ends_all, ends_block, ends_last, ends_more, ends_verdict, taken_more}
use Rattle.bk_ports.proofs.input.enter_lines.Goals as goal

-- what the counts tell of a run that stops at a line, and of one that enters all lines
at_stop : (stop : Stop) (faults : Faults) → faults.read_after ≡ faults.read → CountFits {T = Bool} faults.write faults.write_after (Err stop)
    → CountsTell (ended_of stop) faults
at_stop WriteFailed faults same count = (same, count)
at_stop NoMemory faults same count = (same, count)

stop_tells : (stop : Stop) (ended : Ended) (read read_after write now write_after : ℕ) → ended ≡ ended_of stop → read_after ≡ read → now ≡ write
    → CountFits {T = Bool} now write_after (Err stop)
    → CountsTell ended (faults_told read read_after write write_after)
stop_tells stop ended read read_after write now write_after is same at count =
    let faults : Faults = faults_told read read_after write write_after in
    subst (λ (e : Ended). CountsTell e faults) (sym is)
    (at_stop stop faults same (subst (λ (n : ℕ). CountFits {T = Bool} n write_after (Err stop)) at count))

at_verdict : (refused : Bool) (faults : Faults) → faults.read_after ≡ faults.read → faults.write_after ≡ faults.write → CountsTell (verdict_of refused) faults
at_verdict true faults read write = (read, write)
at_verdict false faults read write = (read, write)

nothing_consumed : (left : Option (List ℕ)) → Consumes left left []
nothing_consumed None = tt
nothing_consumed (Some xs) = refl

pub returns-in-Ok-enter_last-clause-ending : goal.returns-in-Ok-enter_last-clause-ending
returns-in-Ok-enter_last-clause-ending g c =
    ends_verdict (record { enters = g.R.Register.enters; may_want = g.R.Register.may_want }) c.args.register.now c.enter_last.new.register
    (streams_between g.S.Source.left g.O.Sink.written (c.args.source.now, c.args.out.now) (c.read_block.new.source, c.enter_last.new.out))
    (c.reads.refused || c.in-Ok-enter_last.is_refused) c.verdict.result c.verdict.ensures
    (ends_all (record { enters = g.R.Register.enters; may_want = g.R.Register.may_want }) c.args.register.now c.reads.register
    (g.S.Source.left c.args.source.now) (g.S.Source.left c.reads.source) (g.S.Source.left c.read_block.new.source) (g.O.Sink.written c.args.out.now)
    (g.O.Sink.written c.reads.out) (g.O.Sink.written c.enter_last.new.out)
    c.reads.taken c.reads.kept.front.items c.reads.kept.number c.reads.refused c.reads.invariant.state c.in-Ok-enter_last.is_refused c.enter_last.new.register
    (consumes-nothing _ _ c.read_block.new.block c.in-Ok.count c.if-count-eq0.true c.in-Ok.ensures.bytes.0)
    (c.in-Ok.ensures.bytes.1 c.if-count-eq0.true (omega (arith, c.read_block.array_long))) c.reads.invariant.within c.in-Ok-enter_last.ensures.entered)

pub returns-in-Err-clause-ending : goal.returns-in-Err-clause-ending
returns-in-Err-clause-ending g c =
    ends_last (record { enters = g.R.Register.enters; may_want = g.R.Register.may_want }) c.args.register.now c.reads.register c.enter_last.new.register
    (g.S.Source.left c.args.source.now) (g.S.Source.left c.reads.source) (g.S.Source.left c.read_block.new.source) (g.O.Sink.written c.args.out.now)
    (g.O.Sink.written c.reads.out) (g.O.Sink.written c.enter_last.new.out)
    c.reads.taken c.reads.kept.front.items c.reads.kept.number c.reads.refused c.reads.invariant.state c.in-Err.stop c.ended.result c.ended.ensures
    (consumes-nothing _ _ c.read_block.new.block c.in-Ok.count c.if-count-eq0.true c.in-Ok.ensures.bytes.0)
    (c.in-Ok.ensures.bytes.1 c.if-count-eq0.true (omega (arith, c.read_block.array_long))) c.reads.invariant.within c.in-Err.ensures.stopped

pub returns-then-taken-eq-MOST_BYTES-clause-ending : goal.returns-then-taken-eq-MOST_BYTES-clause-ending
returns-then-taken-eq-MOST_BYTES-clause-ending g c =
    let size = (length-take-le c.in-Ok.count c.read_block.new.block (omega (arith, c.read_block.array_long, c.in-Ok.ensures.count))) in
    ends_more (record { enters = g.R.Register.enters; may_want = g.R.Register.may_want }) c.args.register.now c.reads.register
    (g.S.Source.left c.args.source.now) (g.S.Source.left c.reads.source) (g.S.Source.left c.read_block.new.source) (g.O.Sink.written c.args.out.now)
    (g.O.Sink.written c.reads.out) (g.O.Sink.written c.reads.out)
    c.reads.taken c.reads.kept.front.items c.reads.kept.number c.reads.refused c.reads.invariant.state (take c.in-Ok.count c.read_block.new.block)
    c.in-Ok.ensures.bytes.0
    (omega (arith, size, c.if-count-eq0.false, c.in-Ok.ensures.one c.if-taken-eq-MOST_BYTES.true)) c.if-taken-eq-MOST_BYTES.true

pub returns-in-Err-enter_block-clause-ending : goal.returns-in-Err-enter_block-clause-ending
returns-in-Err-enter_block-clause-ending g c =
    ends_block (record { enters = g.R.Register.enters; may_want = g.R.Register.may_want }) c.args.register.now c.reads.register c.enter_block.new.register
    (g.S.Source.left c.args.source.now) (g.S.Source.left c.reads.source) (g.S.Source.left c.read_block.new.source) (g.O.Sink.written c.args.out.now)
    (g.O.Sink.written c.reads.out) (g.O.Sink.written c.enter_block.new.out)
    c.reads.taken c.reads.kept.front.items c.reads.kept.number c.reads.refused c.reads.invariant.state c.in-Err-enter_block.stop
    c.ended-in-Err-enter_block.result c.in-Ok.count (take c.in-Ok.count c.read_block.new.block)
    c.ended-in-Err-enter_block.ensures c.in-Ok.ensures.bytes.0
    (length-take-le c.in-Ok.count c.read_block.new.block (omega (arith, c.read_block.array_long, c.in-Ok.ensures.count)))
    (omega (arith, c.in-Ok.ensures.within (omega arith))) c.in-Err-enter_block.ensures.stopped

pub reads-preserved : goal.reads-preserved
reads-preserved g c = record {
  state =
      taken_more (record { enters = g.R.Register.enters; may_want = g.R.Register.may_want }) c.args.register.now c.reads.register c.enter_block.new.register
      (g.S.Source.left c.args.source.now) (g.S.Source.left c.reads.source) (g.S.Source.left c.read_block.new.source) (g.O.Sink.written c.args.out.now)
      (g.O.Sink.written c.reads.out) (g.O.Sink.written c.enter_block.new.out)
      c.reads.taken c.in-Ok.count c.reads.kept.front.items c.enter_block.new.kept.front.items (take c.in-Ok.count c.read_block.new.block) c.reads.kept.number
      c.enter_block.new.kept.number
      c.reads.refused c.in-Ok-enter_block.is_refused c.reads.invariant.state c.in-Ok.ensures.bytes.0
      (length-take-le c.in-Ok.count c.read_block.new.block (omega (arith, c.read_block.array_long, c.in-Ok.ensures.count)))
      c.in-Ok-enter_block.ensures.front c.in-Ok-enter_block.ensures.number c.in-Ok-enter_block.ensures.entered;
  within = (omega (arith, c.in-Ok.ensures.within (omega arith)));
  early =
      omega (
        arith,
        c.in-Ok-enter_block.ensures.early,
        c.reads.invariant.early,
        length-take-le c.in-Ok.count c.read_block.new.block (omega (arith, c.read_block.array_long, c.in-Ok.ensures.count)),
      );
  is_ready = c.in-Ok-enter_block.ensures.ready;
  same_source = c.in-Ok.ensures.cause.ok ∙ c.reads.invariant.same_source;
  same_out = c.in-Ok-enter_block.ensures.count ∙ c.reads.invariant.same_out;
}

pub returns-in-Ok-enter_last-clause-faults : goal.returns-in-Ok-enter_last-clause-faults
returns-in-Ok-enter_last-clause-faults g c =
    let faults : Faults = faults_told (g.S.Source.faults c.args.source.now) (g.S.Source.faults c.read_block.new.source)
    (g.O.Sink.faults c.args.out.now) (g.O.Sink.faults c.enter_last.new.out) in
    subst (λ (e : Ended). CountsTell e faults) (sym c.verdict.ensures)
    (at_verdict (c.reads.refused || c.in-Ok-enter_last.is_refused) faults (c.in-Ok.ensures.cause.ok ∙ c.reads.invariant.same_source)
    (c.in-Ok-enter_last.ensures.count ∙ c.reads.invariant.same_out))

pub returns-in-Ok-enter_last-clause-complete : goal.returns-in-Ok-enter_last-clause-complete
returns-in-Ok-enter_last-clause-complete g c calm = inl (c.reads.refused || c.in-Ok-enter_last.is_refused, c.verdict.ensures)

pub returns-in-Err-clause-faults : goal.returns-in-Err-clause-faults
returns-in-Err-clause-faults g c =
    stop_tells c.in-Err.stop c.ended.result (g.S.Source.faults c.args.source.now) (g.S.Source.faults c.read_block.new.source)
    (g.O.Sink.faults c.args.out.now) (g.O.Sink.faults c.reads.out) (g.O.Sink.faults c.enter_last.new.out)
    c.ended.ensures (c.in-Ok.ensures.cause.ok ∙ c.reads.invariant.same_source) c.reads.invariant.same_out c.in-Err.ensures.count

pub returns-in-Err-clause-complete : goal.returns-in-Err-clause-complete
returns-in-Err-clause-complete g c =
    calm_is_done
    (entries_of (entering_from (record { enters = g.R.Register.enters; may_want = g.R.Register.may_want }) c.args.register.now 1) c.enter_last.new.register)
    (streams_between g.S.Source.left g.O.Sink.written (c.args.source.now, c.args.out.now) (c.read_block.new.source, c.enter_last.new.out))
    _ c.ended.result (returns-in-Err-clause-ending g c) (returns-in-Err-clause-faults g c)

pub returns-then-taken-eq-MOST_BYTES-clause-faults : goal.returns-then-taken-eq-MOST_BYTES-clause-faults
returns-then-taken-eq-MOST_BYTES-clause-faults g c = (c.in-Ok.ensures.cause.ok ∙ c.reads.invariant.same_source, c.reads.invariant.same_out)

pub returns-in-Err-enter_block-clause-faults : goal.returns-in-Err-enter_block-clause-faults
returns-in-Err-enter_block-clause-faults g c =
    stop_tells c.in-Err-enter_block.stop c.ended-in-Err-enter_block.result (g.S.Source.faults c.args.source.now) (g.S.Source.faults c.read_block.new.source)
    (g.O.Sink.faults c.args.out.now) (g.O.Sink.faults c.reads.out) (g.O.Sink.faults c.enter_block.new.out)
    c.ended-in-Err-enter_block.ensures (c.in-Ok.ensures.cause.ok ∙ c.reads.invariant.same_source) c.reads.invariant.same_out
    c.in-Err-enter_block.ensures.count

pub returns-in-Err-enter_block-clause-complete : goal.returns-in-Err-enter_block-clause-complete
returns-in-Err-enter_block-clause-complete g c =
    calm_is_done
    (entries_of (entering_from (record { enters = g.R.Register.enters; may_want = g.R.Register.may_want }) c.args.register.now 1) c.enter_block.new.register)
    (streams_between g.S.Source.left g.O.Sink.written (c.args.source.now, c.args.out.now) (c.read_block.new.source, c.enter_block.new.out))
    _ c.ended-in-Err-enter_block.result (returns-in-Err-enter_block-clause-ending g c) (returns-in-Err-enter_block-clause-faults g c)

pub enter_last-requires-clause-ready : goal.enter_last-requires-clause-ready
enter_last-requires-clause-ready g c = c.reads.invariant.is_ready

pub enter_block-requires-clause-ready : goal.enter_block-requires-clause-ready
enter_block-requires-clause-ready g c = c.reads.invariant.is_ready

pub read_block-requires : goal.read_block-requires
read_block-requires g c = c.reads.invariant.within

pub new-requires : goal.new-requires
new-requires g c = lit< tt

pub new-buffer-requires : goal.new-buffer-requires
new-buffer-requires g c = lit< tt

pub enter_last-requires-clause-early : goal.enter_last-requires-clause-early
enter_last-requires-clause-early g c = omega (arith, c.reads.invariant.early, c.reads.invariant.within)

pub returns-then-taken-eq-MOST_BYTES-clause-complete : goal.returns-then-taken-eq-MOST_BYTES-clause-complete
returns-then-taken-eq-MOST_BYTES-clause-complete g c =
    calm_is_done
    (entries_of (entering_from (record { enters = g.R.Register.enters; may_want = g.R.Register.may_want }) c.args.register.now 1) c.reads.register)
    (streams_between g.S.Source.left g.O.Sink.written (c.args.source.now, c.args.out.now) (c.read_block.new.source, c.reads.out))
    _ TooMany (returns-then-taken-eq-MOST_BYTES-clause-ending g c) (returns-then-taken-eq-MOST_BYTES-clause-faults g c)

pub slice_bounds-block-end : goal.slice_bounds-block-end
slice_bounds-block-end g c = omega (arith, c.read_block.array_long, c.in-Ok.ensures.count)

pub slice_bounds-enter_block-end : goal.slice_bounds-enter_block-end
slice_bounds-enter_block-end g c = sym (length-take-le c.in-Ok.count c.read_block.new.block (omega (arith, c.read_block.array_long, c.in-Ok.ensures.count)))

pub enter_block-requires-clause-early : goal.enter_block-requires-clause-early
enter_block-requires-clause-early g c =
    omega (
      arith,
      length-take-le c.in-Ok.count c.read_block.new.block (omega (arith, c.read_block.array_long, c.in-Ok.ensures.count)),
      c.reads.invariant.early,
      c.reads.invariant.within,
      c.in-Ok.ensures.count,
    )

pub overflow_add-taken : goal.overflow_add-taken
overflow_add-taken g c = omega (arith, c.reads.invariant.within, c.in-Ok.ensures.count)

pub reads-smaller : goal.reads-smaller
reads-smaller g c = omega (arith, c.if-count-eq0.false, c.if-taken-eq-MOST_BYTES.false, c.reads.invariant.within)

pub returns-in_default-clause-faults : goal.returns-in_default-clause-faults
returns-in_default-clause-faults g c = (
  subst (λ (n : ℕ). Rose n (g.S.Source.faults c.read_block.new.source)) c.reads.invariant.same_source c.in_default.ensures.cause.failed,
  c.reads.invariant.same_out,
)

pub reads-init : goal.reads-init
reads-init g c = record {
  state = record {
    input = [];
    taken = nothing_consumed (g.S.Source.left c.args.source.now);
    size = refl;
    front = c.new.ensures;
    numbered = refl;
    entered = record { replies = []; each = refl; written = appends-nothing (g.O.Sink.written c.args.out.now); any = refl };
  };
  within = zero-le;
  early = le_refl 1;
  is_ready = c.requires;
  same_source = refl;
  same_out = refl;
}
