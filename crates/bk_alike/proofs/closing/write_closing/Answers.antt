use Rattle.std.proofs.Common.{subst, sym, ℕ, ◌∙◌}
use Rattle.bk_ports.specs.Causes.{HasCause}
use Rattle.bk_alike.specs.GroupsEnd.{closing_lines}
use Rattle.bk_alike.specs.WrittenLines.{WritesLines}
use Rattle.bk_alike.specs.declared.Wanted.{Wanted}
use Rattle.bk_alike.proofs.LastLines.{groups_broken, groups_closed, pairs_closed, pairs_cut}
use Rattle.bk_answer.proofs.Failing.{cause-of_error}
use Rattle.bk_alike.proofs.closing.write_closing.Goals as goal

pub returns-in_err-write_groups-in-Groups-clause-lines : goal.returns-in_err-write_groups-in-Groups-clause-lines
returns-in_err-write_groups-in-Groups-clause-lines g c =
    subst (λ (w : Wanted). WritesLines (closing_lines w c.args.list.now) (g.O.Sink.written c.args.out.now) (g.O.Sink.written c.write_groups.new.out)
    c.from_residual.result) (sym c.in-Groups.is)
    (groups_broken _ c.args.list.now c.items-items.result.now (g.O.Sink.written c.args.out.now) (g.O.Sink.written c.write_groups.new.out)
    c.from_residual.result c.from_residual.ensures.1 c.items-items.ensures c.in_err-write_groups-in-Groups.ensures.lines)

pub returns-in_ok-write_groups-in-Groups-clause-lines : goal.returns-in_ok-write_groups-in-Groups-clause-lines
returns-in_ok-write_groups-in-Groups-clause-lines g c =
    subst (λ (w : Wanted). WritesLines (closing_lines w c.args.list.now) (g.O.Sink.written c.args.out.now) (g.O.Sink.written c.write_all.new.self)
    c.write_all.result) (sym c.in-Groups.is)
    (groups_closed c.args.list.now c.items-items.result.now c.groups.result c.len.result c.refused-refused.result c.as_slice.result.now
    (g.O.Sink.written c.args.out.now) (g.O.Sink.written c.write_groups.new.out) (g.O.Sink.written c.write_all.new.self) c.write_all.result
    c.items-items.ensures c.in_ok-write_groups-in-Groups.ensures.lines c.groups.ensures c.len.ensures.value c.refused-refused.ensures
    (c.as_slice.ensures.value ∙ c.write_alike.ensures) c.write_all.ensures.ok c.write_all.ensures.err)

pub returns-in_err-pairs-in-Pairs-clause-lines : goal.returns-in_err-pairs-in-Pairs-clause-lines
returns-in_err-pairs-in-Pairs-clause-lines g c =
    subst (λ (w : Wanted). WritesLines (closing_lines w c.args.list.now) (g.O.Sink.written c.args.out.now) (g.O.Sink.written c.write_all_pairs.new.out)
    c.from_residual-in_err-pairs-in-Pairs.result) (sym c.in-Pairs.is)
    (pairs_cut _ c.in-Pairs.kind c.args.list.now c.items-items.result.now (g.O.Sink.written c.args.out.now) (g.O.Sink.written c.write_all_pairs.new.out)
    c.from_residual-in_err-pairs-in-Pairs.result c.from_residual-in_err-pairs-in-Pairs.ensures.1 c.items-items.ensures c.in_err-pairs-in-Pairs.ensures.lines)

pub returns-in_ok-pairs-in-Pairs-clause-lines : goal.returns-in_ok-pairs-in-Pairs-clause-lines
returns-in_ok-pairs-in-Pairs-clause-lines g c =
    subst (λ (w : Wanted). WritesLines (closing_lines w c.args.list.now) (g.O.Sink.written c.args.out.now) (g.O.Sink.written c.write_all-in-Pairs.new.self)
    c.write_all-in-Pairs.result) (sym c.in-Pairs.is)
    (pairs_closed c.in-Pairs.kind c.args.list.now c.items-items.result.now c.in_ok-pairs-in-Pairs.pairs c.len.result c.refused-refused.result
    c.as_slice-in-Pairs.result.now
    (g.O.Sink.written c.args.out.now) (g.O.Sink.written c.write_all_pairs.new.out) (g.O.Sink.written c.write_all-in-Pairs.new.self)
    c.write_all-in-Pairs.result c.items-items.ensures c.in_ok-pairs-in-Pairs.ensures.lines c.in_ok-pairs-in-Pairs.ensures.count c.len.ensures.value
    c.refused-refused.ensures
    (c.as_slice-in-Pairs.ensures.value ∙ c.write_pairs.ensures) c.write_all-in-Pairs.ensures.ok c.write_all-in-Pairs.ensures.err)

pub returns-in_err-write_groups-in-Groups-clause-cause : goal.returns-in_err-write_groups-in-Groups-clause-cause
returns-in_err-write_groups-in-Groups-clause-cause g c =
    cause-of_error _ c.from_residual.result c.from_residual.ensures.1 c.in_err-write_groups-in-Groups.ensures.cause

pub returns-in_err-pairs-in-Pairs-clause-cause : goal.returns-in_err-pairs-in-Pairs-clause-cause
returns-in_err-pairs-in-Pairs-clause-cause g c =
    cause-of_error _ c.from_residual-in_err-pairs-in-Pairs.result c.from_residual-in_err-pairs-in-Pairs.ensures.1 c.in_err-pairs-in-Pairs.ensures.cause

pub returns-in_ok-write_groups-in-Groups-clause-cause : goal.returns-in_ok-write_groups-in-Groups-clause-cause
returns-in_ok-write_groups-in-Groups-clause-cause g c =
    subst (λ (k : ℕ). HasCause k (g.O.Sink.faults c.write_all.new.self) c.write_all.result) c.in_ok-write_groups-in-Groups.ensures.cause.ok
    c.write_all.ensures.cause

pub returns-in_ok-pairs-in-Pairs-clause-cause : goal.returns-in_ok-pairs-in-Pairs-clause-cause
returns-in_ok-pairs-in-Pairs-clause-cause g c =
    subst (λ (k : ℕ). HasCause k (g.O.Sink.faults c.write_all-in-Pairs.new.self) c.write_all-in-Pairs.result) c.in_ok-pairs-in-Pairs.ensures.cause.ok
    c.write_all-in-Pairs.ensures.cause
