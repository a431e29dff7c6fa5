use Rattle.std.specs.List.{concat, flat_map}
use Rattle.std.proofs.Common.{List, arith, length, subst, sym, ℕ, ◌∙◌}
use Rattle.bk_ports.specs.Causes.{AppendsPrefix, HasCause}
use Rattle.bk_report.specs.ListLines.{group_line}
use Rattle.bk_alike.specs.Alike.{sizes}
use Rattle.bk_alike.specs.GroupsEnd.{group_lines, member_at}
use Rattle.bk_alike.specs.WrittenLines.{WritesLines}
use Rattle.bk_alike.proofs.ListLoops.{first_broken, first_line_written_then_the_others, lines_broken_by_a_failed_call}
use Rattle.bk_alike.proofs.GroupMembers.{length-groups, lines_of_group, places_below}
use Rattle.bk_answer.proofs.Failing.{cause-of_error}
use Rattle.bk_alike.proofs.closing.write_one_group.Goals as goal

pub returns-in_err-write_all-clause-lines : goal.returns-in_err-write_all-clause-lines
returns-in_err-write_all-clause-lines g c a e =
    let b = c.size-width.result in
    let members = c.members-members.result.now in
    lines_broken_by_a_failed_call _ (group_lines c.args.items.now a) (g.O.Sink.written c.args.out.now) (g.O.Sink.written c.write_all.new.self)
    c.from_residual.result c.from_residual.ensures.1
    (subst (λ (l : List (List ℕ)). AppendsPrefix (g.O.Sink.written c.args.out.now) (g.O.Sink.written c.write_all.new.self) (concat l))
    (sym (lines_of_group c.args.items.now c.args.g a b members c.size-width.ensures c.members-members.ensures e))
    (first_broken (group_line b.0 b.1 (length members)) c.as_slice.result.now (flat_map (member_at c.args.items.now) members)
    (g.O.Sink.written c.args.out.now) (g.O.Sink.written c.write_all.new.self)
    (c.as_slice.ensures.value ∙ c.write_group.ensures) c.in_err-write_all.ensures.err))

pub write_members-requires : goal.write_members-requires
write_members-requires g c = places_below c.args.items.now c.args.g c.size-width.result c.members-members.result.now c.size-width.ensures
    c.members-members.ensures

pub returns-clause-lines : goal.returns-clause-lines
returns-clause-lines g c a e =
    let b = c.size-width.result in
    let members = c.members-members.result.now in
    subst (λ (l : List (List ℕ)). WritesLines l (g.O.Sink.written c.args.out.now) (g.O.Sink.written c.write_members.new.out) c.write_members.result)
    (sym (lines_of_group c.args.items.now c.args.g a b members c.size-width.ensures c.members-members.ensures e))
    (first_line_written_then_the_others (group_line b.0 b.1 (length members)) c.as_slice.result.now (flat_map (member_at c.args.items.now) members)
    (g.O.Sink.written c.args.out.now) (g.O.Sink.written c.write_all.new.self) (g.O.Sink.written c.write_members.new.out) c.write_members.result
    (c.as_slice.ensures.value ∙ c.write_group.ensures) c.in_ok-write_all.ensures.ok c.write_members.ensures.lines)

pub size-width-requires : goal.size-width-requires
size-width-requires g c = omega (arith, c.requires, length-groups c.args.items.now (sizes c.args.items.now))

pub members-members-requires : goal.members-members-requires
members-members-requires g c = omega (arith, c.requires, length-groups c.args.items.now (sizes c.args.items.now))

pub returns-in_err-write_all-clause-cause : goal.returns-in_err-write_all-clause-cause
returns-in_err-write_all-clause-cause g c =
    cause-of_error _ c.from_residual.result c.from_residual.ensures.1 c.in_err-write_all.ensures.cause

pub returns-clause-cause : goal.returns-clause-cause
returns-clause-cause g c =
    subst (λ (k : ℕ). HasCause k (g.O.Sink.faults c.write_members.new.out) c.write_members.result) c.in_ok-write_all.ensures.cause.ok
    c.write_members.ensures.cause
