use Rattle.std.specs.Io.KnownBytes.{Appends}
use Rattle.std.proofs.Common.{List, false, refl, subst, true, ℕ, ◌∙◌}
use Rattle.bk_laws.proofs.Outcomes.{if_ok-of_error, on_err-intro}
use Rattle.bk_ports.specs.Causes.{AppendsPrefix}
use Rattle.bk_list.proofs.Exits.{cause_of_exit, no_cause}
use Rattle.bk_list.proofs.ListingSteps.{same_catalogue, word_has_a_move}
use Rattle.bk_list.proofs.entries.write_next.Goals as goal

pub write_entry-requires-clause-some : goal.write_entry-requires-clause-some
write_entry-requires-clause-some g c =
    let first = g.M.Members.at c.args.members.now in
    word_has_a_move first.order first.class first.cursor
    (record { tiling = c.advance_in.new.entry.tiling; word = c.advance_in.new.entry.word })
    (c.advance_in.ensures.entry c.if-not-advance_in.false)

pub write_entry-requires-clause-code : goal.write_entry-requires-clause-code
write_entry-requires-clause-code g c = c.advance_in.ensures.code c.if-not-advance_in.false

pub returns-in_err-write_all-clause-begun : goal.returns-in_err-write_all-clause-begun
returns-in_err-write_all-clause-begun g c =
    on_err-intro c.from_residual.result (
      record { tiling = c.advance_in.new.entry.tiling; word = c.advance_in.new.entry.word },
      c.advance_in.ensures.entry c.if-not-advance_in.false,
      c.advance_in.ensures.cursor c.if-not-advance_in.false,
      subst (λ (l : List ℕ). AppendsPrefix (g.O.Sink.written c.args.out.now) (g.O.Sink.written c.write_all.new.self) l)
          (c.as_slice.ensures.value ∙ c.write_entry.ensures) c.in_err-write_all.ensures.err,
    )

pub returns-in_err-write_all-clause-stopped : goal.returns-in_err-write_all-clause-stopped
returns-in_err-write_all-clause-stopped g c = on_err-intro c.from_residual.result (c.advance_in.ensures.steps c.if-not-advance_in.false)

pub returns-in_err-write_all-clause-next : goal.returns-in_err-write_all-clause-next
returns-in_err-write_all-clause-next g c = if_ok-of_error _ c.from_residual.result _ c.from_residual.ensures.1

pub returns-in_err-write_all-clause-cause : goal.returns-in_err-write_all-clause-cause
returns-in_err-write_all-clause-cause g c =
    cause_of_exit _ (g.O.Sink.faults c.args.out.now) (g.O.Sink.faults c.args.out.now) (g.O.Sink.faults c.write_all.new.self) _
    c.from_residual.result c.from_residual.ensures.1 refl c.in_err-write_all.ensures.cause

pub returns-in_err-write_all-clause-catalogue : goal.returns-in_err-write_all-clause-catalogue
returns-in_err-write_all-clause-catalogue g c =
    same_catalogue (g.M.Members.at c.advance_in.new.self) (g.M.Members.at c.args.members.now) c.advance_in.ensures.order c.advance_in.ensures.class

pub returns-in_err-write_all-clause-steps : goal.returns-in_err-write_all-clause-steps
returns-in_err-write_all-clause-steps g c = if_ok-of_error _ c.from_residual.result _ c.from_residual.ensures.1

pub returns-clause-next : goal.returns-clause-next
returns-clause-next g c = (
  record { tiling = c.advance_in.new.entry.tiling; word = c.advance_in.new.entry.word },
  c.advance_in.ensures.entry c.if-not-advance_in.false,
  c.advance_in.ensures.cursor c.if-not-advance_in.false,
  subst (λ (l : List ℕ). Appends (g.O.Sink.written c.args.out.now) (g.O.Sink.written c.write_all.new.self) l)
      (c.as_slice.ensures.value ∙ c.write_entry.ensures) c.in_ok-write_all.ensures.ok,
)

pub returns-clause-begun : goal.returns-clause-begun
returns-clause-begun g c = tt

pub returns-clause-cause : goal.returns-clause-cause
returns-clause-cause g c =
    no_cause (g.O.Sink.faults c.args.out.now) (g.O.Sink.faults c.write_all.new.self) true (c.in_ok-write_all.ensures.cause).ok

pub returns-clause-catalogue : goal.returns-clause-catalogue
returns-clause-catalogue g c =
    same_catalogue (g.M.Members.at c.advance_in.new.self) (g.M.Members.at c.args.members.now) c.advance_in.ensures.order c.advance_in.ensures.class

pub returns-clause-steps : goal.returns-clause-steps
returns-clause-steps g c = c.advance_in.ensures.steps c.if-not-advance_in.false

pub returns-clause-stopped : goal.returns-clause-stopped
returns-clause-stopped g c = tt

pub returns-then-not-advance_in-clause-next : goal.returns-then-not-advance_in-clause-next
returns-then-not-advance_in-clause-next g c =
    (c.advance_in.ensures.none c.if-not-advance_in.true, c.advance_in.ensures.stays c.if-not-advance_in.true, refl)

pub returns-then-not-advance_in-clause-begun : goal.returns-then-not-advance_in-clause-begun
returns-then-not-advance_in-clause-begun g c = tt

pub returns-then-not-advance_in-clause-cause : goal.returns-then-not-advance_in-clause-cause
returns-then-not-advance_in-clause-cause g c = no_cause (g.O.Sink.faults c.args.out.now) (g.O.Sink.faults c.args.out.now) false refl

pub returns-then-not-advance_in-clause-catalogue : goal.returns-then-not-advance_in-clause-catalogue
returns-then-not-advance_in-clause-catalogue g c =
    same_catalogue (g.M.Members.at c.advance_in.new.self) (g.M.Members.at c.args.members.now) c.advance_in.ensures.order c.advance_in.ensures.class

pub returns-then-not-advance_in-clause-steps : goal.returns-then-not-advance_in-clause-steps
returns-then-not-advance_in-clause-steps g c = c.advance_in.ensures.steps_to_end c.if-not-advance_in.true

pub returns-then-not-advance_in-clause-stopped : goal.returns-then-not-advance_in-clause-stopped
returns-then-not-advance_in-clause-stopped g c = tt
