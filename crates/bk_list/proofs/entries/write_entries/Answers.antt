use Rattle.std.proofs.Common.{ap, arith, false, refl, true, ℕ, ◌+◌, ◌-◌, ◌<◌, ◌^◌, ◌∙◌}
use Rattle.bk_laws.proofs.Outcomes.{if_ok-of_error, on_err-intro}
use Rattle.bk_list.proofs.Exits.{cause_of_exit, no_cause}
use Rattle.bk_list.proofs.ListingSteps.{begun_of_same, listed_begun, listed_more, next_of_same, nothing_listed_before_the_first_call}
use Rattle.bk_list.proofs.StepCounts.{next_steps_as, no_steps, steps_all, steps_begun, steps_limit, steps_more, tree_as}
use Rattle.bk_list.specs.Listing.{Catalogue}
use Rattle.bk_list.specs.ListedMembers.{catalogue_of, listing_of}
use Rattle.bk_list.proofs.entries.write_entries.Goals as goal

pub entries-init : goal.entries-init
entries-init g c =
    let first = g.M.Members.at c.args.members.now in
    record {
      listed = nothing_listed_before_the_first_call (listing_of first c.args.limit) (g.O.Sink.written c.args.out.now);
      steps = no_steps first.order first.cursor c.args.steps.now;
      catalogue = refl;
      faults = refl;
    }

pub returns-in_err-is_there-clause-begun : goal.returns-in_err-is_there-clause-begun
returns-in_err-is_there-clause-begun g c =
    let first = g.M.Members.at c.args.members.now in
    let here = g.M.Members.at c.entries.members in
    let then = g.M.Members.at c.write_next.new.members in
    on_err-intro c.from_residual.result
    (listed_begun (listing_of first c.args.limit) here.cursor c.entries.listed (g.O.Sink.written c.args.out.now) (g.O.Sink.written c.entries.out)
    c.entries.invariant.listed (c.is_reached.ensures.no c.if-is_reached.false) then.cursor (g.O.Sink.written c.write_next.new.out)
    (begun_of_same here then (catalogue_of first) (g.O.Sink.written c.entries.out)
    (g.O.Sink.written c.write_next.new.out) c.entries.invariant.catalogue c.in_err-is_there.ensures.begun))

pub entries-preserved : goal.entries-preserved
entries-preserved g c =
    let first = g.M.Members.at c.args.members.now in
    let here = g.M.Members.at c.entries.members in
    let then = g.M.Members.at c.write_next.new.members in
    record {
      listed = listed_more (listing_of first c.args.limit) here.cursor c.entries.listed (g.O.Sink.written c.args.out.now) (g.O.Sink.written c.entries.out)
          c.entries.invariant.listed (c.is_reached.ensures.no c.if-is_reached.false) then.cursor (g.O.Sink.written c.write_next.new.out) c.requires
          (next_of_same here then (catalogue_of first) (g.O.Sink.written c.entries.out)
          (g.O.Sink.written c.write_next.new.out) c.in_ok-is_there.is_there true c.entries.invariant.catalogue c.if-not-is_there.false
          c.in_ok-is_there.ensures.next);
      steps = steps_more (listing_of first c.args.limit) here.cursor c.entries.listed (g.O.Sink.written c.args.out.now) (g.O.Sink.written c.entries.out)
          c.entries.invariant.listed c.args.steps.now c.entries.steps c.write_next.new.steps c.entries.invariant.steps then.cursor
          (g.O.Sink.written c.write_next.new.out)
          (next_of_same here then (catalogue_of first) (g.O.Sink.written c.entries.out)
          (g.O.Sink.written c.write_next.new.out) c.in_ok-is_there.is_there true c.entries.invariant.catalogue c.if-not-is_there.false
          c.in_ok-is_there.ensures.next)
          (next_steps_as here.order first.order c.in_ok-is_there.is_there true here.cursor then.cursor (c.write_next.new.steps - c.entries.steps)
          (ap (λ (k : Catalogue). k.order) c.entries.invariant.catalogue) c.if-not-is_there.false c.in_ok-is_there.ensures.steps);
      catalogue = c.in_ok-is_there.ensures.catalogue ∙ c.entries.invariant.catalogue;
      faults = (c.in_ok-is_there.ensures.cause).ok ∙ c.entries.invariant.faults;
    }

pub returns-then-not-is_there-clause-ended : goal.returns-then-not-is_there-clause-ended
returns-then-not-is_there-clause-ended g c =
    let first = g.M.Members.at c.args.members.now in
    let here = g.M.Members.at c.entries.members in
    let then = g.M.Members.at c.write_next.new.members in
    steps_all (listing_of first c.args.limit) here.cursor c.entries.listed (g.O.Sink.written c.args.out.now) (g.O.Sink.written c.entries.out)
    c.entries.invariant.listed c.args.steps.now c.entries.steps c.write_next.new.steps c.entries.invariant.steps
    (c.is_reached.ensures.no c.if-is_reached.false) then.cursor (g.O.Sink.written c.write_next.new.out)
    (next_of_same here then (catalogue_of first) (g.O.Sink.written c.entries.out)
    (g.O.Sink.written c.write_next.new.out) c.in_ok-is_there.is_there false c.entries.invariant.catalogue c.if-not-is_there.true
    c.in_ok-is_there.ensures.next)
    (next_steps_as here.order first.order c.in_ok-is_there.is_there false here.cursor then.cursor (c.write_next.new.steps - c.entries.steps)
    (ap (λ (k : Catalogue). k.order) c.entries.invariant.catalogue) c.if-not-is_there.true c.in_ok-is_there.ensures.steps)

pub returns-in_err-is_there-clause-stopped : goal.returns-in_err-is_there-clause-stopped
returns-in_err-is_there-clause-stopped g c =
    let first = g.M.Members.at c.args.members.now in
    let here = g.M.Members.at c.entries.members in
    let then = g.M.Members.at c.write_next.new.members in
    on_err-intro c.from_residual.result
    (steps_begun (listing_of first c.args.limit) here.cursor c.entries.listed (g.O.Sink.written c.args.out.now) (g.O.Sink.written c.entries.out)
    c.entries.invariant.listed c.args.steps.now c.entries.steps c.write_next.new.steps c.entries.invariant.steps
    (c.is_reached.ensures.no c.if-is_reached.false) then.cursor (g.O.Sink.written c.write_next.new.out)
    (begun_of_same here then (catalogue_of first) (g.O.Sink.written c.entries.out)
    (g.O.Sink.written c.write_next.new.out) c.entries.invariant.catalogue c.in_err-is_there.ensures.begun)
    (tree_as here.order first.order here.cursor then.cursor (c.write_next.new.steps - c.entries.steps)
    (ap (λ (k : Catalogue). k.order) c.entries.invariant.catalogue) c.in_err-is_there.ensures.stopped))

pub returns-then-is_reached-clause-ended : goal.returns-then-is_reached-clause-ended
returns-then-is_reached-clause-ended g c =
    let first = g.M.Members.at c.args.members.now in
    let here = g.M.Members.at c.entries.members in
    steps_limit (listing_of first c.args.limit) here.cursor c.entries.listed (g.O.Sink.written c.args.out.now) (g.O.Sink.written c.entries.out)
    c.entries.invariant.listed c.args.steps.now c.entries.steps c.entries.steps c.entries.invariant.steps (c.is_reached.ensures.yes c.if-is_reached.true)

pub is_reached-requires : goal.is_reached-requires
is_reached-requires g c = tt

pub returns-then-is_reached-clause-begun : goal.returns-then-is_reached-clause-begun
returns-then-is_reached-clause-begun g c = tt

pub returns-then-is_reached-clause-cause : goal.returns-then-is_reached-clause-cause
returns-then-is_reached-clause-cause g c = no_cause (g.O.Sink.faults c.args.out.now) (g.O.Sink.faults c.entries.out) _ c.entries.invariant.faults

pub returns-then-is_reached-clause-stopped : goal.returns-then-is_reached-clause-stopped
returns-then-is_reached-clause-stopped g c = tt

pub returns-then-is_reached-clause-catalogue : goal.returns-then-is_reached-clause-catalogue
returns-then-is_reached-clause-catalogue g c = c.entries.invariant.catalogue

pub returns-in_err-is_there-clause-ended : goal.returns-in_err-is_there-clause-ended
returns-in_err-is_there-clause-ended g c = if_ok-of_error _ c.from_residual.result _ c.from_residual.ensures.1

pub returns-in_err-is_there-clause-cause : goal.returns-in_err-is_there-clause-cause
returns-in_err-is_there-clause-cause g c =
    cause_of_exit _ (g.O.Sink.faults c.args.out.now) (g.O.Sink.faults c.entries.out) (g.O.Sink.faults c.write_next.new.out) _
    c.from_residual.result c.from_residual.ensures.1 c.entries.invariant.faults c.in_err-is_there.ensures.cause

pub returns-in_err-is_there-clause-catalogue : goal.returns-in_err-is_there-clause-catalogue
returns-in_err-is_there-clause-catalogue g c = c.in_err-is_there.ensures.catalogue ∙ c.entries.invariant.catalogue

pub overflow_add-listed : goal.overflow_add-listed
overflow_add-listed g c = record { fits = c.entries.invariant.listed.few }

fewer_left : (k : ℕ) → k + 1 < 2 ^ 64 → 2 ^ 64 - (k + 1) < 2 ^ 64 - k
fewer_left k h = omega arith

pub entries-smaller : goal.entries-smaller
entries-smaller g c = fewer_left c.entries.listed c.entries.invariant.listed.few

pub returns-then-not-is_there-clause-begun : goal.returns-then-not-is_there-clause-begun
returns-then-not-is_there-clause-begun g c = tt

pub returns-then-not-is_there-clause-cause : goal.returns-then-not-is_there-clause-cause
returns-then-not-is_there-clause-cause g c =
    no_cause (g.O.Sink.faults c.args.out.now) (g.O.Sink.faults c.write_next.new.out) _
    ((c.in_ok-is_there.ensures.cause).ok ∙ c.entries.invariant.faults)

pub returns-then-not-is_there-clause-stopped : goal.returns-then-not-is_there-clause-stopped
returns-then-not-is_there-clause-stopped g c = tt

pub returns-then-not-is_there-clause-catalogue : goal.returns-then-not-is_there-clause-catalogue
returns-then-not-is_there-clause-catalogue g c = c.in_ok-is_there.ensures.catalogue ∙ c.entries.invariant.catalogue
