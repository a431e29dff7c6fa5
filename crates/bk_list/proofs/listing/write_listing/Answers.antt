use Rattle.std.proofs.Common.{ap, inl, inr, lit<, refl, ◌-◌, ◌∙◌}
use Rattle.bk_laws.proofs.Outcomes.{if_ok-of_error, on_err-intro}
use Rattle.bk_list.proofs.Exits.{cause_of_exit, no_cause}
use Rattle.bk_list.proofs.ListingSteps.{begun_whole, ended_narrow, line_of_same, written_whole}
use Rattle.bk_list.proofs.StepCounts.{stands_behind, takes_all, took_all}
use Rattle.bk_list.specs.Listing.{Catalogue}
use Rattle.bk_list.specs.ListedMembers.{listing_of}
use Rattle.bk_list.proofs.listing.write_listing.Goals as goal

pub returns-in_err-last-clause-begun : goal.returns-in_err-last-clause-begun
returns-in_err-last-clause-begun g c = on_err-intro c.from_residual.result c.in_err-last.ensures.begun

pub returns-in_err-last-clause-stopped : goal.returns-in_err-last-clause-stopped
returns-in_err-last-clause-stopped g c = on_err-intro c.from_residual.result (inl c.in_err-last.ensures.stopped)

pub returns-in_err-last-clause-listed : goal.returns-in_err-last-clause-listed
returns-in_err-last-clause-listed g c = if_ok-of_error _ c.from_residual.result _ c.from_residual.ensures.1

pub returns-in_err-last-clause-stands : goal.returns-in_err-last-clause-stands
returns-in_err-last-clause-stands g c = if_ok-of_error _ c.from_residual.result _ c.from_residual.ensures.1

pub returns-in_err-last-clause-steps : goal.returns-in_err-last-clause-steps
returns-in_err-last-clause-steps g c = if_ok-of_error _ c.from_residual.result _ c.from_residual.ensures.1

pub returns-in_err-last-clause-cause : goal.returns-in_err-last-clause-cause
returns-in_err-last-clause-cause g c =
    cause_of_exit _ (g.O.Sink.faults c.args.out.now) (g.O.Sink.faults c.args.out.now) (g.O.Sink.faults c.write_entries.new.out) _
    c.from_residual.result c.from_residual.ensures.1 refl c.in_err-last.ensures.cause

pub returns-in_err-last-clause-catalogue : goal.returns-in_err-last-clause-catalogue
returns-in_err-last-clause-catalogue g c = c.in_err-last.ensures.catalogue

pub returns-in_err-write_all-clause-begun : goal.returns-in_err-write_all-clause-begun
returns-in_err-write_all-clause-begun g c =
    let first = g.M.Members.at c.args.members.now in
    let then = g.M.Members.at c.write_entries.new.members in
    on_err-intro c.from_residual-in_err-write_all.result
    (begun_whole (listing_of first c.args.limit) c.in_ok-last.last c.in_ok-last.listed then.cursor (g.O.Sink.written c.args.out.now)
    (g.O.Sink.written c.write_entries.new.out) (g.O.Sink.written c.write_all.new.self) c.in_ok-last.ensures.ended.0 c.as_slice.result.now
    (c.as_slice.ensures.value ∙ c.write_last.ensures
    ∙ line_of_same c.in_ok-last.last c.order.result first.order c.class.result first.class c.in_ok-last.listed c.cursor.result.now then.cursor
    (c.order.ensures ∙ ap (λ (k : Catalogue). k.order) c.in_ok-last.ensures.catalogue)
    (c.class.ensures ∙ ap (λ (k : Catalogue). k.class) c.in_ok-last.ensures.catalogue) c.cursor.ensures)
    c.in_err-write_all.ensures.err)

pub returns-in_err-write_all-clause-stopped : goal.returns-in_err-write_all-clause-stopped
returns-in_err-write_all-clause-stopped g c =
    let first = g.M.Members.at c.args.members.now in
    let then = g.M.Members.at c.write_entries.new.members in
    on_err-intro c.from_residual-in_err-write_all.result
    (inr (took_all (listing_of first c.args.limit) c.in_ok-last.last c.in_ok-last.listed (g.O.Sink.written c.args.out.now)
    (g.O.Sink.written c.write_entries.new.out) then.cursor (c.write_entries.new.steps - c.args.steps.now)
    c.in_ok-last.ensures.ended.0 c.in_ok-last.ensures.ended.1 then.cursor
    (g.O.Sink.written c.write_all.new.self) c.as_slice.result.now
    (c.as_slice.ensures.value ∙ c.write_last.ensures
    ∙ line_of_same c.in_ok-last.last c.order.result first.order c.class.result first.class c.in_ok-last.listed c.cursor.result.now then.cursor
    (c.order.ensures ∙ ap (λ (k : Catalogue). k.order) c.in_ok-last.ensures.catalogue)
    (c.class.ensures ∙ ap (λ (k : Catalogue). k.class) c.in_ok-last.ensures.catalogue) c.cursor.ensures)
    c.in_err-write_all.ensures.err))

pub returns-in_err-write_all-clause-listed : goal.returns-in_err-write_all-clause-listed
returns-in_err-write_all-clause-listed g c = if_ok-of_error _ c.from_residual-in_err-write_all.result _ c.from_residual-in_err-write_all.ensures.1

pub returns-in_err-write_all-clause-stands : goal.returns-in_err-write_all-clause-stands
returns-in_err-write_all-clause-stands g c = if_ok-of_error _ c.from_residual-in_err-write_all.result _ c.from_residual-in_err-write_all.ensures.1

pub returns-in_err-write_all-clause-steps : goal.returns-in_err-write_all-clause-steps
returns-in_err-write_all-clause-steps g c = if_ok-of_error _ c.from_residual-in_err-write_all.result _ c.from_residual-in_err-write_all.ensures.1

pub returns-in_err-write_all-clause-cause : goal.returns-in_err-write_all-clause-cause
returns-in_err-write_all-clause-cause g c =
    cause_of_exit _ (g.O.Sink.faults c.args.out.now) (g.O.Sink.faults c.write_entries.new.out) (g.O.Sink.faults c.write_all.new.self)
    _ c.from_residual-in_err-write_all.result c.from_residual-in_err-write_all.ensures.1
    (c.in_ok-last.ensures.cause).ok c.in_err-write_all.ensures.cause

pub returns-in_err-write_all-clause-catalogue : goal.returns-in_err-write_all-clause-catalogue
returns-in_err-write_all-clause-catalogue g c = c.in_ok-last.ensures.catalogue

pub returns-clause-listed : goal.returns-clause-listed
returns-clause-listed g c =
    let first = g.M.Members.at c.args.members.now in
    let then = g.M.Members.at c.write_entries.new.members in
    written_whole (listing_of first c.args.limit) c.in_ok-last.last c.in_ok-last.listed then.cursor (g.O.Sink.written c.args.out.now)
    (g.O.Sink.written c.write_entries.new.out) (g.O.Sink.written c.write_all.new.self) c.in_ok-last.ensures.ended.0 c.as_slice.result.now
    (c.as_slice.ensures.value ∙ c.write_last.ensures
    ∙ line_of_same c.in_ok-last.last c.order.result first.order c.class.result first.class c.in_ok-last.listed c.cursor.result.now then.cursor
    (c.order.ensures ∙ ap (λ (k : Catalogue). k.order) c.in_ok-last.ensures.catalogue)
    (c.class.ensures ∙ ap (λ (k : Catalogue). k.class) c.in_ok-last.ensures.catalogue) c.cursor.ensures)
    c.in_ok-write_all.ensures.ok

pub returns-clause-begun : goal.returns-clause-begun
returns-clause-begun g c = tt

pub returns-clause-cause : goal.returns-clause-cause
returns-clause-cause g c =
    no_cause (g.O.Sink.faults c.args.out.now) (g.O.Sink.faults c.write_all.new.self) c.in_ok-last.last
    ((c.in_ok-write_all.ensures.cause).ok ∙ (c.in_ok-last.ensures.cause).ok)

pub returns-clause-stands : goal.returns-clause-stands
returns-clause-stands g c =
    let first = g.M.Members.at c.args.members.now in
    let then = g.M.Members.at c.write_entries.new.members in
    stands_behind (listing_of first c.args.limit) c.in_ok-last.last c.in_ok-last.listed (g.O.Sink.written c.args.out.now)
    (g.O.Sink.written c.write_entries.new.out) then.cursor (c.write_entries.new.steps - c.args.steps.now)
    c.in_ok-last.ensures.ended.0 c.in_ok-last.ensures.ended.1

pub returns-clause-steps : goal.returns-clause-steps
returns-clause-steps g c =
    let first = g.M.Members.at c.args.members.now in
    let then = g.M.Members.at c.write_entries.new.members in
    takes_all (listing_of first c.args.limit) c.in_ok-last.last c.in_ok-last.listed (g.O.Sink.written c.args.out.now)
    (g.O.Sink.written c.write_entries.new.out) then.cursor (c.write_entries.new.steps - c.args.steps.now)
    c.in_ok-last.ensures.ended.0 c.in_ok-last.ensures.ended.1

pub returns-clause-stopped : goal.returns-clause-stopped
returns-clause-stopped g c = tt

pub returns-clause-catalogue : goal.returns-clause-catalogue
returns-clause-catalogue g c = c.in_ok-last.ensures.catalogue

pub write_last-requires : goal.write_last-requires
write_last-requires g c e =
    let first = g.M.Members.at c.args.members.now in
    absurd (ended_narrow (listing_of first c.args.limit) c.in_ok-last.last c.in_ok-last.listed (g.O.Sink.written c.args.out.now)
    (g.O.Sink.written c.write_entries.new.out) c.in_ok-last.ensures.ended.0 e)

pub as_slice-requires : goal.as_slice-requires
as_slice-requires g c = lit< tt
