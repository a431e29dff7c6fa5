use Rattle.std.proofs.Common.{◌-◌, ◌^◌}
use Rattle.bk_verify_report.proofs.Listing.{IsListingOn}
use Rattle.bk_verify_report.proofs.closing.write_missing_members.Given as goal

abbrev pub invariant-members : goal.invariant-members
invariant-members g l = IsListingOn l.initial.rest l.rest l.missing (g.O.Sink.written l.initial.out) (g.O.Sink.written l.out)
    (g.O.Sink.faults l.initial.out) (g.O.Sink.faults l.out)

abbrev pub decreases-members : goal.decreases-members
decreases-members g l = 2 ^ 64 - l.missing
