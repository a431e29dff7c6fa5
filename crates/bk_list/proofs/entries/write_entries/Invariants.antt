use Rattle.std.proofs.Common.{Some, ◌-◌, ◌^◌, ◌≡◌}
use Rattle.bk_list.proofs.ListingSteps.{IsListed}
use Rattle.bk_list.specs.Stepping.{IsAtMostTreeAnd}
use Rattle.bk_list.specs.ListedMembers.{catalogue_of, listing_of}
use Rattle.bk_list.proofs.entries.write_entries.Given as goal

abbrev pub invariant-entries : goal.invariant-entries
invariant-entries g l =
    let first = g.M.Members.at l.initial.members in
    let here = g.M.Members.at l.members in
    record {
      listed : IsListed (listing_of first l.limit) here.cursor l.listed (g.O.Sink.written l.initial.out) (g.O.Sink.written l.out);
      steps : IsAtMostTreeAnd first.order first.cursor (Some here.cursor) l.listed (l.steps - l.initial.steps);
      catalogue : catalogue_of here ≡ catalogue_of first;
      faults : g.O.Sink.faults l.out ≡ g.O.Sink.faults l.initial.out;
    }

abbrev pub decreases-entries : goal.decreases-entries
decreases-entries g l = 2 ^ 64 - l.listed
