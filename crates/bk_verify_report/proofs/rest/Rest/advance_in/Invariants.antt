use Rattle.std.proofs.Common.{◌-◌, ◌^◌, ◌≡◌}
use Rattle.bk_verify_report.proofs.Passing.{IsPassing}
use Rattle.bk_verify_report.proofs.rest.Rest.advance_in.Given as goal

abbrev pub invariant-members : goal.invariant-members
invariant-members g l =
    IsPassing l.fn.self.walk l.fn.self.pairs (g.M.Members.at l.self-inside.walk) l.self-inside.members × (l.self-inside.entries.pairs ≡ l.fn.self.pairs)

abbrev pub decreases-members : goal.decreases-members
decreases-members g l = 2 ^ 64 - l.self-inside.members
