use Rattle.std.proofs.Common.{subst}
use Rattle.bk_walk.specs.Finding.{HasOnlyMembers}
use Rattle.bk_walk.proofs.finding.Finder.table.Goals as goal

pub returns-clause-only : goal.returns-clause-only
returns-clause-only g c = subst HasOnlyMembers c.self.view_is c.self.invariant.only
