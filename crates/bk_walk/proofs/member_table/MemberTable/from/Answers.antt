use Rattle.std.proofs.Common.{ap, ◌∙◌}
use Rattle.bk_walk.specs.Finding.{Finding}
use Rattle.bk_walk.proofs.member_table.MemberTable.from.Goals as goal

pub returns : goal.returns
returns g c = c.from.ensures ∙ ap (λ (f : Finding). f.from) c.self.view_is
