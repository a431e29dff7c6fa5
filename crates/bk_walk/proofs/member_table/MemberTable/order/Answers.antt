use Rattle.std.proofs.Common.{ap, ◌∙◌}
use Rattle.bk_walk.specs.Finding.{Finding}
use Rattle.bk_walk.proofs.member_table.MemberTable.order.Goals as goal

pub returns : goal.returns
returns g c = c.order.ensures ∙ ap (λ (f : Finding). f.order) c.self.view_is
