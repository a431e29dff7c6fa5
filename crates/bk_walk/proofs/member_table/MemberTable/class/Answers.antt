use Rattle.std.proofs.Common.{ap, ◌∙◌}
use Rattle.bk_walk.specs.Finding.{Finding}
use Rattle.bk_walk.proofs.member_table.MemberTable.class.Goals as goal

pub returns : goal.returns
returns g c = c.class.ensures ∙ ap (λ (f : Finding). f.class) c.self.view_is
