-- The count is that of its tree walk.
use Rattle.std.proofs.Common.{ap, ◌∙◌}
use Rattle.bk_members.specs.NextMember.{MembersState}
use Rattle.bk_walk.proofs.walk.TabledWalk.pushes.Goals as goal

pub returns : goal.returns
returns g c = c.pushes.ensures.value ∙ ap (λ (w : MembersState). w.pushes) c.self.view_is
