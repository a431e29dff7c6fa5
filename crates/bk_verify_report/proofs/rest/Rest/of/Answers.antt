use Rattle.std.proofs.Common.{subst, sym}
use Rattle.bk_members.specs.NextMember.{MembersState}
use Rattle.bk_verify_report.proofs.Passing.{rest_none}
use Rattle.bk_verify_report.specs.Rest.{IsKeptRest}
use Rattle.bk_verify_report.proofs.rest.Rest.of.Goals as goal

pub invariant_of-result : goal.invariant_of-result
invariant_of-result g c = subst (λ (w : MembersState). IsKeptRest w 0) (sym c.after-walk.ensures) (rest_none c.order.result c.order.ensures.most)
