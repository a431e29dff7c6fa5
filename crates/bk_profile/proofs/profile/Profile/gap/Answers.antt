use Rattle.std.proofs.Common.{subst}
use Rattle.bk_profile.proofs.Storing.{gap_read}
use Rattle.bk_profile.specs.Gap.{IsGap}
use Rattle.bk_profile.specs.Laid.{IsProfile, Laid}
use Rattle.bk_profile.proofs.profile.Profile.gap.Goals as goal

pub returns-clause-gap : goal.returns-clause-gap
returns-clause-gap c =
    subst (λ (p : Laid). IsGap p.width p.squares c.lowest_runs.result.segment) c.self.view_is
    (gap_read _ _ _ _ c.self.invariant c.deref.ensures.0 c.lowest_runs.ensures)

pub returns-clause-kept : goal.returns-clause-kept
returns-clause-kept c = subst IsProfile c.self.view_is c.self.invariant.profile
