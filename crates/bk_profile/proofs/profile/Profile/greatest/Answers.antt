use Rattle.std.proofs.Common.{subst}
use Rattle.bk_profile.proofs.Storing.{greatest_read}
use Rattle.bk_profile.specs.Laid.{IsGreatestDepth, Laid}
use Rattle.bk_profile.proofs.profile.Profile.greatest.Goals as goal

pub returns : goal.returns
returns c =
    subst (λ (p : Laid). IsGreatestDepth p c.highest.result) c.self.view_is
    (greatest_read _ _ _ c.highest.result c.self.invariant c.deref.ensures.0 c.highest.ensures.most c.highest.ensures.some)
