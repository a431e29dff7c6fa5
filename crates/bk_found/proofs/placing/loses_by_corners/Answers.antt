use Rattle.std.specs.Prelude.{not}
use Rattle.std.proofs.Common.{Bool, false, refl, true, ◌≡◌}
use Rattle.bk_found.proofs.placing.loses_by_corners.Goals as goal

passes : (b : Bool) → not b ≡ true → b ≡ false
passes true e = absurd (cc)
passes false e = refl

pub returns-then-not-any : goal.returns-then-not-any
returns-then-not-any c = λ e. absurd (cc)

pub returns : goal.returns
returns c = λ e. (c.longest_in_corners.result, c.longest_in_corners.ensures, c.corners_allow.ensures (passes c.corners_allow.result e))
