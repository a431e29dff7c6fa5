use Rattle.std.proofs.Common.{ap, ◌∙◌}
use Rattle.bk_play.specs.Skeleton.{signs_of}
use Rattle.bk_play.proofs.skeleton.Skel.played_signs.Goals as goal

pub returns : goal.returns
returns c = c.as_slice.ensures.value ∙ c.self.invariant.played_are ∙ ap signs_of c.self.view_is
