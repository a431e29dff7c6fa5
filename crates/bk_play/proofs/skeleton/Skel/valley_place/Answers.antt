-- The valley's place is the one that is found, and no valley stands behind the last sign.
use Rattle.std.proofs.Common.{arith}
use Rattle.bk_word.proofs.PlayLists.{place_within}
use Rattle.bk_word.specs.Play.{outline_of}
use Rattle.bk_play.proofs.skeleton.Skel.valley_place.Goals as goal

pub returns-clause-value : goal.returns-clause-value
returns-clause-value c = c.valley_at-place.ensures.place

pub returns-clause-within : goal.returns-clause-within
returns-clause-within c = omega (arith, c.valley_at-place.ensures.place, place_within (outline_of c.args.self.now).signs)
