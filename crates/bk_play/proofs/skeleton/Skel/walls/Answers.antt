-- The valley stands at the left wall if no segment is before it, and at the right one if no sign is behind it.
use Rattle.std.proofs.Common.{ap, length, nat_eq, ◌∙◌}
use Rattle.bk_word.specs.Play.{outline_of}
use Rattle.bk_word.specs.Word.{Word}
use Rattle.bk_play.proofs.skeleton.Skel.walls.Goals as goal

pub returns-clause-left : goal.returns-clause-left
returns-clause-left c = ap (λ n. nat_eq n 0) c.valley_at-place.ensures.place

pub returns-clause-right : goal.returns-clause-right
returns-clause-right c = λ i. nat_eq (c.valley_at-place.ensures.place i)
    ((c.len.ensures.value ∙ ap length c.self.invariant.shows.signs_are ∙ ap (λ (w : Word). length (outline_of w).signs) c.self.view_is) i)
