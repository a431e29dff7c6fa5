use Rattle.bk_play.proofs.skeleton.Skel.valley_squares.Goals as goal

pub returns : goal.returns
returns c = c.valley_at.ensures.squares
