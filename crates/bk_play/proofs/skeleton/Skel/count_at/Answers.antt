use Rattle.bk_play.proofs.skeleton.Skel.count_at.Goals as goal

pub returns : goal.returns
returns c = c.record_at.ensures.count
