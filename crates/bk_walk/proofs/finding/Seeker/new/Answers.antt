use Rattle.bk_walk.proofs.finding.Seeker.new.Goals as goal

pub returns : goal.returns
returns g c = c.new.ensures
