use Rattle.bk_pushes.proofs.counted.Given as goal

abbrev pub ghosts-walked : goal.ghosts-walked
ghosts-walked a = record { name = a.blank.name; parts = a.blank.parts }
