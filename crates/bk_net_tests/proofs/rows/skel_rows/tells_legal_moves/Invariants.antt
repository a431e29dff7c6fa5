use Rattle.bk_net_tests.proofs.rows.skel_rows.tells_legal_moves.Given as goal

abbrev pub ghosts-refuses_rows : goal.ghosts-refuses_rows
ghosts-refuses_rows g a = record { name = a.blank.name; parts = a.blank.parts }
