use Rattle.bk_run_tests.proofs.rows.walk_rows.equations_lose_no_member.Given as goal

abbrev pub ghosts-with_equations : goal.ghosts-with_equations
ghosts-with_equations g a = record { name = a.blank.name; parts = a.blank.parts }
