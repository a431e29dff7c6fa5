use Rattle.bk_list_tests.proofs.rows.verify_rows.a_list_is_held_against_its_catalogue.Given as goal

abbrev pub ghosts-verify_list : goal.ghosts-verify_list
ghosts-verify_list g a = record { name = a.blank.name; parts = a.blank.parts }
