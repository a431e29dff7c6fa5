use Rattle.bk_run_tests.proofs.rows.walk_rows.goes_on_after_any_cursor.Given as goal

abbrev pub ghosts-cursors : goal.ghosts-cursors
ghosts-cursors g a = record { name = a.blank.name; parts = a.blank.parts }
