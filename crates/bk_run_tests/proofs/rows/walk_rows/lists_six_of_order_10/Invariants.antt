use Rattle.bk_run_tests.proofs.rows.walk_rows.lists_six_of_order_10.Given as goal

abbrev pub ghosts-order_10 : goal.ghosts-order_10
ghosts-order_10 g a = record { name = a.blank.name; parts = a.blank.parts }
