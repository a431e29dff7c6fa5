use Rattle.bk_run_tests.proofs.rows.walk_rows.lists_all_of_order_16.Given as goal

abbrev pub ghosts-whole_order_16 : goal.ghosts-whole_order_16
ghosts-whole_order_16 g a = record { name = a.blank.name; parts = a.blank.parts }
